use Rattle.nap_cli.proofs.{refl}
use Rattle.nap_cli.proofs.reporting.run_buffered.Goals as goal

pub returns : goal.returns
returns g c =
    let ran = rw (c.new.ensures, c.new-notes.ensures, c.requires.empty) at c.run-output.ensures in
    let reported = c.tell-status.ensures in
    record {
      after = _;
      ended = c.run-output.result.1;
      answers = ran;
      rest = c.into_parts-writer.result.1.items;
      taken = rw (c.into_parts-writer.ensures.inner, c.into_parts-writer.ensures.buffer, c.into_inner.ensures) refl;
      notes = c.run-output.new.errors.writer.items;
      noted = refl;
      e = reported.0;
      appended = reported.1;
      tells = rw c.failed-failed.ensures at reported.2;
    }
