use Rattle.nap_command.proofs.{CommandLemmas.ends_printing, FailsToMake, reading}
use Rattle.nap_command.specs.Making.{FindsPage}
use Rattle.nap_command.proofs.execution.execute_make.Goals as goal

pub returns : goal.returns
returns g c =
    let seen = reading g.I.Inlet c.args.input.now c.find_page.new.input in
    let (p, read, finds) = c.find_page.ensures.found in
    let (q, sent, printed) = c.print_found-output.ensures.ends in
    let (e, reported, tells) = c.report_end-2.ensures in
    record {
      p = p;
      q = q;
      e = e;
      ended = c.print_found-output.result.1;
      read = read;
      printed = sent;
      reported = reported;
      few = c.find_page.ensures.few;
      ends = rw c.if-stream.false (ends_printing (FindsPage p seen) (FailsToMake p seen) c.find_page.result q (g.O.Outlet.failed c.print_found-output.result.0) c.print_found-output.result.1 finds printed);
      sends = c.print_found-output.ensures.sends;
      flushes = c.print_found-output.ensures.flushes;
      tells = tells;
    }
