use Rattle.nap_command.proofs.{CommandLemmas.reported_written}
use Rattle.nap_command.proofs.execution.report.Goals as goal

pub returns : goal.returns
returns g c =
    let takes = rw (c.as_bytes.ensures.value, c.deref.ensures.0, c.line-line.ensures) at c.write_whole.ensures.takes in
    let (e, took, reported) = reported_written _ _ _ c.write_whole.result _ _ takes c.write_whole.ensures.failed in
    (e, took, (reported, c.status.ensures))
