use Rattle.nap_command.proofs.{CommandLemmas.flag_stays, Consumes-trans, err_from_is_err_and, take, ◌++◌}
use Rattle.nap_command.proofs.device.read_whole.Goals as goal

pub returns-in_err-extend_from_slice-clause-read : goal.returns-in_err-extend_from_slice-clause-read
returns-in_err-extend_from_slice-clause-read g c =
    let piece = take c.in-Ok.count c.read.new.room in
    let memory = err_from_is_err_and c.from_residual.result c.from_residual.ensures.1 in
    let none_failed = flag_stays _ _ _ c.loop.invariant.flag c.in-Ok.ensures.failed in
    (c.loop.bytes.items ++ piece, Consumes-trans _ _ _ c.loop.bytes.items piece c.loop.invariant.read c.in-Ok.ensures.bytes.0, rw (memory.1, memory.2) none_failed)
