use Rattle.nap_command.proofs.{arith, err_from_is_err_and}
use Rattle.nap_command.proofs.FrontLemmas.{drops_step, ends_step, fails_step, longer_step, stops_step}
use Rattle.nap_command.proofs.batch.waiting.read_more.Goals as goal

pub returns-in_err-skip-in-Err-Memory-clause-steps : goal.returns-in_err-skip-in-Err-Memory-clause-steps
returns-in_err-skip-in-Err-Memory-clause-steps g c =
    let lacks = rw c.in-Err-Memory.field-0-is at c.in-Err-Memory.ensures.reads.reads in
    let takes = rw c.in-Err-Memory.field-0-is at c.in-Err-Memory.ensures.memory in
    let e = err_from_is_err_and c.from_residual.result c.from_residual.ensures.1 in
    rw (e.1, e.2) (stops_step g.I.Inlet _ _ c.requires.more _ c.args.most _ _ _ _ lacks takes _ c.clear.ensures _ c.requires.most c.in_err-skip-in-Err-Memory.ensures.skipped)

pub returns-in-Ok-eq0-clause-steps : goal.returns-in-Ok-eq0-clause-steps
returns-in-Ok-eq0-clause-steps g c =
    rw c.end_of.ensures (ends_step g.I.Inlet _ _ c.requires.more _ _ _ c.in-Ok-eq0.ensures.memory (rw c.in-Ok-eq0.field-0-test at c.in-Ok-eq0.ensures.reads.reads))

pub returns-in-Ok-clause-steps : goal.returns-in-Ok-clause-steps
returns-in-Ok-clause-steps g c =
    longer_step g.I.Inlet _ _ c.requires.more _ _ _ c.in-Ok.ensures.memory _ (omega (arith, c.in-Ok.field-0-test)) c.in-Ok.ensures.reads.reads

pub returns-in-Err-Read-clause-steps : goal.returns-in-Err-Read-clause-steps
returns-in-Err-Read-clause-steps g c =
    fails_step g.I.Inlet _ _ c.requires.more _ _ _ (rw c.in-Err-Read.field-0-is at c.in-Err-Read.ensures.memory)
    (rw c.in-Err-Read.field-0-is at c.in-Err-Read.ensures.reads.reads)

pub returns-in_ok-skip-in-Err-Memory-clause-steps : goal.returns-in_ok-skip-in-Err-Memory-clause-steps
returns-in_ok-skip-in-Err-Memory-clause-steps g c =
    drops_step g.I.Inlet _ _ c.requires.more _ c.args.most _ _ _ _ (rw c.in-Err-Memory.field-0-is at c.in-Err-Memory.ensures.reads.reads)
    (rw c.in-Err-Memory.field-0-is at c.in-Err-Memory.ensures.memory) _ c.clear.ensures _ c.in_ok-skip-in-Err-Memory.ensures.skipped
