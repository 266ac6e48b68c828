use Rattle.nap_command.proofs.{ap, arith, pipes, refl, subst, sym}
use Rattle.nap_command.proofs.SessionLemmas.{Going, ends, ends_full, ends_unbegun, one_more_answered, starts}
use Rattle.nap_command.proofs.batch.service.serve.Goals as goal

pub returns-in_default : goal.returns-in_default
returns-in_default g c = ends_unbegun (pipes g.I.Inlet g.O.Outlet c.args.input.now c.args.output.now)

pub loop-init : goal.loop-init
loop-init g c =
    let p = pipes g.I.Inlet g.O.Outlet c.args.input.now c.args.output.now in
    record { scratch = refl; going = subst (λ buffer. Going p p buffer 0 0) (sym (ap (λ b. b.bytes) c.over-buffer.ensures)) (starts p) }

pub loop-preserved : goal.loop-preserved
loop-preserved g c =
    record { scratch = c.exchange.ensures.space; going = one_more_answered c.loop.invariant.going c.in-Ok-exchange.ensures.exchanged }

pub returns-in-Err : goal.returns-in-Err
returns-in-Err g c = ends c.loop.invariant.going c.in-Err.ensures.exchanged

pub returns : goal.returns
returns g c = ends_full (omega (arith, c.loop-test.false)) c.loop.invariant.going
