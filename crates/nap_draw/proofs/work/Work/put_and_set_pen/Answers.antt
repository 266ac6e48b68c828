use Rattle.nap_draw.proofs.{Execution.obeys_put, Execution.obeys_stop, arith, refl, walk}
use Rattle.nap_draw.proofs.work.Work.put_and_set_pen.Goals as goal

pub returns-in_err-put : goal.returns-in_err-put
returns-in_err-put g c = obeys_stop _ c.from_residual.ensures.1 (g.met.S.Sink.took_none _) g.met.S.Sink.wants_more refl (λ none. cc) c.in_err-put.ensures

pub returns : goal.returns
unfolding walk
returns g c = grind (arith, obeys_put)
