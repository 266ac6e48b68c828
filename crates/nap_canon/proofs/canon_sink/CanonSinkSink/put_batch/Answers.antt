use Rattle.nap_canon.proofs.{Canonical, Drawing, FirstIsCurrent, Sinks.each_current, ap, refl, subst, ◌∙◌}
use Rattle.nap_canon.proofs.canon_sink.CanonSinkSink.put_batch.Goals as goal

pub put_current-requires-clause-current : goal.put_current-requires-clause-current
put_current-requires-clause-current g c =
    each_current c.args.batch.now c.args.self.now.state
    (subst (λ (d : Drawing). FirstIsCurrent c.args.batch.now d) (c.drawing.ensures ∙ ap (λ (s : Canonical _). s.state.drawing) c.self.view_is) (c.if-batch_begins_current.ensures.0 refl))
