use Rattle.nap_canon.proofs.{Canonical, Err, PutSome, Sinks.none_put, Sinks.one_breaks, Sinks.sink_of_writer, Sinks.takes_all, Sinks.took_answered, TakesAll, Write, [], canon_sink_model, entry_of_shape, false, subst, sym, ◌∙◌, ◌∷◌, ◌≡◌}
use Rattle.nap_canon.proofs.canon_sink.CanonSinkSink.put_shape.Goals.{then-failed-via-else-failed+then-is_err, then-failed-via-then-failed}
use Rattle.nap_canon.proofs.canon_sink.CanonSinkSink.put_shape.Goals as goal

pub returns-then-failed : goal.returns-then-failed
returns-then-failed g c =
    let o = g.O.Outlet in
    let s = sink_of_writer c.self.inside.writer in
    let x = entry_of_shape c.args.shape.now in
    elim c.then-failed.branch [
      | then-failed-via-then-failed b ↦
          let none = none_put o c.args.self.now (x ∷ []) (sym c.failed.ensures ∙ b.if-failed.true) in
          subst (λ (t : Canonical _). PutSome {A = Unit {0}} (canon_sink_model o) (x ∷ []) c.args.self.now t (Err Write)) (sym b.self-is) (0, none.0, none.1)
      | then-failed-via-else-failed+then-is_err b ↦
          let t = sink_of_writer b.put_shape.new.self in
          let works : o.failed s.outlet ≡ false = subst (λ (s : Canonical _). o.failed s.outlet ≡ false) (sym c.self.view_is) (sym c.failed.ensures ∙ b.if-failed.false) in
          subst (λ (t : Canonical _). PutSome {A = Unit {0}} (canon_sink_model o) (x ∷ []) c.args.self.now t (Err Write)) (sym b.self-is)
          (subst (λ (s : Canonical _). PutSome {A = Unit {0}} (canon_sink_model o) (x ∷ []) s t (Err Write)) c.self.view_is
          (one_breaks o s t works x b.put_shape.result (sym b.is_err.ensures.value ∙ b.if-is_err.true) b.put_shape.ensures.sent b.put_shape.ensures.still))
    ]

pub returns : goal.returns
returns g c =
    let o = g.O.Outlet in
    let s = sink_of_writer c.self.inside.writer in
    let t = sink_of_writer c.put_shape.new.self in
    let x = entry_of_shape c.args.shape.now in
    let works : o.failed s.outlet ≡ false = subst (λ (s : Canonical _). o.failed s.outlet ≡ false) (sym c.self.view_is) (sym c.failed.ensures ∙ c.if-failed.false) in
    let put = c.put_shape.ensures in
    subst (λ (s : Canonical _). TakesAll (canon_sink_model o) (x ∷ []) s t) c.self.view_is
    (takes_all o s t works (x ∷ []) (took_answered o x c.put_shape.result (sym c.is_err.ensures.value ∙ c.if-is_err.false) put.sent put.form put.text_end put.state))
