use Rattle.nap_reader.proofs.{CountedSink, Err, PutSome, [], err_from_is_err_and, made, puts_none, subst, ◌∷◌}
use Rattle.nap_reader.proofs.Common.{counting, entry_of_shape, sink_model_of}
use Rattle.nap_reader.proofs.counting.CountingSinkSink.put_shape.Goals as goal

pub returns-in_err-put_shape : goal.returns-in_err-put_shape
returns-in_err-put_shape g c =
    let x = entry_of_shape c.args.shape.now in
    let s = made c.self.inside.sink c.self.inside.count in
    let t = c.put_shape.new.self in
    let f = c.in_err-put_shape.field-0.0 in
    let e = err_from_is_err_and c.from_residual.result c.from_residual.ensures.1 in
    rw (e.1, e.2) (subst (λ (s : CountedSink g.row.S.Denot). PutSome {A = Unit {0}} (sink_model_of (counting g.S.Sink)) (x ∷ []) s (made t c.self.inside.count) (Err f)) c.self.view_is
    (puts_none g.S.Sink x s t f c.in_err-put_shape.ensures))
