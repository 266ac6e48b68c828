use Rattle.nap_canon.proofs.{Err, List, Ok, Piece, Texts.one_written, Texts.prelude_fails, Texts.prelude_written, WritesPieces, attributes, err_from_is_err_and, opcode, refl, shape_bytes, subst, sym, with_attributes}
use Rattle.nap_canon.proofs.writer.Writer.put_path.Goals as goal

pub returns-in_err-write_shape : goal.returns-in_err-write_shape
returns-in_err-write_shape g c =
    let w = c.args.self.now in
    let e = c.args.entry.now in
    let path = c.in-Some.path in
    let r = c.append_prelude in
    let u = c.write_shape.new.self in
    let failure = err_from_is_err_and c.from_residual.result c.from_residual.ensures.1 in
    rw failure.1 (prelude_fails g.T.ByteSink.sent w e (attributes e) refl c.clear.ensures c.drawing.ensures r.ensures.appends failure.0
    (subst (λ (ps : List Piece). WritesPieces g.T.ByteSink.sent ps (record w { pending = r.new.self }) u (Err c.in_err-write_shape.field-0.0)) (sym (c.in-Some.ensures w.form (with_attributes w.state.drawing (attributes e))))
    (one_written (opcode path.opcode (shape_bytes path.points.now)) c.in_err-write_shape.ensures)))

pub returns : goal.returns
returns g c =
    let w = c.args.self.now in
    let e = c.args.entry.now in
    let path = c.in-Some.path in
    let r = c.append_prelude in
    let u = c.write_shape.new.self in
    prelude_written g.T.ByteSink.sent w e (attributes e) refl c.clear.ensures c.drawing.ensures r.ensures.appends
    (subst (λ (ps : List Piece). WritesPieces {E = g.row.T-Fault.Denot} g.T.ByteSink.sent ps (record w { pending = r.new.self }) u (Ok tt)) (sym (c.in-Some.ensures w.form (with_attributes w.state.drawing (attributes e))))
    (one_written (opcode path.opcode (shape_bytes path.points.now)) c.in_ok-write_shape.ensures)) _ c.step.ensures
