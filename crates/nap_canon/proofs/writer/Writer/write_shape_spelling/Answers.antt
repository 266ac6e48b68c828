use Rattle.nap_canon.proofs.{List, Piece, Texts.arc_spelled, Texts.one_written, Texts.poly_spelled, WritesPendingAnd, WritesPieces, attributes, circle_closed, entry_of_shape, opcode, shape, shape_bytes, subst, sym, with_attributes, ◌∷◌}
use Rattle.nap_canon.proofs.writer.Writer.write_shape_spelling.Goals as goal

pub returns-in-Arc : goal.returns-in-Arc
returns-in-Arc g c =
    let w = c.args.self.now in
    let t = c.write_arc.new.self in
    let s = c.args.shape.now in
    subst (λ (ps : List Piece). WritesPieces g.T.ByteSink.sent ps w t c.write_arc.result) (sym (arc_spelled w.form (with_attributes w.state.drawing (attributes (entry_of_shape s))) s c.in-Arc.is))
    (one_written (shape 0x2E s.filled (circle_closed (s.from ∷ s.others.now))) c.write_arc.ensures)

pub returns-in-Poly : goal.returns-in-Poly
returns-in-Poly g c =
    let w = c.args.self.now in
    let t = c.write_path.new.self in
    let s = c.args.shape.now in
    subst (λ (ps : List Piece). WritesPieces g.T.ByteSink.sent ps w t c.write_path.result) (sym (poly_spelled w.form (with_attributes w.state.drawing (attributes (entry_of_shape s))) s c.in-Poly.is))
    (one_written (shape 0x36 s.filled (s.from ∷ s.others.now))
    (subst (λ code. WritesPendingAnd g.T.ByteSink.sent (opcode code (shape_bytes (s.from ∷ s.others.now))) w t c.write_path.result) c.shape_opcode.ensures c.write_path.ensures))
