use Rattle.nap_canon.proofs.{Bool, Coordinates, Drawing, List, ShapeKind, Texts.prelude_fails, Texts.prelude_written, attributes, entry_of_shape, err_from_is_err_and, ink_attributes, ink_of, refl, shape_on, ◌≡◌}
use Rattle.nap_canon.proofs.writer.Writer.put_shape.Goals as goal

-- a shape holds the attributes for lines and areas
of_ink : (kind : ShapeKind) (filled : Bool) (d : Drawing) (points : List Coordinates) → ink_attributes (ink_of d) ≡ attributes (shape_on kind filled d points)
of_ink ShapeKind.Arc filled d points = refl
of_ink ShapeKind.Poly filled d points = refl

pub returns-in_err-write_shape_spelling : goal.returns-in_err-write_shape_spelling
returns-in_err-write_shape_spelling g c =
    let s = c.args.shape.now in
    let holds = of_ink s.kind s.filled s.drawing.now _ in
    let failure = err_from_is_err_and c.from_residual.result c.from_residual.ensures.1 in
    rw failure.1 (prelude_fails g.T.ByteSink.sent c.args.self.now (entry_of_shape s) (ink_attributes (ink_of s.drawing.now)) holds c.clear.ensures c.drawing.ensures c.append_drawing_prelude-is_current.ensures.appends failure.0 c.in_err-write_shape_spelling.ensures)

pub returns : goal.returns
returns g c =
    let s = c.args.shape.now in
    let holds = of_ink s.kind s.filled s.drawing.now _ in
    prelude_written g.T.ByteSink.sent c.args.self.now (entry_of_shape s) (ink_attributes (ink_of s.drawing.now)) holds c.clear.ensures c.drawing.ensures c.append_drawing_prelude-is_current.ensures.appends c.in_ok-write_shape_spelling.ensures _ c.step_shape.ensures
