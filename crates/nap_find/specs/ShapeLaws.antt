use Rattle.std.proofs.Common.{Bool, List, None, Option, Some, [], ap, arith, false, if◌then◌else◌, length, length-append, map, refl, sym, ℕ, ◌+◌, ◌++◌, ◌∙◌, ◌∷◌, ◌≡◌}
use Rattle.nap_codes.specs.{Tables.format_effector, declared.code_set.CharSet.CharSet, declared.control.TextStep.TextStep}
use Rattle.nap_list.specs.Batches.{batch_entries, point_entry, polyline_entries, text_entries_in, text_entry_as}
use Rattle.nap_list.specs.declared.{attribute.Hand.Hand, attribute.Pen.Pen, batch.Batch.Batch, state.Drawing.Drawing}
use Rattle.nap_list.specs.declared.entry.Entry.{Entry}
use Rattle.nap_list.specs.declared.state.State.{State}
use Rattle.nap_list.specs.Shapes.{shape_entry}
use Rattle.nap_list.specs.declared.attribute.Ink.{Ink}
use Rattle.nap_list.specs.declared.shape.ShapeKind.{ShapeKind}
use Rattle.nap_list.specs.State.{hand_of, walk}
use Rattle.nap_values.specs.Coordinates.{Coordinates}
use Rattle.nap_list.specs.Walks.{walks_join}
use Rattle.nap_find.specs.Shapes.{CountsDrawn, capped_sum, is_shape, shapes_in}
use Rattle.nap_find.specs.declared.drawn_sink.DrawnSink.{DrawnSink}

-- The laws of a sink, for one that counts shapes.

join_one : (n a b c : ℕ) → a ≡ b + c → n + a ≡ n + b + c
join_one n a b c is = omega arith

pub shapes_join : (d e : List Entry) → shapes_in (d ++ e) ≡ shapes_in d + shapes_in e
shapes_join [] e = omega arith
shapes_join (x ∷ d) e = join_one (if is_shape x then 1 else 0) (shapes_in (d ++ e)) (shapes_in d) (shapes_in e) (shapes_join d e)

pub capped_none : (n : ℕ) → n ≡ capped_sum n 0
capped_none n = omega arith

pub capped_join : (n a b c t u : ℕ) → c ≡ a + b → t ≡ capped_sum n a → u ≡ capped_sum t b → u ≡ capped_sum n c
capped_join n a b c t u all first second = omega arith

pub drawn_none : (s : DrawnSink) → CountsDrawn s [] s
unfolding walk
drawn_none s = record { entries = capped_none s.entries; shapes = capped_none s.shapes; state = refl }

pub drawn_more : (s t u : DrawnSink) (d e : List Entry) → CountsDrawn s d t → CountsDrawn t e u → CountsDrawn s (d ++ e) u
drawn_more s t u d e first second = record {
  entries = capped_join s.entries (length d) (length e) (length (d ++ e)) t.entries u.entries (length-append d e) first.entries second.entries;
  shapes = capped_join s.shapes (shapes_in d) (shapes_in e) (shapes_in (d ++ e)) t.shapes u.shapes (shapes_join d e) first.shapes second.shapes;
  state = second.state ∙ ap (λ (state : State). walk state e) first.state ∙ sym (walks_join s.state.state d e);
}

-- an arc or a polygon is one shape
pub one_shape : (kind : ShapeKind) (filled : Bool) (points : List Coordinates) (ink : Ink) → shapes_in (shape_entry kind filled points ink ∷ []) ≡ 1
one_shape ShapeKind.Arc filled points ink = refl
one_shape ShapeKind.Poly filled points ink = refl

pub points_are_shapes : (d : Drawing) (points : List Coordinates) → shapes_in (map (point_entry d) points) ≡ length points
points_are_shapes d [] = refl
points_are_shapes d (p ∷ ps) = let h = points_are_shapes d ps in omega (arith, h)

pub lines_are_shapes : (d : Drawing) (from : Coordinates) (points : List Coordinates) → shapes_in (polyline_entries d from points) ≡ length points
unfolding polyline_entries
lines_are_shapes d from [] = refl
lines_are_shapes d from (p ∷ ps) = let h = lines_are_shapes d p ps in omega (arith, h)

no_shape : (step : Option TextStep) (set : CharSet) (hand : Hand) (code : ℕ) → is_shape (text_entry_as step set hand code) ≡ false
no_shape (Some step) set hand code = refl
no_shape None set hand code = refl

pub text_has_no_shapes : (set : CharSet) (hand : Hand) (codes : List ℕ) → shapes_in (text_entries_in set hand codes) ≡ 0
unfolding text_entries_in
text_has_no_shapes set hand [] = refl
text_has_no_shapes set hand (c ∷ cs) =
    let h = text_has_no_shapes set (record hand { pen = Pen.After }) cs in
    rw (no_shape (format_effector c) set hand c) (omega (arith, h))

-- the shapes of a batch

pub shapes_of_points : (b : Batch) (points : _) (d : _) → b ≡ Batch.Points points d → length points.now ≡ shapes_in (batch_entries b)
shapes_of_points b points d is = rw is (sym (points_are_shapes d.now points.now))

pub shapes_of_lines : (b : Batch) (from : _) (points : _) (d : _) → b ≡ Batch.Lines from points d → length points.now ≡ shapes_in (batch_entries b)
shapes_of_lines b from points d is = rw is (sym (lines_are_shapes d.now from points.now))

pub shapes_of_text : (b : Batch) (set : _) (codes : _) (pen : _) (d : _) → b ≡ Batch.Text set codes pen d → 0 ≡ shapes_in (batch_entries b)
shapes_of_text b set codes pen d is = rw is (sym (text_has_no_shapes set (record (hand_of d.now) { pen = pen }) codes.now))
