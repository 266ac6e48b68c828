use Rattle.std.specs.Prelude.{List, None, Option, Some, [], option_map, ◌∷◌}
use Rattle.nap_draw.specs.Names.{Coordinates, Displacement, circle_closed, corner, displaced_point, point_at}
use Rattle.nap_draw.specs.declared.figures.Span.{Span}

-- The points that the operands of an opcode reach. The result is none if any of them is outside the unit screen.

-- a value and the list that follows from it, or none if either is missing
abbrev pub cons_if_all : {A : Type 0} → Option A → (A → Option (List A)) → Option (List A)
cons_if_all None next = None
cons_if_all (Some x) next = option_map (λ xs. x ∷ xs) (next x)

-- the last of the list, or the first argument if it is empty
unfoldable pub last_or : {A : Type 0} → Option A → List A → Option A
last_or o [] = o
last_or o (x ∷ xs) = last_or (Some x) xs

-- each operand as a point
unfoldable pub points_at : List Displacement → Option (List Coordinates)
points_at [] = Some []
points_at (m ∷ ms) = cons_if_all (point_at m) (λ _. points_at ms)

-- the points reached from this point by displacements, one after another
unfoldable pub points_reached : Coordinates → List Displacement → Option (List Coordinates)
points_reached p [] = Some []
points_reached p (m ∷ ms) = cons_if_all (displaced_point p m) (λ q. points_reached q ms)

-- the spans from each point to the next
unfoldable pub polyline_spans : Coordinates → List Coordinates → List Span
polyline_spans p [] = []
polyline_spans p (q ∷ qs) = record { from = p; to = q } ∷ polyline_spans q qs

-- the span between two points, if both are there
abbrev pub span : Option Coordinates → Option Coordinates → Option Span
span (Some p) (Some q) = Some (record { from = p; to = q })
span _ _ = None

-- pairs of operands as spans: from a point to a point
unfoldable pub absolute_spans : List Displacement → Option (List Span)
absolute_spans [] = Some []
absolute_spans (m ∷ []) = None
absolute_spans (m ∷ n ∷ ms) = cons_if_all (span (point_at m) (point_at n)) (λ _. absolute_spans ms)

-- the span from a point by a displacement
abbrev pub span_by : Option Coordinates → Displacement → Option Span
span_by None m = None
span_by (Some p) m = span (Some p) (displaced_point p m)

-- pairs of operands as spans: from a point by a displacement
unfoldable pub relative_spans : List Displacement → Option (List Span)
relative_spans [] = Some []
relative_spans (m ∷ []) = None
relative_spans (m ∷ n ∷ ms) = cons_if_all (span_by (point_at m) n) (λ _. relative_spans ms)

-- the spans of rectangles: each from where the one before it leaves the pen, by a displacement
unfoldable pub rect_chain_spans : Coordinates → List Displacement → Option (List Span)
rect_chain_spans p [] = Some []
rect_chain_spans p (m ∷ ms) = cons_if_all (span_by (Some p) m) (λ s. rect_chain_spans (corner s.from s.to) ms)

-- the points of a polygon: its start, and those reached from it
abbrev pub poly_points : Coordinates → List Displacement → Option (List Coordinates)
poly_points p ms = option_map (λ qs. p ∷ qs) (points_reached p ms)

-- the points of an arc: its start, and those reached from it; closed to a circle if there are only two
abbrev pub arc_points : Coordinates → List Displacement → Option (List Coordinates)
arc_points p ms = option_map (λ qs. circle_closed (p ∷ qs)) (points_reached p ms)
