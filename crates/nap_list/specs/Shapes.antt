use Rattle.std.specs.Prelude.{Bool, List, [], length, slice_get, unwrap_or, ◌-◌, ◌∷◌}
use Rattle.nap_list.specs.{Names.Coordinates, Types.Drawing, Types.Entry, Types.Ink, Types.Shape, Types.ShapeKind, State.ink_of}

-- Arcs and polygons, and the pen after them.

-- the points of an arc, closed to a circle if there are only two
abbrev pub circle_closed : List Coordinates → List Coordinates
circle_closed (p ∷ q ∷ []) = p ∷ q ∷ p ∷ []
circle_closed points = points

-- the points of an arc or polygon through these points
abbrev pub outline : ShapeKind → List Coordinates → List Coordinates
outline ShapeKind.Arc points = circle_closed points
outline ShapeKind.Poly points = points

-- an arc or polygon through these points, with these attributes
abbrev pub shape_entry : ShapeKind → Bool → List Coordinates → Ink → Entry
shape_entry ShapeKind.Arc filled points ink = Entry.Arc filled points ink
shape_entry ShapeKind.Poly filled points ink = Entry.Poly filled points ink

-- an arc or polygon through these points, with the current attributes
abbrev pub shape_on : ShapeKind → Bool → Drawing → List Coordinates → Entry
shape_on kind filled d points = shape_entry kind filled points (ink_of d)

-- the pen after an arc or polygon through these points, of which this is the first
abbrev pub shape_end : ShapeKind → Coordinates → List Coordinates → Coordinates
shape_end ShapeKind.Arc p points = unwrap_or (slice_get points (length points - 1)) p
shape_end ShapeKind.Poly p points = p

-- the points of a shape, its start included
abbrev pub shape_points : Shape → List Coordinates
shape_points shape = outline shape.kind (shape.from ∷ shape.others.now)

-- the entry of a shape
abbrev pub entry_of_shape : Shape → Entry
entry_of_shape shape = shape_on shape.kind shape.filled shape.drawing.now (shape_points shape)
