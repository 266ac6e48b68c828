use Rattle.std.specs.Prelude.{ℕ, List, [], ◌∷◌, ◌++◌, codes}
use Rattle.nap_values.specs.Coordinates.{Coordinates}
use Rattle.nap_list.specs.{declared.entry.Entry.Entry, declared.shape.ShapeKind.ShapeKind}
use Rattle.nap_lines.specs.Lines.{fill_text, points_text, ink_text, line}

-- A line in two parts, and a shape's line in more.

-- the line of a shape up to its points, and nothing of any other entry
abbrev pub first_part : Entry → List ℕ
first_part (Entry.Arc filled points ink) = codes "ARC-" ++ fill_text filled ++ points_text points
first_part (Entry.Poly filled points ink) = codes "POLY-" ++ fill_text filled ++ points_text points
first_part _ = []

-- the line of a shape after its points, and all of the line of any other entry
abbrev pub last_part : Entry → List ℕ
last_part (Entry.Arc filled points ink) = codes " " ++ ink_text ink
last_part (Entry.Poly filled points ink) = codes " " ++ ink_text ink
last_part e = line e

-- the beginning of the line of a shape
abbrev pub shape_name : ShapeKind → List ℕ
shape_name ShapeKind.Arc = codes "ARC-"
shape_name ShapeKind.Poly = codes "POLY-"

-- the points after those that a shape goes through: the start again for an arc of one displacement
abbrev pub closing_points : ShapeKind → Coordinates → List Coordinates → List Coordinates
closing_points ShapeKind.Arc p (q ∷ []) = p ∷ []
closing_points _ p points = []
