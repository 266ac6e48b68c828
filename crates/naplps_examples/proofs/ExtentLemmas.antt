use Rattle.std.proofs.Common.{ℕ, ◌≡◌, Bool, List, [], ◌∷◌, min, max, fold, refl, arith}
use Rattle.naplps.specs.declared.sink.Drawing.{Drawing}
use Rattle.naplps.specs.declared.sink.ShapeKind.{ShapeKind}
use Rattle.naplps.specs.declared.sink.ShapeKind.TheVariants as kinds
use Rattle.naplps.specs.Coordinates.{Coordinates}
use Rattle.naplps.specs.Shapes.{outline, circle_closed, shape_on}
use Rattle.naplps_examples.specs.declared.extent.Extent.{Extent}
use Rattle.naplps_examples.specs.Extents.{with_entry, with_point}

-- A point that is in an extent doesn't change it.

least : (a b c : ℕ) → min (min (min a b) c) b ≡ min (min a b) c
least a b c = omega arith

greatest : (a b c : ℕ) → max (max (max a b) c) b ≡ max (max a b) c
greatest a b c = omega arith

again : (e : Extent) (p q : Coordinates) → with_point (with_point (with_point e p) q) p ≡ with_point (with_point e p) q
again e p q = simp (least, greatest)

rounded : (e : Extent) (points : List Coordinates) → fold with_point e (circle_closed points) ≡ fold with_point e points
rounded e [] = refl
rounded e (p ∷ []) = refl
rounded e (p ∷ q ∷ []) = again e p q
rounded e (p ∷ q ∷ r ∷ rest) = refl

-- an arc or a polygon reaches as far as the points that it goes through
pub shape_reaches : (e : Extent) (kind : ShapeKind) (filled : Bool) (d : Drawing) (points : List Coordinates) →
    with_entry e (shape_on kind filled d (outline kind points)) ≡ fold with_point e points
shape_reaches e kinds.Arc filled d points = rounded e points
shape_reaches e kinds.Poly filled d points = refl
