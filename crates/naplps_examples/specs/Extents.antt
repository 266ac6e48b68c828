use Rattle.std.proofs.Common.{◌≡◌, List, [], ◌∷◌, ◌++◌, min, max, fold, refl, ap, sym, ◌∙◌}
use Rattle.std.proofs.lemmas.Grind.{fold-append}
use Rattle.naplps.specs.declared.Entry.{Entry}
use Rattle.naplps.specs.declared.Entry.TheVariants as entry
use Rattle.naplps.specs.declared.sink.State.{State}
use Rattle.naplps.specs.Coordinates.{Coordinates}
use Rattle.naplps.specs.State.{walk}
use Rattle.naplps.specs.Walks.{walks_join}
use Rattle.naplps_examples.specs.declared.extent.Extent.{Extent}
use Rattle.naplps_examples.specs.declared.extent.ExtentSink.{ExtentSink}

-- the points that a shape goes through; where characters are drawn, only a terminal knows
abbrev pub points_of : Entry → List Coordinates
points_of (entry.Point at pel colour) = at ∷ []
points_of (entry.Line from to ink) = from ∷ to ∷ []
points_of (entry.Arc filled points ink) = points
points_of (entry.Rect filled from to ink) = from ∷ to ∷ []
points_of (entry.Poly filled points ink) = points
points_of _ = []

-- the extent of no points
abbrev pub nowhere : Extent
nowhere = record { left = 8388608; bottom = 8388608; right = 0; top = 0 }

-- the extent with one more point
abbrev pub with_point : Extent → Coordinates → Extent
with_point e p = record { left = min e.left p.x; bottom = min e.bottom p.y; right = max e.right p.x; top = max e.top p.y }

-- the extent with the points of one more entry
abbrev pub with_entry : Extent → Entry → Extent
with_entry e x = fold with_point e (points_of x)

-- the extent with the points of these entries
abbrev pub with_entries : Extent → List Entry → Extent
with_entries e xs = fold with_entry e xs

-- A sink took these entries.
pub record TookEntries (s : ExtentSink) (d : List Entry) (t : ExtentSink) : Type 0 where
  pub extent : t.extent ≡ with_entries s.extent d
  pub state : t.state ≡ walk s.state d

-- The members of the trait for this sink.

pub reaches_none : (s : ExtentSink) → TookEntries s [] s
unfolding walk
reaches_none s = record { extent = refl; state = refl }

pub reaches_more : (s t u : ExtentSink) (d e : List Entry) → TookEntries s d t → TookEntries t e u → TookEntries s (d ++ e) u
reaches_more s t u d e first second = record {
  extent = second.extent ∙ ap (λ (extent : Extent). with_entries extent e) first.extent ∙ sym (fold-append with_entry s.extent d e);
  state = second.state ∙ ap (λ (state : State). walk state e) first.state ∙ sym (walks_join s.state d e);
}
