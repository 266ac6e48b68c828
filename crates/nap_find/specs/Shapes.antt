use Rattle.std.specs.Prelude.{Bool, List, [], false, if◌then◌else◌, length, max, min, true, ℕ, ◌+◌, ◌-◌, ◌^◌, ◌∷◌, ◌≡◌}
use Rattle.nap_list.specs.declared.entry.Entry.{Entry}
use Rattle.nap_list.specs.State.{walk}
use Rattle.nap_find.specs.declared.drawn_sink.DrawnSink.{DrawnSink}

-- What a list draws.

-- whether an entry is a point, line, arc, rectangle or polygon
abbrev pub is_shape : Entry → Bool
is_shape (Entry.Point at pel colour) = true
is_shape (Entry.Line from to ink) = true
is_shape (Entry.Arc filled points ink) = true
is_shape (Entry.Rect filled from to ink) = true
is_shape (Entry.Poly filled points ink) = true
is_shape _ = false

-- the number of shapes of a list
abbrev pub shapes_in : List Entry → ℕ
shapes_in [] = 0
shapes_in (e ∷ es) = (if is_shape e then 1 else 0) + shapes_in es

-- a sum that grows no further than the greatest number of 64 bits
abbrev pub capped_sum : ℕ → ℕ → ℕ
capped_sum a b = max a (min (a + b) (2 ^ 64 - 1))

-- a counting sink took these entries
pub record CountsDrawn (s : DrawnSink) (d : List Entry) (t : DrawnSink) : Type 0 where
  pub entries : t.entries ≡ capped_sum s.entries (length d)
  pub shapes : t.shapes ≡ capped_sum s.shapes (shapes_in d)
  pub state : t.state.state ≡ walk s.state.state d
