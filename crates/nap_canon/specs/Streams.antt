use Rattle.std.specs.Prelude.{List, None, length, ℕ, ◌≡◌, ◌⊎◌}
use Rattle.nap_canon.specs.{Names.BreaksWithin, Names.Entry, Names.means, Text.text}

-- the stream is accepted
abbrev pub IsAccepted : ℕ → List ℕ → Type 0
IsAccepted budget p = (means budget p).refusal ≡ None

-- the display list of a stream
abbrev pub list_of : ℕ → List ℕ → List Entry
list_of budget p = (means budget p).entries

-- the first stream is the canonical stream of the second, which is accepted: the text of its list
pub record IsCanonicalOf (budget : ℕ) (c p : List ℕ) : Type 0 where
  pub accepted : IsAccepted budget p
  pub text_is : c ≡ text (list_of budget p)

-- the stream is accepted, and memory ran out for its text, which is so at its end
pub record LacksTextMemory (budget : ℕ) (p : List ℕ) (place : ℕ) : Type 0 where
  pub accepted : IsAccepted budget p
  pub place_is : place ≡ length p

-- memory ran out at this place: for the list, or for the text
abbrev pub LacksMemoryAt : ℕ → List ℕ → ℕ → Type 0
LacksMemoryAt budget p place = BreaksWithin budget p place ⊎ LacksTextMemory budget p place
