use Rattle.std.specs.Prelude.{List, ℕ, ◌↔◌, ◌≡◌}
use Rattle.nap_make.specs.{Types.lines, Making.IsMadeOf}
use Rattle.nap_reader.specs.Stream.{means}
use Rattle.nap_canon.specs.Streams.{IsAccepted, list_of, IsCanonicalOf}

-- Two accepted pages have equal canonical streams exactly if their lists have equal lines, whatever their budgets.
abbrev pub ListsTellStreams : Type 0
ListsTellStreams = (budget other : ℕ) (c p d q : List ℕ) → IsCanonicalOf budget c p → IsCanonicalOf other d q →
    (c ≡ d) ↔ (lines (list_of budget p) ≡ lines (list_of other q))

-- the list of a page that was made of these lines has these lines under any budget, and nothing is charged
pub record ListsAgain (budget : ℕ) (c p : List ℕ) : Type 0 where
  pub accepted : IsAccepted budget c
  pub lines_are : lines (list_of budget c) ≡ p
  pub uncharged : (means budget c).machine.left ≡ budget

-- the laws of pages made of lines
pub record MadePages (budget : ℕ) : Type 0 where
  -- Lines make at most one page.
  pub one : (c d p : List ℕ) → IsMadeOf c p → IsMadeOf d p → c ≡ d
  -- The list of a page made of lines has these lines.
  pub again : (c p : List ℕ) → IsMadeOf c p → ListsAgain budget c p
  -- A page made of lines is its own canonical stream.
  pub own : (c p : List ℕ) → IsMadeOf c p → IsCanonicalOf budget c c
  -- The lines of the list of an accepted page make its canonical stream.
  pub of_list : (c p : List ℕ) → IsAccepted budget p → IsCanonicalOf budget c p ↔ IsMadeOf c (lines (list_of budget p))

-- Lines make at most one page; its list has these lines, and it is its own canonical stream. The lines of the list of
-- an accepted page make its canonical stream.
abbrev pub MadePagesAgree : Type 0
MadePagesAgree = (budget : ℕ) → MadePages budget
