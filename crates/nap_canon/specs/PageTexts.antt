use Rattle.std.specs.Prelude.{Err, List, Ok, Result, Some, length, ℕ, ◌≡◌, ◌≢◌}
use Rattle.nap_canon.specs.{Names.BreaksWithin, Names.Fault, Names.IsCount, Names.Refusal, Names.means, declared.text.PageText.PageText, Streams.list_of, Streams.IsCanonicalOf}

-- The canonical text of a page, which is written in memory as the page is read.

abbrev pub text_fault : Fault → Fault
text_fault Fault.Sink = Fault.Memory
text_fault f = f

-- the refusal of a page whose text was taken, where a failed sink is lack of memory
abbrev pub refusal_of_text : Refusal → Refusal
refusal_of_text r = record r { fault = text_fault r.fault }

-- The refusal is that of the page. One for lack of memory has a place where an act of the page can lack it.
pub record RefusesPage (budget : ℕ) (p : List ℕ) (r : Refusal) : Type 0 where
  pub refused : r.fault ≢ Fault.Memory → (means budget p).refusal ≡ Some r
  pub memory : r.fault ≡ Fault.Memory → BreaksWithin budget p r.place

-- the canonical text of a page and the number of its entries, or why it is refused
abbrev pub IsPageText : ℕ → List ℕ → Result PageText Refusal → Type 0
IsPageText budget p (Ok found) = IsCanonicalOf budget found.text.items p × IsCount found.count (length (list_of budget p))
IsPageText budget p (Err r) = RefusesPage budget p r
