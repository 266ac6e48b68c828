use Rattle.std.specs.Prelude.{List, None, Option, Some, [], ℕ, ◌++◌, ◌≡◌, ◌≢◌, ◌≤◌, ◌⊎◌}
use Rattle.nap_list.specs.declared.count_sink.CountSink.{CountSink}
use Rattle.nap_canon.specs.Names.{Fault, Refusal, begun, start}
use Rattle.nap_reader.specs.ReaderAnswers.{HasRead, budget_of, fed_of, refusal_of}
use Rattle.nap_reader.specs.Budgets.{most_budget}
use Rattle.nap_c.specs.{declared.answer.Answer.Answer, declared.pieces.Check.Check}
use Rattle.nap_c.specs.Answers.{AnswersNoBudget, CountsInBudget, accepted_answer, memory_answer, not_begun_answer}

-- A page that is checked in pieces.

-- a sink that has counted nothing
abbrev pub uncounted : CountSink
uncounted = record { count = 0; state = record { state = start } }

-- the number of bytes so far
abbrev pub fed : Check → ℕ
fed check = fed_of check.reader

-- The check has read these bytes under this budget. Its counting sink has no device that can fail.
pub record HasChecked (check : Check) (budget : ℕ) (p : List ℕ) : Type 0 where
  pub has_read : HasRead check.reader uncounted p
  pub budget_is : budget_of check.reader ≡ budget
  pub sound : (r : Refusal) → refusal_of check.reader ≡ Some r → r.fault ≢ Fault.Sink

-- nothing is refused so far
pub record UnrefusedSoFar (budget : ℕ) (p : List ℕ) (a : Answer) : Type 0 where
  pub unrefused : (begun budget p).refusal ≡ None
  pub answer : a ≡ accepted_answer 0

-- the page is refused whatever follows, with this answer
pub record StaysRefused (budget : ℕ) (p : List ℕ) (a : Answer) : Type 0 where
  pub status : a.status ≡ 1
  pub whole : (more : List ℕ) → CountsInBudget budget (p ++ more) a

-- the answer for the bytes so far
abbrev pub IsSoFar : ℕ → List ℕ → Answer → Type 0
IsSoFar budget p a = UnrefusedSoFar budget p a ⊎ StaysRefused budget p a

-- The calls on a page in pieces: what they answer, and what is begun afterwards.

-- a page is begun, of which no byte has come
pub record Opens (budget : ℕ) (new : Option Check) (a : Answer) : Type 0 where
  pub check : Check
  pub begun : new ≡ Some check
  pub has_checked : HasChecked check budget []
  pub answer : a ≡ accepted_answer 0

-- a page is begun if there is such a budget, unless memory runs out
abbrev pub BeginsPage : ℕ → Option Check → Answer → Type 0
BeginsPage budget new a =
    ((budget ≤ most_budget) × (Opens budget new a ⊎ ((new ≡ None) × (a ≡ memory_answer 0)))) ⊎ (AnswersNoBudget budget a × (new ≡ None))

-- a piece came after the bytes so far
pub record TakesPiece (piece : List ℕ) (old : Check) (new : Option Check) (a : Answer) : Type 0 where
  pub check : Check
  pub begun : new ≡ Some check
  pub has_checked : (budget : ℕ) (p : List ℕ) → HasChecked old budget p → HasChecked check budget (p ++ piece)
  pub answer : (budget : ℕ) (p : List ℕ) → HasChecked old budget p → IsSoFar budget (p ++ piece) a

abbrev pub FeedsPiece : Option Check → Option Check → List ℕ → Answer → Type 0
FeedsPiece None new piece a = (new ≡ None) × (a ≡ not_begun_answer)
FeedsPiece (Some old) new piece a = TakesPiece piece old new a

-- the answer is that of all bytes
abbrev pub FinishesPage : Option Check → Answer → Type 0
FinishesPage None a = a ≡ not_begun_answer
FinishesPage (Some check) a = (budget : ℕ) (p : List ℕ) → HasChecked check budget p → CountsInBudget budget p a
