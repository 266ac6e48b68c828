use Rattle.std.specs.Prelude.{Bool, Err, List, Ok, Result, Some, [], drop, false, length, true, ℕ, ◌++◌, ◌-◌, ◌<◌, ◌^◌, ◌≡◌, ◌≢◌, ◌≤◌, ◌⊎◌}
use lib.ListN.{replicate}
use Rattle.nap_canon.specs.Names.{BreaksWithin, Fault, LacksWithin, Refusal, means, refusal}
use Rattle.nap_canon.specs.{Streams.IsAccepted, Streams.list_of, Text.text}
use Rattle.nap_reader.specs.{Budgets.most_budget, Faults.number_of}
use Rattle.nap_find.specs.Rows.{open_of}
use Rattle.nap_command.specs.{Failures.fault_text, Finding.asked_for, Finding.finds_text, Answers.IsAnswer, Answers.places, Answers.refused_line, Commands.count_line, declared.batch.request.Question.Question}
use Rattle.nap_make.specs.{declared.lines.MakeFault.MakeFault, Making.IsMadeOf, Texts.DeniesLines}
use Rattle.nap_lines.specs.Listing.{lines}
use Rattle.nap_c.specs.{declared.answer.Answer.Answer, declared.made.Made.Made}

-- A page is accepted, and this is the text that was asked for.
pub record IsTextOf (budget : ℕ) (p whole text : List ℕ) : Type 0 where
  pub accepted : IsAccepted budget p
  pub text_is : text ≡ whole

-- The refusal is that of the page; or memory ran out, at a place where the page can lack it.
pub record IsRefusal (budget : ℕ) (p : List ℕ) (CanLack : ℕ → Type 0) (r : Refusal) : Type 0 where
  pub refused : r.fault ≢ Fault.Memory → (means budget p).refusal ≡ Some r
  pub memory : r.fault ≡ Fault.Memory → CanLack r.place

-- the refusal for lack of memory for a text, placed at the end of the page
abbrev pub memory_refusal_at_end : List ℕ → Refusal
memory_refusal_at_end p = record { fault = Fault.Memory; place = length p }

-- Memory can run out at this place: in reading, or for the text.
abbrev pub LacksForText : ℕ → List ℕ → ℕ → Type 0
LacksForText budget p place = BreaksWithin budget p place ⊎ (place ≡ length p)

-- Memory can run out for a count at this place: in the reader itself, or because the number of entries exceeds 64 bits.
pub record LacksToCount (budget : ℕ) (p : List ℕ) (place : ℕ) : Type 0 where
  pub breaks : BreaksWithin budget p place
  pub own : LacksWithin budget p place ⊎ (2 ^ 64 ≤ length (means budget p).entries)

-- Answers.

-- a name padded with zeros to 32 bytes
abbrev pub zero_padded : List ℕ → List ℕ
zero_padded name = name ++ replicate (32 - length name) 0

-- the answer for an accepted page, with a text of this length or this number of entries
abbrev pub accepted_answer : ℕ → Answer
accepted_answer n = record { status = 0; number = 0; place = 0; length = n; name = zero_padded [] }

-- the answer for a refused page, with a text of this length
abbrev pub refused_answer : Refusal → ℕ → Answer
refused_answer r n = record { status = 1; number = number_of r.fault; place = r.place; length = n; name = zero_padded (fault_text r.fault) }

-- the answer for lack of memory
abbrev pub memory_answer : ℕ → Answer
memory_answer place = refused_answer (record { fault = Fault.Memory; place = place }) 0

-- the answer with the status that the room is too small for its text
abbrev pub small_room_answer : Answer → Answer
small_room_answer a = record a { status = 2 }

-- the answer for a budget that there isn't
abbrev pub no_budget_answer : Answer
no_budget_answer = record (accepted_answer 0) { status = 3 }

-- the answer for a call without a begun page
abbrev pub not_begun_answer : Answer
not_begun_answer = record (accepted_answer 0) { status = 4 }

-- the answer for a page that was read with this result, with a text of this length
abbrev pub ended_answer : Result ℕ Refusal → ℕ → Answer
ended_answer (Ok n) size = accepted_answer size
ended_answer (Err r) size = refused_answer r size

-- A text that is copied to a room.

-- a text was copied to the beginning of the room, which is unchanged after it; or the room is too small and unchanged
abbrev pub IsGiven : List ℕ → List ℕ → List ℕ → Bool → Type 0
IsGiven text old new true = (length text ≤ length old) × (new ≡ text ++ drop (length text) old)
IsGiven text old new false = (length old < length text) × (new ≡ old)

-- the text is at the beginning of the room, which is unchanged after it
pub record Gives (text old new : List ℕ) (whole a : Answer) : Type 0 where
  pub fits : length text ≤ length old
  pub room : new ≡ text ++ drop (length text) old
  pub answer : a ≡ whole

-- the room is too small for the text, and unchanged
pub record Wants (text old new : List ℕ) (whole a : Answer) : Type 0 where
  pub few : length old < length text
  pub room : new ≡ old
  pub answer : a ≡ small_room_answer whole

-- a text was copied to a room with this answer, or the room is too small
abbrev pub Offers : List ℕ → List ℕ → List ℕ → Answer → Answer → Type 0
Offers text old new whole a = Gives text old new whole a ⊎ Wants text old new whole a

-- The answer to a call on a page.

-- the page is accepted, and this text was copied to the room
pub record AnswersAccepted (budget : ℕ) (p text old new : List ℕ) (a : Answer) : Type 0 where
  pub accepted : IsAccepted budget p
  pub offers : Offers text old new (accepted_answer (length text)) a

-- the page is refused, and this text was copied to the room
pub record AnswersRefused (budget : ℕ) (p text old new : List ℕ) (a : Answer) : Type 0 where
  pub refusal : Refusal
  pub own : refusal.fault ≢ Fault.Memory
  pub refused : (means budget p).refusal ≡ Some refusal
  pub offers : Offers text old new (refused_answer refusal (length text)) a

-- memory ran out, at a place where the page can lack it
pub record AnswersMemory (CanLack : ℕ → Type 0) (a : Answer) : Type 0 where
  pub place : ℕ
  pub wanting : CanLack place
  pub answer : a ≡ memory_answer place

-- there is no such budget
pub record AnswersNoBudget (budget : ℕ) (a : Answer) : Type 0 where
  pub above : most_budget < budget
  pub answer : a ≡ no_budget_answer

-- The page is accepted, and its text was copied; or it is refused, and the text that it has was; or memory ran out, and
-- the room is unchanged.
abbrev pub AnswersInBudget : ℕ → List ℕ → (ℕ → Type 0) → List ℕ → List ℕ → List ℕ → List ℕ → Answer → Type 0
AnswersInBudget budget p CanLack text part old new a =
    AnswersAccepted budget p text old new a ⊎ AnswersRefused budget p part old new a ⊎ (AnswersMemory CanLack a × (new ≡ old))

-- The answer if there is such a budget; else the room is unchanged.
abbrev pub AnswersCall : ℕ → List ℕ → (ℕ → Type 0) → List ℕ → List ℕ → List ℕ → List ℕ → Answer → Type 0
AnswersCall budget p CanLack text part old new a =
    ((budget ≤ most_budget) × AnswersInBudget budget p CanLack text part old new a) ⊎ (AnswersNoBudget budget a × (new ≡ old))

-- the text of an accepted page was copied; a refused page has none
abbrev pub AnswersText : ℕ → List ℕ → (ℕ → Type 0) → List ℕ → List ℕ → List ℕ → Answer → Type 0
AnswersText budget p CanLack text old new a = AnswersCall budget p CanLack text [] old new a

-- the places of the entries were copied, also those before a refusal
abbrev pub AnswersPlaces : ℕ → List ℕ → List ℕ → List ℕ → Answer → Type 0
AnswersPlaces budget p old new a = AnswersCall budget p (LacksForText budget p) (places budget p) (places budget p) old new a

-- the page is accepted, and has this number of entries
pub record AnswersCountOf (budget : ℕ) (p : List ℕ) (a : Answer) : Type 0 where
  pub accepted : IsAccepted budget p
  pub answer : a ≡ accepted_answer (length (list_of budget p))

-- the page is refused, and its entries aren't counted
pub record RefusesCount (budget : ℕ) (p : List ℕ) (a : Answer) : Type 0 where
  pub refusal : Refusal
  pub own : refusal.fault ≢ Fault.Memory
  pub refused : (means budget p).refusal ≡ Some refusal
  pub answer : a ≡ refused_answer refusal 0

-- the entries of a page were counted, or it is refused, or memory ran out
abbrev pub CountsInBudget : ℕ → List ℕ → Answer → Type 0
CountsInBudget budget p a = AnswersCountOf budget p a ⊎ RefusesCount budget p a ⊎ AnswersMemory (LacksToCount budget p) a

-- the entries of a page were counted, if there is such a budget
abbrev pub AnswersCount : ℕ → List ℕ → Answer → Type 0
AnswersCount budget p a = ((budget ≤ most_budget) × CountsInBudget budget p a) ⊎ AnswersNoBudget budget a

-- The answer to a call on lines.

-- the answer for lines that make a page with this number of bytes and entries
abbrev pub made_answer : ℕ → ℕ → Made
made_answer size n = record { status = 0; fault = 0; line = 0; column = 0; opening = 0; length = size; count = n }

-- the answer for a page that was copied to the room, or for a room too small for it
abbrev pub offered_answer : Bool → ℕ → ℕ → Made
offered_answer true size n = made_answer size n
offered_answer false size n = record (made_answer size n) { status = 2 }

-- the answer for lines that make no page, with the number of the reason
abbrev pub unmade_answer : ℕ → ℕ → ℕ → ℕ → Made
unmade_answer reason line column opening = record { status = 1; fault = reason; line = line; column = column; opening = opening; length = 0; count = 0 }

-- the answer for a fault of lines; a failed write to memory is lack of memory
abbrev pub answer_of_fault : MakeFault → Made
answer_of_fault (MakeFault.Line line column) = unmade_answer 1 line column 0
answer_of_fault (MakeFault.Misfit line) = unmade_answer 2 line 0 0
answer_of_fault (MakeFault.Open line opening) = unmade_answer 3 line 0 opening
answer_of_fault _ = unmade_answer 4 0 0 0

-- The lines make a page, which was copied to the beginning of the room if it has as many bytes.
pub record AnswersMade (p old new : List ℕ) (answer : Made) : Type 0 where
  pub page : List ℕ
  pub made : IsMadeOf page p
  pub given : Bool
  pub room : IsGiven page old new given
  pub answer_is : answer ≡ offered_answer given (length page) (length made.entries)

-- The lines make no page, and the room is unchanged.
pub record AnswersUnmade (p old new : List ℕ) (answer : Made) : Type 0 where
  pub fault : MakeFault
  pub denied : DeniesLines p fault
  pub room : new ≡ old
  pub answer_is : answer ≡ answer_of_fault fault

abbrev pub AnswersMaking : List ℕ → List ℕ → List ℕ → Made → Type 0
AnswersMaking p old new answer = AnswersMade p old new answer ⊎ AnswersUnmade p old new answer

-- The answer to a call on bytes with pages among them.

-- the answer for finds that bytes that follow may change from this place on, with a text of this length
abbrev pub found_answer : ℕ → ℕ → Answer
found_answer place n = record (accepted_answer n) { place = place }

-- The lines of the finds and the last line were copied; or memory ran out, and the room is unchanged.
abbrev pub CopiesFinds : ℕ → List ℕ → List ℕ → List ℕ → Answer → Type 0
CopiesFinds least p old new a =
    Offers (finds_text least p) old new (found_answer (open_of (asked_for least) p) (length (finds_text least p))) a
    ⊎ ((a ≡ memory_answer (length p)) × (new ≡ old))

-- The library and `batch`.

-- the answer to a question about a page, as the call of the same name gives it
abbrev pub AnswersAs : Question → ℕ → List ℕ → List ℕ → List ℕ → Answer → Type 0
AnswersAs Question.Check budget p old new a = AnswersCount budget p a
AnswersAs Question.List budget p old new a = AnswersText budget p (BreaksWithin budget p) (lines (list_of budget p)) old new a
AnswersAs Question.Canon budget p old new a = AnswersText budget p (LacksForText budget p) (text (list_of budget p)) old new a
AnswersAs Question.Places budget p old new a = AnswersPlaces budget p old new a
AnswersAs Question.Make budget p old new a = ⊥
AnswersAs Question.Find least p old new a = CopiesFinds least p old new a

-- Both accept: the line has a number of entries.
pub record BothAccept (line : List ℕ) (Accepts : ℕ → Type 0) : Type 0 where
  pub count : ℕ
  pub line_is : line ≡ count_line count
  pub answer : Accepts count

-- Both refuse: the line has a refusal.
pub record BothRefuse (line : List ℕ) (Refuses : Refusal → Type 0) : Type 0 where
  pub refused : Refusal
  pub line_is : line ≡ refused_line refused
  pub answer : Refuses refused

-- One of both lacks memory.
pub record EitherLacks (line : List ℕ) (a : Answer) : Type 0 where
  pub place : ℕ
  pub answer : (line ≡ refused_line (refusal Fault.Memory place)) ⊎ (a ≡ memory_answer place)

-- both count the same entries, or refuse the page for the same reason, unless memory ran out
abbrev pub AgreeOnCount : List ℕ → Answer → Type 0
AgreeOnCount line a = BothAccept line (λ n. a ≡ accepted_answer n) ⊎ (BothRefuse line (λ r. a ≡ refused_answer r 0) ⊎ EitherLacks line a)

-- the text for the room is the body, and if the page is refused it is so for the same reason, unless memory ran out
abbrev pub AgreeOnText : List ℕ → List ℕ → List ℕ → List ℕ → Answer → Type 0
AgreeOnText line body old new a =
    BothAccept line (λ n. Offers body old new (accepted_answer (length body)) a)
    ⊎ (BothRefuse line (λ r. Offers body old new (refused_answer r (length body)) a) ⊎ EitherLacks line a)

-- the text for the room is the body, unless memory ran out
abbrev pub AgreeOnFinds : List ℕ → List ℕ → List ℕ → Answer → Type 0
AgreeOnFinds body old new a = (place : ℕ) × (Offers body old new (found_answer place (length body)) a ⊎ (a ≡ memory_answer place))

-- `check` counts, and the others give a text
abbrev pub Agree : Question → List ℕ → List ℕ → List ℕ → List ℕ → Answer → Type 0
Agree Question.Check line body old new a = AgreeOnCount line a
Agree Question.Find line body old new a = AgreeOnFinds body old new a
Agree _ line body old new a = AgreeOnText line body old new a

-- The calls of the library and `batch` answer alike.
abbrev pub LibraryAnswersAsBatch : Type 0
LibraryAnswersAsBatch = (q : Question) (budget : ℕ) (p line body old new : List ℕ) (a : Answer) → budget ≤ most_budget → IsAnswer q budget p line body → AnswersAs q budget p old new a →
    Agree q line body old new a
