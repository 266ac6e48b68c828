use Rattle.std.specs.Prelude.{Err, List, Ok, Result, Some, [], decimal, drop, false, flat_map, length, suc, take, zero, ℕ, ◌++◌, ◌+◌, ◌^◌, ◌∷◌, ◌≡◌, ◌≢◌, ◌≤◌, ◌⊎◌}
use Rattle.nap_command.specs.Types.{Action, BreaksWithin, Command, Entry, Failure, Fault, IsAccepted, IsMadeOf, LacksWithin, MakeFault, Question, Refusal, begun, lines, list_of, means, refusal, text}
use Rattle.nap_lines.specs.Lines.{line}
use Rattle.nap_make.specs.Texts.{DeniesLines}
use Rattle.nap_command.specs.{Commands.Denies, Commands.count_line, Failures.failure_text, Failures.refusal_text, Finding.AnswersFinds, Making.failure_of}

-- The line of an answer.

abbrev pub refused_line : Refusal → List ℕ
refused_line r = refusal_text r ++ 10 ∷ []

abbrev pub ended_line : Result ℕ Refusal → List ℕ
ended_line (Ok n) = count_line n
ended_line (Err r) = refused_line r

-- The places of entries.

-- the line of an entry, after this place
abbrev pub line_at : ℕ → Entry → List ℕ
line_at place e = decimal place ++ 32 ∷ (line e ++ 10 ∷ [])

abbrev pub lines_at : ℕ → List Entry → List ℕ
lines_at place entries = flat_map (line_at place) entries

-- the entries that a list has after those of a prefix
abbrev pub entries_added : List Entry → List Entry → List Entry
entries_added before after = drop (length before) after

-- the entries that the byte at this index added
abbrev pub came_with : ℕ → List ℕ → ℕ → List Entry
came_with budget p i = entries_added (begun budget (take i p)).entries (begun budget (take (i + 1) p)).entries

-- the lines of the entries that the first n bytes added
unfoldable pub places_before : ℕ → List ℕ → ℕ → List ℕ
places_before budget p zero = []
places_before budget p (suc n) = places_before budget p n ++ lines_at n (came_with budget p n)

-- the lines of all entries, each after its place; those added at the end have the length of the page
abbrev pub places : ℕ → List ℕ → List ℕ
places budget p = places_before budget p (length p) ++ lines_at (length p) (entries_added (begun budget p).entries (means budget p).entries)

-- A page was read byte by byte, and its places written: all, with the number of entries; or none, if it is refused for
-- lack of memory.
pub record CountsPlaces (budget : ℕ) (p text : List ℕ) (n : ℕ) : Type 0 where
  pub accepted : IsAccepted budget p
  pub count : n ≡ length (list_of budget p)
  pub text_is : text ≡ places budget p

pub record RefusesPlaces (budget : ℕ) (p text : List ℕ) (r : Refusal) : Type 0 where
  pub refused : r.fault ≢ Fault.Memory → ((means budget p).refusal ≡ Some r) × (text ≡ places budget p)
  pub memory : r.fault ≡ Fault.Memory → BreaksWithin budget p r.place × (text ≡ [])

abbrev pub IsPlaced : ℕ → List ℕ → List ℕ → Result ℕ Refusal → Type 0
IsPlaced budget p text (Ok n) = CountsPlaces budget p text n
IsPlaced budget p text (Err r) = RefusesPlaces budget p text r

-- The answer to a question.

-- the body of an answer for an accepted page
abbrev pub accepted_body_of : Question → ℕ → List ℕ → List ℕ
accepted_body_of Question.Check budget p = []
accepted_body_of Question.List budget p = lines (list_of budget p)
accepted_body_of Question.Canon budget p = text (list_of budget p)
accepted_body_of Question.Places budget p = places budget p
accepted_body_of Question.Make budget p = []
accepted_body_of Question.Find budget p = []

-- the body of an answer for a refused page
abbrev pub refused_body_of : Question → ℕ → List ℕ → List ℕ
refused_body_of Question.Places budget p = places budget p
refused_body_of _ budget p = []

-- the page is accepted
pub record AcceptsWith (q : Question) (budget : ℕ) (p line body : List ℕ) : Type 0 where
  pub accepted : IsAccepted budget p
  pub line_is : line ≡ count_line (length (list_of budget p))
  pub body_is : body ≡ accepted_body_of q budget p

-- the page is refused
pub record RefusesWith (q : Question) (budget : ℕ) (p line body : List ℕ) : Type 0 where
  pub refusal : Refusal
  pub own : refusal.fault ≢ Fault.Memory
  pub refused : (means budget p).refusal ≡ Some refusal
  pub line_is : line ≡ refused_line refusal
  pub body_is : body ≡ refused_body_of q budget p

-- Memory ran out in reading, at a place where the page can lack it. For a count, the reader itself lacks it, or the
-- number of entries exceeds 64 bits.
pub record LacksWith (q : Question) (budget : ℕ) (p line body : List ℕ) : Type 0 where
  pub place : ℕ
  pub breaks : BreaksWithin budget p place
  pub counting : q ≡ Question.Check → LacksWithin budget p place ⊎ (2 ^ 64 ≤ length (means budget p).entries)
  pub line_is : line ≡ refused_line (refusal Fault.Memory place)
  pub body_is : body ≡ []

-- the line and the body of an answer to a question about a page
abbrev pub AnswersPage : Question → ℕ → List ℕ → List ℕ → List ℕ → Type 0
AnswersPage q budget p line body = AcceptsWith q budget p line body ⊎ (RefusesWith q budget p line body ⊎ LacksWith q budget p line body)

-- The page that lines make.

-- the line of an answer for lines that make no page: what `make` reports
abbrev pub unmade_line : MakeFault → List ℕ
unmade_line fault = failure_text (failure_of fault) ++ 10 ∷ []

-- the lines make the page that is the body, and the line has its number of entries
pub record MakesBody (p line body : List ℕ) : Type 0 where
  pub made : IsMadeOf body p
  pub line_is : line ≡ count_line (length made.entries)

-- the lines make no page, and the line says why
pub record MakesNoPage (p line body : List ℕ) : Type 0 where
  pub fault : MakeFault
  pub denied : DeniesLines p fault
  pub line_is : line ≡ unmade_line fault
  pub body_is : body ≡ []

abbrev pub AnswersLines : List ℕ → List ℕ → List ℕ → Type 0
AnswersLines p line body = MakesBody p line body ⊎ MakesNoPage p line body

-- the line and the body of an answer; lines are charged nothing, and of finds the number is the least number of entries
abbrev pub IsAnswer : Question → ℕ → List ℕ → List ℕ → List ℕ → Type 0
IsAnswer Question.Make budget p line body = AnswersLines p line body
IsAnswer Question.Find least p line body = AnswersFinds least p line body
IsAnswer q budget p line body = AnswersPage q budget p line body

-- the bytes of an answer
abbrev pub answer_text : List ℕ → List ℕ → List ℕ
answer_text line body = line ++ decimal (length body) ++ 10 ∷ body

-- The commands with the same names.

-- the command of an action, on bytes
abbrev pub page_command : Action → ℕ → Command
page_command act budget = record { action = act; hex = false; budget = budget; stream = false }

abbrev pub DeniesPage : Action → ℕ → List ℕ → Failure → Type 0
DeniesPage act budget p f = Denies (page_command act budget) p f

-- the question whose answer has what the command of an action prints
abbrev pub question_of : Action → Question
question_of Action.Check = Question.Check
question_of Action.List = Question.List
question_of Action.Canon = Question.Canon
