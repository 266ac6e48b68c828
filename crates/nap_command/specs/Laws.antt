use Rattle.std.specs.Prelude.{All, List, [], drop, length, take, ℕ, ◌*◌, ◌++◌, ◌+◌, ◌<◌, ◌∷◌, ◌≡◌, ◌≢◌, ◌≤◌, ◌⊎◌}
use Rattle.nap_command.specs.Types.{Action, Entry, Failure, Fault, Question, Refusal, Verdict, begun, means, text}
use Rattle.nap_command.specs.{Commands.PrintsBy, Requests.IsBegun, Requests.IsRequest, Requests.StartsNone}
use Rattle.nap_command.specs.Answers.{DeniesPage, IsAnswer, line_at, page_command, places, question_of, refused_line}

-- Bytes begin with at most one complete request.
abbrev pub RequestsAreCutOneWay : Type 0
RequestsAreCutOneWay = (asked other following rest : List ℕ) (q r : Question) (b e : ℕ) (page paper : List ℕ) → IsRequest asked q b page → IsRequest other r e paper →
    asked ++ following ≡ other ++ rest → (asked ≡ other) × (q ≡ r) × (b ≡ e) × (page ≡ paper)

-- Bytes that begin with an incomplete request don't begin with a complete one.
abbrev pub BegunRequestsAreNone : Type 0
BegunRequestsAreNone = (bytes : List ℕ) → IsBegun bytes → StartsNone bytes

-- A page is accepted: the line is what `check` prints, and the body what the command prints.
pub record AsAccepted (act : Action) (budget : ℕ) (p line body : List ℕ) : Type 0 where
  pub line_is : PrintsBy Action.Check (page_command Action.Check budget) p line Verdict.Accepted
  pub body_is : PrintsBy act (page_command act budget) p body Verdict.Accepted

-- The command refuses a page, as the line says, and the body is empty. Unless memory ran out, `check` prints that line.
pub record AsRefused (act : Action) (budget : ℕ) (p line body : List ℕ) : Type 0 where
  pub r : Refusal
  pub denied : DeniesPage act budget p (Failure.Refused r)
  pub line_is : line ≡ refused_line r
  pub checked : r.fault ≢ Fault.Memory → PrintsBy Action.Check (page_command Action.Check budget) p line Verdict.Refused
  pub body_is : body ≡ []

abbrev pub AsCommand : Action → ℕ → List ℕ → List ℕ → List ℕ → Type 0
AsCommand act budget p line body = AsAccepted act budget p line body ⊎ AsRefused act budget p line body

-- the line is what `check` prints, and the body is empty
pub record AsCheck (budget : ℕ) (p line body : List ℕ) : Type 0 where
  pub v : Verdict
  pub line_is : PrintsBy Action.Check (page_command Action.Check budget) p line v
  pub body_is : body ≡ []

abbrev pub AsAction : Action → ℕ → List ℕ → List ℕ → List ℕ → Type 0
AsAction Action.Check budget p line body = AsCheck budget p line body
AsAction act budget p line body = AsCommand act budget p line body

-- Each answer has what the command of the same name prints.
abbrev pub AnswersAreThoseOfCommands : Type 0
AnswersAreThoseOfCommands = (act : Action) (budget : ℕ) (p line body : List ℕ) → IsAnswer (question_of act) budget p line body → AsAction act budget p line body

-- the lines of entries, each after a place of its own
unfoldable pub lines_placed : List ℕ → List Entry → List ℕ
lines_placed [] entries = []
lines_placed (n ∷ ns) [] = []
lines_placed (n ∷ ns) (e ∷ es) = line_at n e ++ lines_placed ns es

-- each number is at least those before it
abbrev pub NeverFalls : List ℕ → Type 0
NeverFalls [] = Unit {0}
NeverFalls (n ∷ ns) = All (λ m. n ≤ m) ns × NeverFalls ns

-- The number n parts places as the first n bytes part the entries: those that they give have places before n, and the
-- others have not.
pub record PartsAt (budget : ℕ) (p at : List ℕ) (n : ℕ) : Type 0 where
  pub before : All (λ a. a < n) (take (length (begun budget (take n p)).entries) at)
  pub after : All (λ a. n ≤ a) (drop (length (begun budget (take n p)).entries) at)

-- The places of the entries of a page.
pub record ArePlaces (budget : ℕ) (p at : List ℕ) : Type 0 where
  -- one for each entry
  pub each : length at ≡ length (means budget p).entries
  -- The places without their numbers are the lines that `list` prints.
  pub lines_are : places budget p ≡ lines_placed at (means budget p).entries
  pub rise : NeverFalls at
  pub inside : All (λ a. a ≤ length p) at
  -- Each entry came with the byte at its place, or at the end.
  pub exact : (n : ℕ) → n ≤ length p → PartsAt budget p at n

abbrev pub PlacesAreExact : Type 0
PlacesAreExact = (budget : ℕ) (p : List ℕ) → (at : List ℕ) × ArePlaces budget p at

-- A page has at most 21 entries for each of its bytes and each byte of its budget.
abbrev pub EntriesAreBounded : Type 0
EntriesAreBounded = (budget : ℕ) (p : List ℕ) → length (means budget p).entries ≤ 21 * (length p + budget)

-- The canonical text of these entries has at most 190 bytes for each of these bytes, and three more.
abbrev pub TextIsBounded : Type 0
TextIsBounded = (budget : ℕ) (p : List ℕ) → length (text (means budget p).entries) ≤ 190 * (length p + budget) + 3
