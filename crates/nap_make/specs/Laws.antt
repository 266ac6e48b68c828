use Rattle.std.specs.Prelude.{All, List, length, ℕ, ◌≡◌, ◌≢◌, ◌≤◌}
use Rattle.nap_make.specs.Types.{AllInRange, Entry, InRange, MakeFault, line, lines}
use Rattle.nap_make.specs.Entries.{IsProper, TellsColumn}
use Rattle.nap_make.specs.Lists.{AreLines, MakesNone}

-- entries in range with equal lines are equal
abbrev pub LineTellsEntry : Type 0
LineTellsEntry = (e f : Entry) → InRange e → InRange f → line e ≡ line f → e ≡ f

-- lists in range with equal lines are equal
abbrev pub LinesTellLists : Type 0
LinesTellLists = (d e : List Entry) → AllInRange d → AllInRange e → lines d ≡ lines e → d ≡ e

-- the greatest number of bytes of a line: of a polygon with the most points, with each number as long as it may be
abbrev pub longest_line : ℕ
longest_line = 32112

-- No line of a well-made entry in range is longer than that.
abbrev pub LinesAreBounded : Type 0
LinesAreBounded = (e : Entry) → IsProper e → length (line e) ≤ longest_line

-- No line of an entry in range contains LF.
abbrev pub LinesHaveNoEnds : Type 0
LinesHaveNoEnds = (e : Entry) → InRange e → All (λ b. b ≢ 10) (line e)

-- The fault of a line has one column.
abbrev pub ColumnsAreOne : Type 0
ColumnsAreOne = (bytes : List ℕ) (c d : ℕ) → TellsColumn bytes c → TellsColumn bytes d → c ≡ d

-- the lines, after those of these entries, have this fault; it's neither lack of memory nor a failed device
abbrev pub HaveFault : List ℕ → List Entry → MakeFault → Type 0
HaveFault p es MakeFault.Memory = ⊥
HaveFault p es MakeFault.Write = ⊥
HaveFault p es fault = MakesNone p es fault

-- what these lines make is one, lack of memory and failed devices apart
pub record HaveOneAnswer (p : List ℕ) : Type 0 where
  -- Lines have at most one fault, after the same entries.
  pub one : (d e : List Entry) (f g : MakeFault) → HaveFault p d f → HaveFault p e g → (d ≡ e) × (f ≡ g)
  -- The lines of a list have none.
  pub none : (d e : List Entry) (f : MakeFault) → AreLines p d → HaveFault p e f → ⊥

-- Lines have one answer, lack of memory and failed devices apart.
abbrev pub AnswersOfMakeAgree : Type 0
AnswersOfMakeAgree = (p : List ℕ) → HaveOneAnswer p
