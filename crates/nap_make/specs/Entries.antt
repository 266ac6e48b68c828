use Rattle.std.specs.Prelude.{Err, List, Ok, Result, [], codes, length, ℕ, ◌++◌, ◌+◌, ◌∷◌, ◌≡◌, ◌⊎◌}
use Rattle.nap_make.specs.{Types.Entry, Types.InRange, Types.Kind, Types.WellMade, Types.line, declared.fault.LineFault.LineFault, Kinds.HasPoints, Kinds.line_from, Reading.WritesNone, Reading.IsWritten}

-- a well-made entry in range
pub record IsProper (e : Entry) : Type 0 where
  pub in_range : InRange e
  pub well_made : WellMade e

-- a well-made entry in range has this line
abbrev pub IsEntryLine : List ℕ → Type 0
IsEntryLine bytes = (e : Entry) × IsWritten IsProper line bytes e

-- The bytes begin as the line of an arc or polygon does.
pub record BeginsShape (bytes : List ℕ) : Type 0 where
  pub kind : Kind
  pub rest : List ℕ
  pub shape : HasPoints kind
  pub begins : bytes ≡ line_from kind rest

-- the bytes begin the line of a well-made entry in range
pub record BeginsLine (prefix : List ℕ) : Type 0 where
  pub entry : Entry
  pub more : List ℕ
  pub proper : IsProper entry
  pub begins : line entry ≡ prefix ++ more

-- The column of a fault.

-- the lines that are a name alone
abbrev pub IsNameAlone : List ℕ → Type 0
IsNameAlone bytes = (bytes ≡ codes "BELL") ⊎ (bytes ≡ codes "END")

-- the entry whose line is this name alone
abbrev pub IsWrittenAlone : List ℕ → Entry → Type 0
IsWrittenAlone bytes e = IsNameAlone bytes × IsWritten IsProper line bytes e

-- the column of a fault where a first word that is no kind's name and a space begin a line
abbrev pub IsColumnAtName : List ℕ → ℕ → Type 0
IsColumnAtName name column = (IsNameAlone name × (column ≡ length name + 1)) ⊎ ((IsNameAlone name → ⊥) × (column ≡ 1))

-- bytes whose first is a space, and bytes whose last is one
abbrev pub BeginsWithSpace : List ℕ → Type 0
BeginsWithSpace bytes = (back : List ℕ) × (bytes ≡ 32 ∷ back)

abbrev pub EndsWithSpace : List ℕ → Type 0
EndsWithSpace bytes = (front : List ℕ) × (bytes ≡ front ++ 32 ∷ [])

-- Where a fault may be told, by what is before it and what is left: where a name or a field begins; at a space behind a
-- name that stands alone; where a line of an entry ends without LF.
abbrev pub IsPlace : List ℕ → List ℕ → Type 0
IsPlace right left = (right ≡ []) ⊎ (EndsWithSpace right ⊎ ((IsNameAlone right × BeginsWithSpace left) ⊎ (IsEntryLine right × (left ≡ []))))

-- The column of a fault, counted from 1: what is before it begins the line of an entry, and at no later place does it. So
-- the first field that is wrong with what has to stand behind it begins there.
pub record TellsColumn (bytes : List ℕ) (column : ℕ) : Type 0 where
  pub right : List ℕ
  pub left : List ℕ
  pub parts : bytes ≡ right ++ left
  pub column_is : column ≡ length right + 1
  pub place : IsPlace right left
  pub begins : BeginsLine right
  pub longest : (more rest : List ℕ) → left ≡ more ++ rest → IsPlace (right ++ more) rest → BeginsLine (right ++ more) → more ≡ []

-- The answer for a line: its entry; or the column of its fault, where no entry has it; or lack of memory, where it is the
-- line of an arc or polygon, whose points take it.
abbrev pub TellsLine : List ℕ → Result Entry LineFault → Type 0
TellsLine bytes (Ok e) = IsWritten IsProper line bytes e
TellsLine bytes (Err (LineFault.Line column)) = WritesNone IsProper line bytes × TellsColumn bytes column
TellsLine bytes (Err LineFault.Memory) = BeginsShape bytes × IsEntryLine bytes
