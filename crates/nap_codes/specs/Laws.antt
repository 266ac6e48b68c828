use Rattle.std.specs.Prelude.{ℕ, suc, ◌≡◌, ◌<◌, ◌≤◌, List, [], ◌∷◌, ◌++◌, length, take, Some, None}
use Rattle.nap_codes.specs.{Types.Code, Types.CodeFault, Types.CodeSets, Types.Opcode, Types.TextStep, Tables.left_out_opcode, Tables.format_effector, Front.unfinished, Front.complete, Front.refused, Front.front}

-- A front that is a code is unchanged by further bytes.
abbrev pub CodeStays : Type 0
CodeStays = (sets : CodeSets) (xs ys : List ℕ) (code : Code) (n : ℕ) (after : CodeSets) →
    front sets xs ≡ complete code n after → front sets (xs ++ ys) ≡ complete code n after

-- A front that is a refusal is unchanged by further bytes.
abbrev pub RefusedStays : Type 0
RefusedStays = (sets : CodeSets) (xs ys : List ℕ) (fault : CodeFault) (i : ℕ) →
    front sets xs ≡ refused fault i → front sets (xs ++ ys) ≡ refused fault i

-- A code at the front has at least one byte, and all its bytes are in the list.
abbrev pub CodeLength : Type 0
CodeLength = (sets : CodeSets) (xs : List ℕ) (code : Code) (n : ℕ) (after : CodeSets) →
    front sets xs ≡ complete code n after → (1 ≤ n) × (n ≤ length xs)

-- The refused byte at the front is in the list.
abbrev pub RefusedIndex : Type 0
RefusedIndex = (sets : CodeSets) (xs : List ℕ) (fault : CodeFault) (i : ℕ) →
    front sets xs ≡ refused fault i → i < length xs

-- A code at the front is the front of its own bytes.
abbrev pub CodeByItsBytes : Type 0
CodeByItsBytes = (sets : CodeSets) (xs : List ℕ) (code : Code) (n : ℕ) (after : CodeSets) →
    front sets xs ≡ complete code n after → front sets (take n xs) ≡ complete code n after

-- A refusal at the front is the front of the bytes up to the refused one.
abbrev pub RefusedByItsBytes : Type 0
RefusedByItsBytes = (sets : CodeSets) (xs : List ℕ) (fault : CodeFault) (i : ℕ) →
    front sets xs ≡ refused fault i → front sets (take (suc i) xs) ≡ refused fault i

-- Fewer bytes than those of a code at the front are unfinished.
abbrev pub EarlierUnfinished : Type 0
EarlierUnfinished = (sets : CodeSets) (xs : List ℕ) (code : Code) (n : ℕ) (after : CodeSets) (k : ℕ) →
    front sets xs ≡ complete code n after → k < n → front sets (take k xs) ≡ unfinished

-- The bytes before a refused one, and any fewer, are unfinished.
abbrev pub UnfinishedBefore : Type 0
UnfinishedBefore = (sets : CodeSets) (xs : List ℕ) (fault : CodeFault) (i k : ℕ) →
    front sets xs ≡ refused fault i → k ≤ i → front sets (take k xs) ≡ unfinished

-- a byte from 20 to 7F
abbrev pub IsGraphic : ℕ → Type 0
IsGraphic byte = (0x20 ≤ byte) × (byte < 0x80)

-- the parameters of a code are in range, and its opcode isn't one that is left out
abbrev pub IsCodeInRange : Code → Type 0
IsCodeInRange (Code.Step (TextStep.Aps row column)) = IsGraphic row × IsGraphic column
IsCodeInRange (Code.Designated number set) = number < 4
IsCodeInRange (Code.Char set byte) = IsGraphic byte
IsCodeInRange (Code.Call byte) = IsGraphic byte
IsCodeInRange (Code.Op op) = left_out_opcode op ≡ None
IsCodeInRange (Code.Operand word) = word < 64
IsCodeInRange (Code.DefMacro name show) = IsGraphic name
IsCodeInRange (Code.DefGlyph byte) = IsGraphic byte
IsCodeInRange (Code.Repeat count) = count < 64
IsCodeInRange _ = Unit {0}

-- The parameters of a code at the front are in range, and its opcode isn't one that is left out.
abbrev pub CodeRanges : Type 0
CodeRanges = (sets : CodeSets) (xs : List ℕ) (code : Code) (n : ℕ) (after : CodeSets) →
    front sets xs ≡ complete code n after → IsCodeInRange code

-- An opcode has one byte, and changes no code set.
abbrev pub OneByteOpcode : Type 0
OneByteOpcode = (sets : CodeSets) (xs : List ℕ) (op : Opcode) (n : ℕ) (after : CodeSets) →
    front sets xs ≡ complete (Code.Op op) n after → (n ≡ 1) × (after ≡ sets)

-- An operand word has one byte, and changes no code set.
abbrev pub OneByteOperand : Type 0
OneByteOperand = (sets : CodeSets) (xs : List ℕ) (word : ℕ) (n : ℕ) (after : CodeSets) →
    front sets xs ≡ complete (Code.Operand word) n after → (n ≡ 1) × (after ≡ sets)

-- A format effector of one byte is below 20, is a complete code, and changes no code set.
abbrev pub FormatEffectorFront : Type 0
FormatEffectorFront = (byte : ℕ) (step : TextStep) → format_effector byte ≡ Some step →
    (byte < 0x20) × ((sets : CodeSets) → front sets (byte ∷ []) ≡ complete (Code.Step step) 1 sets)

-- the format effectors of one byte
pub data FormatEffector : ℕ → TextStep → Type 0 where
  backward : FormatEffector 0x08 TextStep.Apb
  forward : FormatEffector 0x09 TextStep.Apf
  down : FormatEffector 0x0A TextStep.Apd
  up : FormatEffector 0x0B TextStep.Apu
  return : FormatEffector 0x0D TextStep.Apr
  home : FormatEffector 0x1E TextStep.Aph

-- Every format effector but APS is one of the six of one byte.
abbrev pub FormatEffectorKnown : Type 0
FormatEffectorKnown = (byte : ℕ) (step : TextStep) → format_effector byte ≡ Some step → FormatEffector byte step
