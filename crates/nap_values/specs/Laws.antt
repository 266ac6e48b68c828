use Rattle.std.specs.Prelude.{ℕ, ◌≡◌, ◌<◌, ◌≤◌, ◌++◌, Some, List, length, replicate, All}
use Rattle.nap_values.specs.Coordinates.{Coordinates, Displacement, IsInSquare, IsInRange, point_at, displaced_point, displacement_to}
use Rattle.nap_values.specs.{Colours.Components, Colours.HasSixteenBitParts, Operands.multi_of, Operands.single_of, Operands.colour_of}
use Rattle.nap_values.specs.Spellings.{operand_bytes, words_of, move_bytes, point_bytes, addr_bytes, grb_bytes}

-- a word: six bits
abbrev pub IsWord : ℕ → Type 0
IsWord word = word < 64

-- an operand byte, from 40 to 7F, which carries a word
abbrev pub IsOperandByte : ℕ → Type 0
IsOperandByte byte = (64 ≤ byte) × (byte < 128)

-- The bytes are operand bytes of this number, they are read as the value, and no other words of this number are read as
-- it.
pub record IsOnlySpelling {V : Type 0} (read : List ℕ → V) (size : ℕ) (value : V) (bytes : List ℕ) : Type 0 where
  pub size_is : length bytes ≡ size
  pub carriers : All IsOperandByte bytes
  pub read_back : read (words_of bytes) ≡ value
  pub only : (words : List ℕ) → All IsWord words → length words ≡ size → read words ≡ value → operand_bytes words ≡ bytes

-- each displacement in range has exactly one spelling of eight words
abbrev pub MovesSpellOnce : Type 0
MovesSpellOnce = (m : Displacement) → IsInRange m → IsOnlySpelling multi_of 8 m (move_bytes m)

-- each point of the unit screen has exactly one spelling of eight words
abbrev pub PointsSpellOnce : Type 0
PointsSpellOnce = (p : Coordinates) → IsInSquare p →
    IsOnlySpelling (λ words. point_at (multi_of words)) 8 (Some p) (point_bytes p)

-- each address has exactly one spelling of four words
abbrev pub AddressesSpellOnce : Type 0
AddressesSpellOnce = (number : ℕ) → number < 16777216 → IsOnlySpelling single_of 4 number (addr_bytes number)

-- each colour has exactly one spelling of eight words
abbrev pub ColoursSpellOnce : Type 0
ColoursSpellOnce = (c : Components) → HasSixteenBitParts c → IsOnlySpelling colour_of 8 c (grb_bytes c)

-- padding an operand with zero words changes none of its values
abbrev pub MissingWordsAreZero : Type 0
MissingWordsAreZero = (words : List ℕ) (missing : ℕ) →
    (multi_of (words ++ replicate missing 0) ≡ multi_of words)
    × (single_of (words ++ replicate missing 0) ≡ single_of words)
    × (colour_of (words ++ replicate missing 0) ≡ colour_of words)

-- the values that an operand spells are in range
abbrev pub ValuesAreInRange : Type 0
ValuesAreInRange = (words : List ℕ) → All IsWord words →
    IsInRange (multi_of words) × (single_of words < 16777216) × HasSixteenBitParts (colour_of words)

-- the displacement from one point to another is in range, and moves the first to the second
abbrev pub DisplacementsLeadThere : Type 0
DisplacementsLeadThere = (p q : Coordinates) → IsInSquare p → IsInSquare q →
    IsInRange (displacement_to p q) × (displaced_point p (displacement_to p q) ≡ Some q)

-- a displacement that moves one point to another is the displacement between them
abbrev pub DisplacementsAreUnique : Type 0
DisplacementsAreUnique = (p q : Coordinates) (m : Displacement) → displaced_point p m ≡ Some q → IsInSquare q × (displacement_to p q ≡ m)

-- a point given by a displacement from the origin is on the unit screen, and that displacement is the one from the
-- origin to it
abbrev pub PointsAreInside : Type 0
PointsAreInside = (m : Displacement) (p : Coordinates) → point_at m ≡ Some p →
    IsInSquare p × (displacement_to (record { x = 0; y = 0 }) p ≡ m)
