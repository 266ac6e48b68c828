use Rattle.std.specs.Prelude.{ℕ, ◌≡◌, ◌==◌, ◌<◌, ◌+◌, ◌*◌, ◌/◌, ◌%◌, Bool, List, map, bit_and}
use Rattle.nap_values.specs.{PackedCoordinates.x_in, PackedCoordinates.packed_coordinates, Coordinates.Coordinates, Digits.value_of, Operands.x_digit, Operands.y_digit}

-- The nine highest bits of two numbers of 24 bits, in one such number: its first three digits in base 8 are those of y,
-- and its fifth to seventh those of x. The other two are zero.

-- the number without the other two digits
abbrev pub coarse_part : ℕ → ℕ
coarse_part n = n / 32768 * 32768 + n % 4096 / 8 * 8

-- the number that the first three words of bytes stand for
abbrev pub coarse_words : List ℕ → ℕ
coarse_words words = value_of 8 3 (map y_digit words) * 32768 + value_of 8 3 (map x_digit words) * 8

-- the number with the nine highest bits of a number put in place of its own
abbrev pub with_high : ℕ → ℕ → ℕ
with_high high n = high * 32768 + n % 32768

-- the point with the highest bits of this number, and all other bits of a point
abbrev pub coarse_point : ℕ → Coordinates → Coordinates
coarse_point n start = record { x = with_high (n % 4096 / 8) start.x; y = with_high (n / 32768) start.y }

-- where displacements have led, and whether all points on the way were on the unit screen
pub record Course : Type 0 where
  pub point : Coordinates
  pub inside : Bool

-- neither of the two numbers has its highest bit set
abbrev pub is_clear : ℕ → Bool
is_clear n = bit_and n 0x2000_0000_2000_0000 == 0

-- both numbers are below 2^23
abbrev pub IsInside : ℕ → Type 0
IsInside n = (n % 4096 / 8 < 256) × (n / 32768 < 256)

-- the words hold the nine highest bits of two numbers
abbrev pub IsCoarse : ℕ → Type 0
IsCoarse words = (packed_coordinates (x_in words) 0 ≡ words) × (x_in words < 16777216) × (coarse_part (x_in words) ≡ x_in words)
