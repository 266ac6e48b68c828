use Rattle.std.specs.Prelude.{List, length, negsuc, pos, ℕ, ℤ, ◌<ℤ◌, ◌<◌, ◌≡◌, ◌≤ℤ◌, ◌≤◌}
use Rattle.std.specs.Str.Parse.{IsNumeral, digits_value}

-- a number of at most eight decimal digits
abbrev pub IsShort : ℕ → Type 0
IsShort n = n < 100000000

-- the greatest number of digits of a number
abbrev pub digits_limit : ℕ
digits_limit = 8

-- at most eight decimal digits write this number, with leading zeros or without
pub record IsNumeralOf (digits : List ℕ) (n : ℕ) : Type 0 where
  pub numeral : IsNumeral 10 digits
  pub few : length digits ≤ digits_limit
  pub value : digits_value 10 digits ≡ n

-- a signed number of 24 bits
abbrev pub IsSigned : ℤ → Type 0
IsSigned z = (negsuc 8388607 ≤ℤ z) × (z <ℤ pos 8388608)

-- the value of a hexadecimal digit
abbrev pub IsNibble : ℕ → Type 0
IsNibble d = d < 16
