use Rattle.std.specs.Prelude.{ℕ, ℤ, pos, negsuc, ◌-◌, ◌-ℤ◌, nat_lt, if◌then◌else◌}

-- the signed number that 24 bits stand for
abbrev pub signed_of : ℕ → ℤ
signed_of bits = if nat_lt bits 8388608 then pos bits else (pos bits -ℤ pos 16777216)

-- the 24 bits that stand for a signed number
abbrev pub bits_of : ℤ → ℕ
bits_of (pos n) = n
bits_of (negsuc n) = 16777215 - n
