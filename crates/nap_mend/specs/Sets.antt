use Rattle.std.specs.Prelude.{Bool, List, Option, drop, get_or, is_none, length, nat_le, nat_lt, not, take, ℕ, ◌%◌, ◌+◌, ◌-◌, ◌/◌, ◌==◌, ◌||◌}
use Rattle.nap_find.specs.Searching.{first_from, greatest}
use Rattle.nap_find.specs.Beginnings.{is_within}
use Rattle.nap_mend.specs.declared.sets.{ByteSet.ByteSet, Span.Span}

-- Sets of bytes, and searches for them.

-- the bytes of a span
abbrev pub bytes_in : Span → List ℕ → List ℕ
bytes_in span p = take (span.end - span.begin) (drop span.begin p)

-- the number of ones among the eight bits of a byte
abbrev pub ones : ℕ → ℕ
ones b = b % 2 + b / 2 % 2 + b / 4 % 2 + b / 8 % 2 + b / 16 % 2 + b / 32 % 2 + b / 64 % 2 + b / 128 % 2

-- NUL, LF or CR
abbrev pub is_blank_byte : ℕ → Bool
is_blank_byte b = (b == 0x00) || (b == 0x0A) || (b == 0x0D)

-- a fill that no page has: 1A, E5, F6 or FF
abbrev pub is_stop : ℕ → Bool
is_stop b = (b == 0x1A) || (b == 0xE5) || (b == 0xF6) || (b == 0xFF)

-- whether a byte is in the set
abbrev pub is_in : ByteSet → ℕ → Bool
is_in (ByteSet.Only x) b = b == x
is_in ByteSet.Blanks b = is_blank_byte b
is_in ByteSet.Stops b = is_stop b
is_in ByteSet.Fills b = is_blank_byte b || is_stop b
is_in ByteSet.High b = nat_le 128 b
is_in ByteSet.Low b = nat_lt b 128
is_in ByteSet.EvenOnes b = ones b % 2 == 0
is_in ByteSet.OddOnes b = ones b % 2 == 1
is_in ByteSet.NotFill b = not (is_blank_byte b || is_stop b)
is_in ByteSet.Controls b = nat_lt b 0x20
is_in ByteSet.NotIntermediate b = not (is_within 0x20 0x30 b)

-- whether the byte at this index is in the set
abbrev pub is_in_at : ByteSet → List ℕ → ℕ → Bool
is_in_at set p k = is_in set (get_or p k 0)

-- the first index from `at` on whose byte is in the set
abbrev pub first_in : ByteSet → List ℕ → ℕ → Option ℕ
first_in set p at = first_from (is_in_at set p) at (length p - at)

-- whether no byte is in the set
abbrev pub has_none : ByteSet → List ℕ → Bool
has_none set p = is_none (first_in set p 0)

-- whether the last of n bytes isn't in the set
abbrev pub ends_outside : ByteSet → List ℕ → ℕ → Bool
ends_outside set p n = not (is_in_at set p (n - 1))

-- the number of bytes before those at the end that are in the set, of the first n bytes
abbrev pub before_run : ByteSet → List ℕ → ℕ → ℕ
before_run set p n = greatest (ends_outside set p) n
