use Rattle.std.specs.Prelude.{Bool, List, drop, get_or, if◌then◌else◌, length, map, take, ℕ, ◌%◌, ◌&&◌, ◌+◌, ◌-◌, ◌==◌, ◌||◌}
use Rattle.nap_mend.specs.Bits.{eighth_bits}
use Rattle.nap_mend.specs.Codes.{content_begin}
use Rattle.nap_mend.specs.Sets.{before_run}
use Rattle.nap_mend.specs.declared.{bits.Bits.Bits, plain.Coded.Coded, sets.ByteSet.ByteSet}

-- Bytes without eighth bits.

-- the last byte
abbrev pub final_byte : List ℕ → ℕ
final_byte p = get_or p (length p - 1) 0

-- a byte from 80 on with which disks are filled
abbrev pub is_high_fill : ℕ → Bool
is_high_fill b = (b == 0xE5) || (b == 0xF6) || (b == 0xFF)

-- whether four such bytes, all the same, stand there
abbrev pub is_filled_at : List ℕ → ℕ → Bool
is_filled_at p at =
    is_high_fill (get_or p at 0) && (get_or p at 0 == get_or p (at + 1) 0) && (get_or p at 0 == get_or p (at + 2) 0)
    && (get_or p at 0 == get_or p (at + 3) 0)

-- whether bytes end with a fill: a zero, or four such bytes
abbrev pub ends_filled : List ℕ → Bool
ends_filled p = (final_byte p == 0x00) || is_filled_at p (length p - 4)

-- the number of bytes before such a fill at the end
abbrev pub before_fill : List ℕ → ℕ
before_fill p = if ends_filled p then before_run (ByteSet.Only (final_byte p)) p (length p) else length p

-- the number of bytes before that fill, and before a run of 1A that comes before it
abbrev pub before_end : List ℕ → ℕ
before_end p = before_run (ByteSet.Only 0x1A) p (before_fill p)

-- whether bytes begin or end so: they are a fill then, and no operands with parity
abbrev pub is_filled : List ℕ → Bool
is_filled p = is_filled_at p 0 || is_filled_at p (length p - 4)

-- these eighth bits are those of the bytes from one index to before another; with none of them it is as it would be else
abbrev pub coded_or : Coded → Bits → ℕ → ℕ → Coded
coded_or else_coded Bits.None begin end = else_coded
coded_or else_coded bits begin end = record { bits = bits; begin = begin; end = end }

-- the eighth bits of bytes, unless these are filled
abbrev pub bits_unfilled : List ℕ → Bits
bits_unfilled p = if is_filled p then Bits.None else eighth_bits p

-- all bytes as they are
abbrev pub uncoded : List ℕ → Coded
uncoded p = record { bits = Bits.None; begin = 0; end = length p }

-- the eighth bits of the first n bytes without what leads
abbrev pub coded_after_lead : List ℕ → ℕ → Coded
coded_after_lead p n = coded_or (uncoded p) (eighth_bits (drop (content_begin (take n p)) (take n p))) (content_begin (take n p)) n

-- the eighth bits of the first n bytes, or of these without what leads
abbrev pub coded_to : List ℕ → ℕ → Coded
coded_to p n = coded_or (coded_after_lead p n) (bits_unfilled (take n p)) 0 n

-- the eighth bits of all bytes, else of those before the fill at the end, else of these without what leads
abbrev pub coded_of : List ℕ → Coded
coded_of p = coded_or (coded_to p (before_end p)) (bits_unfilled p) 0 (length p)

-- bytes without these eighth bits
abbrev pub without_bits : Bits → List ℕ → List ℕ
without_bits Bits.None p = p
without_bits bits p = map (λ b. b % 128) p
