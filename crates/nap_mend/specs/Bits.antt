use Rattle.std.specs.Prelude.{List, if◌then◌else◌, ℕ}
use Rattle.nap_mend.specs.Sets.{has_none}
use Rattle.nap_mend.specs.declared.{bits.Bits.Bits, sets.ByteSet.ByteSet}

-- Eighth bits.

-- the eighth bits of bytes of which some have one: those of a parity, or a mark
abbrev pub bits_of_some : List ℕ → Bits
bits_of_some p =
    if has_none ByteSet.OddOnes p then Bits.Even
    else (if has_none ByteSet.EvenOnes p then Bits.Odd else (if has_none ByteSet.Low p then Bits.Mark else Bits.None))

-- the eighth bits of bytes
abbrev pub eighth_bits : List ℕ → Bits
eighth_bits p = if has_none ByteSet.High p then Bits.None else bits_of_some p
