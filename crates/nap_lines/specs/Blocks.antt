use Rattle.std.specs.Prelude.{ℕ, zero, suc, ◌+◌, ◌*◌, List, ◌++◌, length, take, drop, get_or}
use Rattle.nap_lines.specs.Lines.{code_text}

-- Blocks of lines, which differ only in the digits of a code.

-- a block with these bytes at an index
abbrev pub patched : List ℕ → ℕ → List ℕ → List ℕ
patched block at bytes = take at block ++ (bytes ++ drop (at + length bytes) block)

-- a block with n copies of a line in front
unfoldable pub filled : ℕ → List ℕ → List ℕ → List ℕ
filled zero line block = block
filled (suc n) line block = patched (filled n line block) (n * length line) line

-- a block of lines of this size, with the digits of the first n codes at an index of as many lines
unfoldable pub recoded : ℕ → ℕ → List ℕ → ℕ → List ℕ → List ℕ
recoded size place codes zero block = block
recoded size place codes (suc n) block = patched (recoded size place codes n block) (n * size + place) (code_text (get_or codes n 0))
