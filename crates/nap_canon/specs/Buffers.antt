use Rattle.std.specs.Prelude.{ℕ, ◌+◌, List, ◌++◌, length, take, drop}

-- A buffer of bytes for one write.

-- the size of the buffer
abbrev pub buffer_limit : ℕ
buffer_limit = 1024

-- the greatest number of bytes of a piece that isn't a shape: a shift, an opcode and two operands of eight
abbrev pub piece_limit : ℕ
piece_limit = 18

-- the buffer after bytes were written at an index
abbrev pub with_bytes_at : List ℕ → ℕ → List ℕ → List ℕ
with_bytes_at pending at bytes = take at pending ++ (bytes ++ drop (at + length bytes) pending)
