use Rattle.std.specs.Prelude.{List, None, length, take, ℕ, ◌++◌, ◌+◌, ◌<◌, ◌∷◌, ◌≡◌, ◌≤◌}
use Rattle.nap_reader.specs.Names.{CharSet, Ghosts, IsCharacter, IsGraphic, IsOpcode, LexerState, Opcode, prefix_len}
use Rattle.nap_reader.specs.{declared.reader.Reader.Reader, declared.reader.Ahead.Ahead, Prefix.is_of_text, Stream.begun, Stream.is_operand_byte}

-- What the first bytes of a piece add, if it comes next.

-- the number of these bytes
abbrev pub bytes_ahead : Ahead → ℕ
bytes_ahead (Ahead.First n) = n
bytes_ahead (Ahead.Each n) = n

-- After the bytes p, those after the first add no entries; or each adds one entry.
abbrev pub AddsAhead : ℕ → List ℕ → List ℕ → Ahead → Type 0
AddsAhead budget p piece (Ahead.First n) = (k : ℕ) → 1 ≤ k → k ≤ n →
    (begun budget (p ++ take k piece)).entries ≡ (begun budget (p ++ take 1 piece)).entries
AddsAhead budget p piece (Ahead.Each n) = (k : ℕ) → k ≤ n →
    length (begun budget (p ++ take k piece)).entries ≡ length (begun budget p).entries + k

-- An opcode is counted with all operand bytes after it.
abbrev pub CountsOperands : LexerState → List ℕ → Ahead → Type 0
CountsOperands lexer piece found = (b : ℕ) (rest : List ℕ) (op : Opcode) → piece ≡ b ∷ rest → b < 0x40 → IsOpcode lexer b op →
    found ≡ Ahead.First (1 + prefix_len is_operand_byte rest)

-- Characters and the format effectors among them are counted together.
abbrev pub CountsText : LexerState → List ℕ → Ahead → Type 0
CountsText lexer piece found = (set : CharSet) → ((b : ℕ) → IsGraphic b → IsCharacter lexer b set) → 0 < prefix_len is_of_text piece →
    found ≡ Ahead.Each (prefix_len is_of_text piece)

-- Unless the body of a macro is being defined, no byte is left out that can be counted.
abbrev pub CountsAhead : {S : Type 0} {g : Ghosts S} → Reader S g → List ℕ → Ahead → Type 0
CountsAhead reader piece found = reader.input.body ≡ None → CountsOperands reader.machine.lexer piece found × CountsText reader.machine.lexer piece found
