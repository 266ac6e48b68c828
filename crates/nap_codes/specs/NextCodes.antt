use Rattle.std.specs.Prelude.{ℕ, ◌≡◌, List, [], ◌∷◌}
use Rattle.nap_codes.specs.{Types.Code, Types.CodeSets, Types.NextCode, Front.Front, Front.complete, Front.front, Lexer.LexerState}

-- a code of so many bytes that is neither an opcode nor an operand, by what a reader does with it
abbrev pub next_of_code : Code → ℕ → NextCode
next_of_code (Code.Op op) n = NextCode.Other
next_of_code (Code.Operand word) n = NextCode.Other
next_of_code Code.Fill n = NextCode.Nothing n
next_of_code Code.Shifted n = NextCode.Nothing n
next_of_code (Code.Designated number set) n = NextCode.Nothing n
next_of_code (Code.Call name) n = NextCode.Calls n name
next_of_code (Code.DefMacro name show) n = NextCode.Defines n name show
next_of_code code n = NextCode.Acts n code

-- the code at the front of bytes, by what a reader does with it
abbrev pub next_of : Front → NextCode
next_of (complete code n after) = next_of_code code n
next_of _ = NextCode.Other

-- the code sets after the code at the front of bytes, if there is one
abbrev pub sets_after : CodeSets → Front → CodeSets
sets_after sets (complete code n after) = after
sets_after sets _ = sets

-- the code at the front, and the code sets after it
abbrev pub IsNextOf : Front → CodeSets → NextCode → CodeSets → Type 0
IsNextOf front old next new = (next ≡ next_of front) × (new ≡ sets_after old front)

-- the code at the beginning of bytes, and its effect on a lexer
abbrev pub IsNext : LexerState → List ℕ → NextCode → LexerState → Type 0
IsNext old bytes NextCode.Other new = new ≡ old
IsNext old bytes next new = (old.half ≡ []) × (new.half ≡ []) × IsNextOf (front old.sets bytes) old.sets next new.sets

-- the rest of a code of which ESC was read, and its effect on a lexer; its bytes are counted with ESC
abbrev pub IsNextAfterEscape : LexerState → List ℕ → NextCode → LexerState → Type 0
IsNextAfterEscape old bytes NextCode.Other new = new ≡ old
IsNextAfterEscape old bytes next new = (old.half ≡ 0x1B ∷ []) × (new.half ≡ []) × IsNextOf (front old.sets (0x1B ∷ bytes)) old.sets next new.sets
