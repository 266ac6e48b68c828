use Rattle.std.specs.Prelude.{ℕ, ◌≡◌, ◌⊎◌, List, [], ◌∷◌, ◌++◌, length, Some, None}
use Rattle.nap_codes.specs.{declared.code.Code.Code, Types.CharSet, Types.CodeSets, Types.Opcode, Types.Step, Types.TextStep, declared.control.Row.TheVariants.Whole, CodeSets.set_at, Tables.row_of, Tables.control0_rows, Tables.opcode_rows, Tables.left_out_opcode, Front.Front, Front.unfinished, Front.complete, Front.refused, Front.front, Laws.IsGraphic}
use Rattle.nap_codes.specs.declared.code_set.CodeSet.TheVariants.{Macros, Pdi}

-- the state of a lexer: its code sets, and the bytes of an incomplete code
pub record LexerState : Type 0 where
  pub sets : CodeSets
  pub half : List ℕ

-- the effect of a byte on a lexer, given the front of the incomplete code followed by the byte
abbrev pub StepsBy : Front → LexerState → ℕ → Step → LexerState → Type 0
StepsBy unfinished old byte step new =
    (step ≡ Step.More) × (new ≡ record { sets = old.sets; half = old.half ++ byte ∷ [] })
StepsBy (complete code n after) old byte step new =
    (step ≡ Step.Code code) × (n ≡ length (old.half ++ byte ∷ [])) × (new ≡ record { sets = after; half = [] })
StepsBy (refused fault i) old byte step new =
    (step ≡ Step.Fault fault) × (i ≡ length old.half) × (new ≡ old)

-- the effect of a byte on a lexer
abbrev pub Steps : LexerState → ℕ → Step → LexerState → Type 0
Steps old byte step new = StepsBy (front old.sets (old.half ++ byte ∷ [])) old byte step new

-- The byte is a character of this set in this state: no code is incomplete, the byte is a complete code, and it changes
-- no code set.
abbrev pub IsCharacter : LexerState → ℕ → CharSet → Type 0
IsCharacter lexer byte set = (lexer.half ≡ []) × (front lexer.sets (byte ∷ []) ≡ complete (Code.Char set byte) 1 lexer.sets)

-- The byte is this opcode in this state: no code is incomplete, the PDI set is in GL, and the tables have the opcode
-- and don't leave it out.
abbrev pub IsOpcode : LexerState → ℕ → Opcode → Type 0
IsOpcode lexer byte op =
    (lexer.half ≡ []) × (set_at lexer.sets lexer.sets.gl ≡ Pdi) × (row_of opcode_rows byte ≡ Some op) × (left_out_opcode op ≡ None)

-- The byte calls the macro that it names in this state: no code is incomplete, and the macro set is in GL.
abbrev pub IsCall : LexerState → ℕ → Type 0
IsCall lexer byte = (lexer.half ≡ []) × (set_at lexer.sets lexer.sets.gl ≡ Macros) × IsGraphic byte

-- The byte is this format effector in this state: no code is incomplete, and the C0 set has the format effector for the
-- byte.
abbrev pub IsFormatEffector : LexerState → ℕ → TextStep → Type 0
IsFormatEffector lexer byte step = (lexer.half ≡ []) × (row_of control0_rows byte ≡ Some (Whole (Code.Step step)))

-- The byte is SO or SI in this state: no code is incomplete.
abbrev pub IsShift : LexerState → ℕ → Type 0
IsShift lexer byte = (lexer.half ≡ []) × ((byte ≡ 0x0E) ⊎ (byte ≡ 0x0F))
