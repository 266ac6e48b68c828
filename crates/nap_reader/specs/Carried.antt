use Rattle.std.specs.Prelude.{None, Option, Some, [], ℕ, ⊤, ◌∷◌, ◌≡◌}
use Rattle.nap_reader.specs.Names.{CharSet, Code, CodeSets, IsDrawn, IsDrawn-prop, IsGraphic, LexerState}
use Rattle.std.proofs.Props.{props}
use Rattle.nap_codes.specs.Front as codes
use Rattle.nap_reader.specs.{declared.body.OpenBody.OpenBody, declared.machine.OpenRun.OpenRun}

-- the opcode of an open run has a rule
abbrev pub HasRule : Option OpenRun → Type 0
HasRule None = ⊤
HasRule (Some open_run) = IsDrawn open_run.op

-- HasRule has at most one proof, so a value may carry one.
pub HasRule-prop : (open_run : Option OpenRun) → IsProp (HasRule open_run)
HasRule-prop None = hlevel props
HasRule-prop (Some open_run) = IsDrawn-prop open_run.op

-- the macro of an open body has a name
abbrev pub HasName : Option OpenBody → Type 0
HasName None = ⊤
HasName (Some body) = IsGraphic body.name

pub HasName-prop : (body : Option OpenBody) → IsProp (HasName body)
HasName-prop None = hlevel props
HasName-prop (Some body) = hlevel props

-- each of the bytes from 20 to 7F alone is a character of this set
abbrev pub AllCharacters : CodeSets → CharSet → Type 0
AllCharacters sets set = (b : ℕ) → IsGraphic b → codes.front sets (b ∷ []) ≡ codes.complete (Code.Char set b) 1 sets

-- the bytes from 20 to 7F aren't characters while a run is open
abbrev pub NoCharacters : LexerState → Option OpenRun → Type 0
NoCharacters lexer None = ⊤
NoCharacters lexer (Some open_run) = (set : CharSet) → AllCharacters lexer.sets set → ⊥

pub NoCharacters-prop : (lexer : LexerState) (open_run : Option OpenRun) → IsProp (NoCharacters lexer open_run)
NoCharacters-prop lexer None = hlevel props
NoCharacters-prop lexer (Some open_run) = hlevel props
