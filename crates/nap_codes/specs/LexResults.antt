use Rattle.std.specs.Prelude.{ℕ, zero, suc, ◌≡◌, List, [], ◌∷◌, length, take, drop, Option, Some, None}
use Rattle.nap_codes.specs.{Types.Code, Types.CodeFault, Types.CodeSets, declared.code.Step.Step, Front.Front, Front.unfinished, Front.complete, Front.refused, Front.front, Lexer.LexerState, Lexer.Steps}

-- The codes of a list of bytes, the fault after them if there is one, and the state of the lexer at the end: the code
-- sets, and the bytes of an incomplete code.
pub record LexResult : Type 0 where
  pub codes : List Code
  pub fault : Option CodeFault
  pub state : LexerState

-- the codes of a list, given its front and the codes of every later part
abbrev pub lex_result_by : (CodeSets → List ℕ → LexResult) → CodeSets → List ℕ → Front → LexResult
lex_result_by later sets bytes unfinished =
    record { codes = []; fault = None; state = record { sets = sets; half = bytes } }
lex_result_by later sets bytes (complete code n after) =
    let rest = later after (drop n bytes) in record rest { codes = code ∷ rest.codes }
lex_result_by later sets bytes (refused fault i) =
    record { codes = []; fault = Some fault; state = record { sets = sets; half = take i bytes } }

-- the codes of a list, up to a given number
unfoldable pub lex_result_within : ℕ → CodeSets → List ℕ → LexResult
lex_result_within zero sets bytes = record { codes = []; fault = None; state = record { sets = sets; half = bytes } }
lex_result_within (suc most) sets bytes = lex_result_by (lex_result_within most) sets bytes (front sets bytes)

-- All codes of a list. There are at most as many as bytes, since each has one byte at least.
unfoldable pub lex_result : CodeSets → List ℕ → LexResult
lex_result sets bytes = lex_result_within (suc (length bytes)) sets bytes

-- The calls of `step`, one for each byte up to a fault, lead a lexer to this state and return these codes and this
-- fault, and `More` otherwise.
pub data StepsThrough : LexerState → List ℕ → List Code → Option CodeFault → LexerState → Type 0 where
  at_end : {state : LexerState} → StepsThrough state [] [] None state
  at_more : {state next end : LexerState} {byte : ℕ} {bytes : List ℕ} {codes : List Code} {fault : Option CodeFault} →
      Steps state byte Step.More next → StepsThrough next bytes codes fault end →
      StepsThrough state (byte ∷ bytes) codes fault end
  at_code : {state next end : LexerState} {byte : ℕ} {bytes : List ℕ} {code : Code} {codes : List Code} {fault : Option CodeFault} →
      Steps state byte (Step.Code code) next → StepsThrough next bytes codes fault end →
      StepsThrough state (byte ∷ bytes) (code ∷ codes) fault end
  at_fault : {state end : LexerState} {byte : ℕ} {bytes : List ℕ} {fault : CodeFault} →
      Steps state byte (Step.Fault fault) end → StepsThrough state (byte ∷ bytes) [] (Some fault) end

-- From a lexer without an incomplete code, the calls of `step` return the codes of the list and its fault, and leave
-- the bytes of its incomplete code.
abbrev pub StepsGiveLexResult : Type 0
StepsGiveLexResult = (sets : CodeSets) (bytes : List ℕ) (codes : List Code) (fault : Option CodeFault) (end : LexerState) →
    StepsThrough (record { sets = sets; half = [] }) bytes codes fault end →
    record { codes = codes; fault = fault; state = end } ≡ lex_result sets bytes
