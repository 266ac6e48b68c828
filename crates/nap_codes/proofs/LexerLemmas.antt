-- What a lexer reads: characters, opcodes, bytes within a code, the codes of a list.
use Rattle.nap_codes.proofs.{Argument, ByteOutcome, CharSet, Code, CodeFault, CodeSet, CodeSets, Control, Designation, Escape, Front, G1, HalfRead, IsCall, IsCharacter, IsGraphic, IsHalfRead, IsOpcode, Left, LexerState, List, More, NextCode, None, Nothing, Opcode, Option, Some, SpellingLaws.code_is_spelled, SpellingLaws.code_ranges, Spells, Step, Steps, StepsBy, [], after_control0, ap, append-nil, append_assoc, ap₂, argument_front, argument_of, arith, bad_byte, char_set_of, column_front, complete, control0_front, control0_rows, control1_front, control1_rows, control_of, designated_front, designation, designation_front, drop, drop-append_seam, escape_front, final_front, front, gl_front, half_read_bytes, inl, inr, last_byte, left_out_opcode, length, length-append, length-drop, more_front, ne_eqb, non_pdi_code, number_rows, one_byte_later, opcode_front, opcode_rows, pdi_front, position_front, refl, refused, rest_front, row_of, sequence_front, set_at, set_rows, shifted_front, single_shift_front, start_sets, subst, suc, sym, take, take-append_seam, unfinished, with_set, zero, ℕ, ◌++◌, ◌<◌, ◌↔◌, ◌∙◌, ◌∷◌, ◌≡◌, ◌≢◌, ◌≤◌, ◌⊎◌}
use Rattle.nap_codes.specs.HalfReadCodes.{IsLastOutcome, IsOutcomeBy, IsOutcomeOf, half_read_after}
use Rattle.nap_codes.specs.NextCodes.{IsNext, IsNextAfterEscape, IsNextOf, next_of, next_of_code, sets_after}
use Rattle.nap_codes.specs.LexResults.{LexResult, StepsGiveLexResult, StepsThrough, at_code, at_end, at_fault, at_more, lex_result, lex_result_by, lex_result_within}
use Rattle.nap_codes.proofs.TableLemmas.{IsLongControl, control_of-argument_of, graphic_test, long_control, no_control0, no_opcode, opcode_range, shift2, space}
use Rattle.nap_codes.proofs.FrontLemmas.{code_length, code_stays, front_of_half, further, further-complete, further-refused, further-unfinished, pdi_begins, refused_stays}
use Rattle.nap_codes.specs.Spelling as spelling

-- Which bytes are complete codes of a character.

module _ (sets : CodeSets) (byte : ℕ) (set : CharSet) where
  -- an opcode is no character
  no_char_of_opcode : (op : Opcode) (left : Option Left) → opcode_front sets op left ≡ complete (Code.Char set byte) 1 sets → ⊥
  unfolding opcode_front
  no_char_of_opcode _ None e = cc
  no_char_of_opcode _ (Some name) e = cc

  -- a code of the PDI set is no character
  no_char_of_pdi : (found : Option Opcode) → pdi_front sets byte found ≡ complete (Code.Char set byte) 1 sets → ⊥
  unfolding pdi_front
  no_char_of_pdi None e = cc
  no_char_of_pdi (Some op) e = no_char_of_opcode op _ e

  -- a code of a set is a character if the set is a character set
  in_set : (at : CodeSet) → (char_set_of at ≡ Some set) ↔ (gl_front sets byte (non_pdi_code at byte) ≡ complete (Code.Char set byte) 1 sets)
  unfolding non_pdi_code gl_front
  in_set CodeSet.Pdi = (λ e. cc, λ e. absurd (no_char_of_pdi _ e))
  in_set _ = (λ e. cc, λ e. cc)

  -- a byte from 20 to 7F is a character if a character set is in GL
  in_gl : IsGraphic byte → (char_set_of (set_at sets sets.gl) ≡ Some set) ↔ (front sets (byte ∷ []) ≡ complete (Code.Char set byte) 1 sets)
  unfolding front control0_front
  in_gl range = rw (no_control0 byte range.0, graphic_test byte range) (in_set _)

-- if one graphic byte is a character, all are, and of one set
pub all_alike : (lexer : LexerState) (byte : ℕ) (set : CharSet) → IsGraphic byte → IsCharacter lexer byte set →
    (other : ℕ) → IsGraphic other → IsCharacter lexer other set
all_alike _ byte set range k other range' = (k.0, (in_gl _ other set range').0 ((in_gl _ byte set range).1 k.1))

-- with no incomplete code, all graphic bytes are characters exactly if a character set is in GL
pub all_in_gl : (lexer : LexerState) (set : CharSet) → lexer.half ≡ [] →
    (char_set_of (set_at lexer.sets lexer.sets.gl) ≡ Some set) ↔ ((byte : ℕ) → IsGraphic byte → IsCharacter lexer byte set)
all_in_gl _ set rests =
    (λ e byte range. (rests, (in_gl _ byte set range).0 e), λ k. (in_gl _ 0x20 set space).1 (k 0x20 space).1)

-- no byte is a character within a code
pub all_amid : (lexer : LexerState) (set : CharSet) → (lexer.half ≡ [] → ⊥) →
    (None ≡ Some set) ↔ ((byte : ℕ) → IsGraphic byte → IsCharacter lexer byte set)
all_amid _ _ some = (λ e. cc, λ k. absurd (some (k 0x20 space).0))

-- no byte outside 20 to 7F is a character
pub none_beyond : (lexer : LexerState) (byte : ℕ) (set : CharSet) → (IsGraphic byte → ⊥) → (None ≡ Some set) ↔ IsCharacter lexer byte set
none_beyond _ byte set other = (λ e. cc, λ k. absurd (other (code_ranges _ (byte ∷ []) (Code.Char set byte) 1 _ k.1)))

-- A byte calls the macro that it names, if the macro set is in GL.
pub call_front : (lexer : LexerState) (byte : ℕ) → IsCall lexer byte → (rest : List ℕ) → front lexer.sets (byte ∷ rest) ≡ complete (Code.Call byte) 1 lexer.sets
unfolding front control0_front gl_front non_pdi_code
call_front _ byte (rests, macros, graphic) _ = rw (no_control0 byte graphic.0, graphic_test byte graphic, macros) refl

-- The effect of a byte on an incomplete code.

-- the last byte of a code is a byte of it
IsLastOutcome-IsOutcomeBy : (r : Front) (half : HalfRead) (byte : ℕ) (turn : ByteOutcome) → IsLastOutcome r turn → IsOutcomeBy r half byte turn
IsLastOutcome-IsOutcomeBy unfinished _ _ _ e = absurd e
IsLastOutcome-IsOutcomeBy _ _ _ _ e = e

first_led : (sets : CodeSets) {byte : ℕ} (more : HalfRead) → IsLongControl byte → more ≡ half_read_after byte →
    IsOutcomeBy (one_byte_later (more_front sets byte [])) Nothing byte (ByteOutcome.More more)
unfolding one_byte_later more_front escape_front position_front single_shift_front half_read_after
first_led _ more shift2 is = (more, refl, ap half_read_bytes is, subst IsHalfRead (sym is) tt)
first_led _ more _ is = (more, refl, ap half_read_bytes is, subst IsHalfRead (sym is) tt)

pub first_more : (sets : CodeSets) (byte : ℕ) (more : HalfRead) → row_of control0_rows byte ≡ Some More → more ≡ half_read_after byte →
    IsOutcomeOf sets Nothing byte (ByteOutcome.More more)
unfolding front control0_front
first_more sets byte more e is = rw e (first_led sets more (long_control byte e) is)

pub first_graphic : (sets : CodeSets) (byte : ℕ) (turn : ByteOutcome) → row_of control0_rows byte ≡ None → 0x20 ≤ byte → byte < 0x80 →
    IsLastOutcome (gl_front sets byte (non_pdi_code (set_at sets sets.gl) byte)) turn → IsOutcomeOf sets Nothing byte turn
unfolding front control0_front
first_graphic _ byte turn e least most ends =
    rw (e, graphic_test byte (least, most)) (IsLastOutcome-IsOutcomeBy _ Nothing byte turn ends)

pub escaped_more : (sets : CodeSets) (byte : ℕ) (argument : Argument) → row_of control1_rows byte ≡ Some More →
    argument ≡ argument_of byte → IsOutcomeOf sets Escape byte (ByteOutcome.More (Control argument))
unfolding escape_front control1_front argument_front one_byte_later
escaped_more _ byte argument e is =
    rw e (Control argument, refl, ap (λ k. 0x1B ∷ k ∷ []) (ap control_of is ∙ control_of-argument_of byte e), tt)

pub designation_final : (sets : CodeSets) (intermediate byte : ℕ) (turn : ByteOutcome) → byte ≢ 0x20 →
    IsLastOutcome (final_front sets intermediate (byte ∷ [])) turn → IsOutcomeOf sets (Designation intermediate) byte turn
unfolding designation_front
designation_final _ intermediate byte turn differs ends =
    rw (ne_eqb byte 0x20 differs) (IsLastOutcome-IsOutcomeBy _ _ byte turn ends)

rest_front-nothing : (sets : CodeSets) (half : HalfRead) → rest_front sets half [] ≡ unfinished
unfolding front escape_front argument_front designation_front final_front single_shift_front position_front column_front
rest_front-nothing _ Nothing = refl
rest_front-nothing _ _ = refl

-- An incomplete code is unfinished.
pub half_unfinished : (sets : CodeSets) (half : HalfRead) → IsHalfRead half → front sets (half_read_bytes half) ≡ unfinished
half_unfinished sets half is =
    ap (front sets) (sym (append-nil _)) ∙ front_of_half sets half [] is
    ∙ ap (further _) (rest_front-nothing sets half) ∙ further-unfinished (length (half_read_bytes half))

-- the step that a byte's outcome gives
abbrev pub step_of : ByteOutcome → Step
step_of (ByteOutcome.More half) = Step.More
step_of (ByteOutcome.Code code after) = Step.Code code
step_of (ByteOutcome.Fault fault) = Step.Fault fault

-- the lexer after a byte's outcome
abbrev pub after_turn : CodeSets → HalfRead → ByteOutcome → LexerState
after_turn sets half (ByteOutcome.More more) = record { sets = sets; half = half_read_bytes more }
after_turn sets half (ByteOutcome.Code code after) = record { sets = after; half = [] }
after_turn sets half (ByteOutcome.Fault fault) = record { sets = sets; half = half_read_bytes half }

at_rest_front : (sets : CodeSets) (half : HalfRead) (byte : ℕ) (turn : ByteOutcome) (r : Front) → IsOutcomeBy r half byte turn →
    StepsBy (further (length (half_read_bytes half)) r) (record { sets = sets; half = half_read_bytes half }) byte (step_of turn) (after_turn sets half turn)
at_rest_front sets half _ _ unfinished e =
    rw (further-unfinished _, e.1) (refl, ap (λ bytes. record { sets = sets; half = bytes }) e.2)
at_rest_front _ half _ _ (complete code n after) e =
    rw (further-complete (length (half_read_bytes half)) code n after, e.1) (refl, simp length-append (omega (arith)), refl)
at_rest_front _ half _ _ (refused fault i) e =
    rw (further-refused (length (half_read_bytes half)) fault i, e.1) (refl, omega (arith), refl)

-- A byte's outcome is a step of the lexer.
pub turn-Steps : (sets : CodeSets) (half : HalfRead) (byte : ℕ) (turn : ByteOutcome) → IsHalfRead half → IsOutcomeOf sets half byte turn →
    Steps (record { sets = sets; half = half_read_bytes half }) byte (step_of turn) (after_turn sets half turn)
turn-Steps sets half byte turn is e =
    rw (front_of_half sets half _ is) (at_rest_front sets half byte turn _ e)

more_at : (half : HalfRead) (byte : ℕ) (more : HalfRead) (r : Front) → IsOutcomeBy r half byte (ByteOutcome.More more) → IsHalfRead more
more_at _ _ more unfinished e = let same : e.0 ≡ more = cc in subst IsHalfRead same e.3
more_at _ _ _ _ e = cc

-- A code that is incomplete after a byte has its parameters in range.
pub turn_more-IsHalfRead : (sets : CodeSets) (half : HalfRead) (byte : ℕ) (more : HalfRead) → IsOutcomeOf sets half byte (ByteOutcome.More more) → IsHalfRead more
turn_more-IsHalfRead sets half byte more e = more_at half byte more _ e

-- The steps of a lexer give the codes of a list.

-- a code before the codes read after it
abbrev pub with_code : Code → LexResult → LexResult
with_code code rest = record rest { codes = code ∷ rest.codes }

-- More steps than there are bytes change nothing.
lex_result_within-spare : (f g : ℕ) (sets : CodeSets) (bytes : List ℕ) → length bytes < f → length bytes < g →
    lex_result_within f sets bytes ≡ lex_result_within g sets bytes
unfolding lex_result_within
lex_result_within-spare zero g sets bytes hf hg = absurd (omega arith)
lex_result_within-spare (suc f) zero sets bytes hf hg = absurd (omega arith)
lex_result_within-spare (suc f) (suc g) sets bytes hf hg =
    at (front sets bytes) refl (λ after rest h h'. lex_result_within-spare f g after rest h h')
  where
    at : (r : Front) → front sets bytes ≡ r →
        ((after : CodeSets) (rest : List ℕ) → length rest < f → length rest < g → lex_result_within f after rest ≡ lex_result_within g after rest) →
        lex_result_by (lex_result_within f) sets bytes r ≡ lex_result_by (lex_result_within g) sets bytes r
    at (complete code n after) e ih =
        let some = code_length sets bytes code n after e in
        let less : length (drop n bytes) < length bytes = simp length-drop (omega arith) in
        ap (with_code code) (ih after (drop n bytes) (omega arith) (omega arith))
    at _ e ih = refl

-- the codes of a list, by its front
pub lex_result-front : (sets : CodeSets) (bytes : List ℕ) → lex_result sets bytes ≡ lex_result_by lex_result sets bytes (front sets bytes)
unfolding lex_result lex_result_within
lex_result-front sets bytes = at (front sets bytes) refl
  where
    at : (r : Front) → front sets bytes ≡ r →
        lex_result_by (lex_result_within (length bytes)) sets bytes r ≡ lex_result_by lex_result sets bytes r
    at (complete code n after) e =
        let some = code_length sets bytes code n after e in
        let less : length (drop n bytes) < length bytes = simp length-drop (omega arith) in
        ap (with_code code) (lex_result_within-spare (length bytes) (suc (length (drop n bytes))) after (drop n bytes) less (omega arith))
    at _ e = refl

-- the front that a step tells
module _ (old new : LexerState) (byte : ℕ) where
  pub on_more : (r : Front) → StepsBy r old byte Step.More new →
      (r ≡ unfinished) × (new ≡ record { sets = old.sets; half = old.half ++ byte ∷ [] })
  on_more unfinished e = (refl, e.1)
  on_more _ e = cc

  pub on_code : (r : Front) (code : Code) → StepsBy r old byte (Step.Code code) new →
      (r ≡ complete code (length (old.half ++ byte ∷ [])) new.sets) × (new.half ≡ [])
  on_code (complete c n after) code e =
      let same : c ≡ code = cc in
      let sets : after ≡ new.sets = ap (λ s. s.sets) (sym e.2) in
      (rw (same, e.1, sets) refl, ap (λ s. s.half) e.2)
  on_code _ code e = cc

  pub on_fault : (r : Front) (fault : CodeFault) → StepsBy r old byte (Step.Fault fault) new →
      (r ≡ refused fault (length old.half)) × (new ≡ old)
  on_fault (refused f i) fault e =
      let same : f ≡ fault = cc in
      (rw (same, e.1) refl, e.2)
  on_fault _ fault e = cc

pub front-nothing : (sets : CodeSets) (bytes : List ℕ) → bytes ≡ [] → front sets bytes ≡ unfinished
unfolding front
front-nothing _ _ e = rw e refl

-- the codes of a list that begins with the bytes of a code
pub lex_result-code : (sets : CodeSets) (read bytes : List ℕ) (code : Code) (after : CodeSets) → front sets read ≡ complete code (length read) after →
    lex_result sets (read ++ bytes) ≡ with_code code (lex_result after bytes)
lex_result-code sets read bytes code after e =
    rw (lex_result-front sets (read ++ bytes), code_stays sets read bytes code _ after e, drop-append_seam read bytes) refl

-- the codes of a list that begins with the bytes up to a refused one
pub lex_result-fault : (sets : CodeSets) (half : List ℕ) (byte : ℕ) (bytes : List ℕ) (fault : CodeFault) →
    front sets (half ++ byte ∷ []) ≡ refused fault (length half) →
    lex_result sets (half ++ byte ∷ bytes) ≡ record { codes = []; fault = Some fault; state = record { sets = sets; half = half } }
lex_result-fault sets half byte bytes fault e =
    let there : front sets (half ++ byte ∷ bytes) ≡ refused fault (length half) =
    subst (λ xs. front sets xs ≡ refused fault (length half)) (append_assoc half (byte ∷ []) bytes)
    (refused_stays sets (half ++ byte ∷ []) bytes fault (length half) e) in
    rw (lex_result-front sets (half ++ byte ∷ bytes), there, take-append_seam half (byte ∷ bytes)) refl

-- the steps of a lexer with these bytes of an incomplete code
steps_lexed : {state end : LexerState} {bytes : List ℕ} {codes : List Code} {fault : Option CodeFault} →
    StepsThrough state bytes codes fault end → front state.sets state.half ≡ unfinished →
    record { codes = codes; fault = fault; state = end } ≡ lex_result state.sets (state.half ++ bytes)
steps_lexed {state} at_end rests = sym (rw (append-nil state.half, lex_result-front state.sets state.half, rests) refl)
steps_lexed {state} (at_more {next} {byte} {bytes} step rest) rests =
    let is = on_more state next byte _ step in
    let after : front next.sets next.half ≡ unfinished = rw is.1 is.0 in
    steps_lexed rest after
    ∙ ap (λ s. lex_result s.sets (s.half ++ bytes)) is.1 ∙ ap (lex_result state.sets) (append_assoc state.half (byte ∷ []) bytes)
steps_lexed {state} (at_code {next} {byte} {bytes} {code} step rest) rests =
    let is = on_code state next byte _ code step in
    ap (with_code code) (steps_lexed rest (front-nothing _ _ is.1))
    ∙ ap (λ half. with_code code (lex_result next.sets (half ++ bytes))) is.1
    ∙ sym (lex_result-code _ (state.half ++ byte ∷ []) bytes code _ is.0)
    ∙ ap (lex_result state.sets) (append_assoc state.half (byte ∷ []) bytes)
steps_lexed {state} {end} (at_fault {byte} {bytes} {fault} step) rests =
    let is = on_fault state end byte _ fault step in
    ap (λ s. record { codes = []; fault = Some fault; state = s }) is.1
    ∙ sym (lex_result-fault _ _ byte bytes fault is.0)

-- From a lexer without an incomplete code, the steps give the codes of the list.
pub steps_are_lexed : StepsGiveLexResult
steps_are_lexed sets _ _ _ _ steps = steps_lexed steps (front-nothing sets [] refl)

-- The code at the beginning of bytes.

-- Only a locking shift and a designation change the code sets.
spelled_keeps : {sets after : CodeSets} {bytes : List ℕ} {code : Code} {n : ℕ} → Spells sets bytes code after →
    (next_of_code code n ≡ NextCode.Nothing n) ⊎ (after ≡ sets)
spelled_keeps spelling.shift_out = inl refl
spelled_keeps spelling.shift_in = inl refl
spelled_keeps spelling.locking_shift2 = inl refl
spelled_keeps spelling.locking_shift3 = inl refl
spelled_keeps (spelling.designation number set) = inl refl
spelled_keeps (spelling.spaced_designation number set) = inl refl
spelled_keeps _ = inr refl

kept : {next : NextCode} {n : ℕ} (code : Code) {sets after : CodeSets} → ((m : ℕ) → next ≡ NextCode.Nothing m → ⊥) → next ≡ next_of_code code n →
    (next_of_code code n ≡ NextCode.Nothing n) ⊎ (after ≡ sets) → after ≡ sets
kept _ adds is (inl nothing) = absurd (adds _ (is ∙ nothing))
kept _ _ _ (inr same) = same

-- a code that adds something, and what isn't consumed, change no code set
front_keeps : (sets : CodeSets) (bytes : List ℕ) {next : NextCode} (r : Front) → ((n : ℕ) → next ≡ NextCode.Nothing n → ⊥) → front sets bytes ≡ r →
    next ≡ next_of r → sets_after sets r ≡ sets
front_keeps sets bytes (complete code n after) adds is e =
    kept _ adds e (spelled_keeps ((code_is_spelled sets bytes code n after).0 is).1)
front_keeps _ _ _ adds is e = refl

pub next_keeps : (sets after : CodeSets) (bytes : List ℕ) (next : NextCode) → ((n : ℕ) → next ≡ NextCode.Nothing n → ⊥) →
    IsNextOf (front sets bytes) sets next after → after ≡ sets
next_keeps sets _ bytes _ adds k = k.1 ∙ front_keeps sets bytes _ adds refl k.0

-- lexers with equal code sets and equal bytes of an incomplete code
pub same_lexer : {old new : LexerState} → new.sets ≡ old.sets → new.half ≡ old.half → new ≡ old
same_lexer sets half = ap₂ (λ s h. let state : LexerState = record { sets = s; half = h } in state) sets half

-- A code at the beginning was consumed, or nothing was.
pub next_is : (old new : LexerState) (bytes : List ℕ) (next : NextCode) → old.half ≡ [] → new.half ≡ [] → IsNextOf (front old.sets bytes) old.sets next new.sets → IsNext old bytes next new
next_is old new bytes NextCode.Other rests rested k =
    same_lexer (next_keeps old.sets new.sets bytes _ (λ n is. cc) k) (rested ∙ sym rests)
next_is _ _ _ _ rests rested k = (rests, rested, k)

-- The rest of a code after ESC was consumed.
pub rest_is : (old new : LexerState) (bytes : List ℕ) (next : NextCode) → old.half ≡ 0x1B ∷ [] → new.half ≡ [] → (next ≡ NextCode.Other → ⊥) →
    IsNextOf (front old.sets (0x1B ∷ bytes)) old.sets next new.sets → IsNextAfterEscape old bytes next new
rest_is _ _ _ NextCode.Other _ _ found k = absurd (found refl)
rest_is _ _ _ _ is rested _ k = (is, rested, k)

-- the front of a code that begins with ESC
pub front_of_escape : (sets after : CodeSets) (bytes : List ℕ) (next : NextCode) → IsNextOf (one_byte_later (escape_front sets bytes)) sets next after →
    IsNextOf (front sets (0x1B ∷ bytes)) sets next after
unfolding front control0_front more_front row_of control0_rows
front_of_escape _ _ _ _ k = k

-- Which bytes are complete codes of an opcode.

-- a byte that is an opcode is at the front as that opcode
pub opcode_alone : (lexer : LexerState) (byte : ℕ) (op : Opcode) → IsOpcode lexer byte op → front lexer.sets (byte ∷ []) ≡ complete (Code.Op op) 1 lexer.sets
unfolding pdi_front opcode_front
opcode_alone lexer byte op is =
    pdi_begins lexer.sets byte (opcode_range is.2) is.1
    ∙ ap (pdi_front lexer.sets byte) is.2
    ∙ ap (opcode_front lexer.sets op) is.3

-- no byte below 20 or from 40 on is an opcode
pub none_below : (lexer : LexerState) (byte : ℕ) (op : Opcode) → byte < 0x20 → (None ≡ Some op) ↔ IsOpcode lexer byte op
none_below _ byte op less = (λ e. cc, λ k. let range = opcode_range k.2 in absurd (omega (arith, range.0)))

pub none_above : (lexer : LexerState) (byte : ℕ) (op : Opcode) → 0x40 ≤ byte → (None ≡ Some op) ↔ IsOpcode lexer byte op
none_above _ byte _ more = (λ e. cc, λ k. let none = no_opcode byte more in cc)

-- Worked rows of the definitions.

-- Worked rows: the fronts of lists.
fronts :
    (front start_sets [] ≡ unfinished)
    × (front start_sets (0x1B ∷ []) ≡ unfinished)
    × (front start_sets (0x1D ∷ []) ≡ unfinished)
    × (front start_sets (0x1C ∷ 0x40 ∷ []) ≡ unfinished)
    × (front start_sets (0x41 ∷ []) ≡ complete (Code.Char CharSet.Primary 0x41) 1 start_sets)
    × (front start_sets (0x80 ∷ []) ≡ refused CodeFault.EighthBit 0)
    × (front start_sets (0x18 ∷ []) ≡ refused (CodeFault.LeftOut Left.Can) 0)
    × (front start_sets (0x1B ∷ 0x42 ∷ []) ≡ refused (CodeFault.LeftOut Left.Deft) 1)
    × (front start_sets (0x1B ∷ 0x30 ∷ []) ≡ refused CodeFault.BadEscape 1)
    × (front start_sets (0x1B ∷ 0x2B ∷ 0x20 ∷ 0x20 ∷ 0x7A ∷ []) ≡ refused CodeFault.BadEscape 3)
    × (front start_sets (0x19 ∷ 0x0E ∷ []) ≡ refused CodeFault.ShiftAlone 1)
    × (front start_sets (0x1C ∷ 0x40 ∷ 0x05 ∷ []) ≡ refused CodeFault.BadArgument 2)
unfolding front row_of control0_rows control0_front non_pdi_code gl_front more_front escape_front control1_rows control1_front sequence_front argument_front designation_front final_front designation number_rows set_rows designated_front position_front column_front last_byte single_shift_front bad_byte one_byte_later after_control0
fronts = (refl, refl, refl, refl, refl, refl, refl, refl, refl, refl, refl, refl)

-- Worked rows: the codes of a list. A code of the PDI set after a single shift is refused, and so is an opcode that is
-- left out.
lists :
    (lex_result start_sets (0x1B ∷ 0x2A ∷ 0x57 ∷ 0x19 ∷ 0x26 ∷ [])
    ≡ record {
      codes = Code.Designated 2 CodeSet.Pdi ∷ [];
      fault = Some CodeFault.ShiftedCode;
      state = record { sets = record start_sets { g2 = CodeSet.Pdi }; half = 0x19 ∷ [] };
    })
    × (lex_result start_sets (0x0E ∷ 0x39 ∷ [])
    ≡ record {
      codes = Code.Shifted ∷ [];
      fault = Some (CodeFault.LeftOut Left.IncrementalPoint);
      state = record { sets = record start_sets { gl = G1 }; half = [] };
    })
    × (lex_result start_sets (0x19 ∷ 0x41 ∷ 0x41 ∷ 0x1B ∷ [])
    ≡ record {
      codes = Code.Char CharSet.Supplementary 0x41 ∷ Code.Char CharSet.Primary 0x41 ∷ [];
      fault = None;
      state = record { sets = start_sets; half = 0x1B ∷ [] };
    })
unfolding lex_result lex_result_within front row_of control0_rows control0_front non_pdi_code gl_front pdi_front opcode_rows opcode_front left_out_opcode more_front escape_front control1_rows control1_front sequence_front designation_front final_front designation number_rows set_rows designated_front single_shift_front shifted_front one_byte_later after_control0 with_set
lists = (refl, refl, refl)
