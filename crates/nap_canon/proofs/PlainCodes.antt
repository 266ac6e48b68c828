-- Codes of plain streams: the check of them, and the pieces of canonical text that spell them.

use Rattle.nap_canon.proofs.{All, All-append, All-cons, All-head, All-nil, All-tail, AllMayFollow, ArePlain, Bool, CharSet, Code, CodeFault, CodeSet, CodeSets, CodesSeen, DomainFirst, DomainNext, Expected, G0, G1, GSet, InRun, IsAbsolute, IsGraphic, IsNoOpcode, IsOperandByte, IsPlain, IsPlainCode, IsWord, LengthsNext, LexResult, LexerState, List, MayFollowCode, NoRun, None, Opcode, Option, Piece, PlainCheck, ResetNext, Some, Spells, Step, Steps, TextEnd, [], ap, append-nil, append_assoc, arith, char_piece, check_after, check_of_parts, code_is_spelled, complete, control, domain, drop, drop-cons, drop_of_length-le, expected_after, expected_after_any, false, front, front-nothing, get_or, gl_of, group, is_plain_code, joins_open_run, left_out_opcode, length, lengths_word, lex_result, lex_result-code, lex_result-fault, lex_result-front, map, may_end, may_end_at, nat_tests, non_pdi_code, number_rows, on_code, on_fault, on_more, opcode, opcode_rows, piece_bytes, pieces_bytes, pieces_bytes-append, primary, refl, reset_word, row_of, seen_after, set_rows, shift_to_opcodes, shift_to_primary, start_sets, subst, sym, take_all, text_end_after, text_end_after-append, true, unfinished, with_code, with_set, word_byte, ℕ, ⊤, ◌++◌, ◌+◌, ◌-◌, ◌<◌, ◌↔◌, ◌∙◌, ◌∷◌, ◌≡◌, ◌≤◌}
use Rattle.nap_codes.specs.Spelling as spells

-- The codes that the pieces of canonical text spell.

-- the code sets of the start, with this one in GL
abbrev pub sets_with : GSet → CodeSets
sets_with gl = record start_sets { gl = gl }

-- under these code sets, these bytes spell these codes, one after another
pub data AllSpelled : CodeSets → List ℕ → List Code → CodeSets → Type 0 where
  no_code : {sets : CodeSets} → AllSpelled sets [] [] sets
  one_code : {sets after end : CodeSets} {bytes rest : List ℕ} {code : Code} {more : List Code} →
      Spells sets bytes code after → AllSpelled after rest more end → AllSpelled sets (bytes ++ rest) (code ∷ more) end

pub spelled_alone : {sets after : CodeSets} {bytes : List ℕ} {code : Code} → Spells sets bytes code after → AllSpelled sets bytes (code ∷ []) after
spelled_alone {sets} {after} {bytes} {code} by =
    subst (λ (bs : List ℕ). AllSpelled sets bs (code ∷ []) after) (append-nil bytes) (one_code by no_code)

pub spelled_after : {sets between end : CodeSets} {xs ys : List ℕ} {first second : List Code} →
    AllSpelled sets xs first between → AllSpelled between ys second end → AllSpelled sets (xs ++ ys) (first ++ second) end
spelled_after no_code after = after
spelled_after {sets = sets} {end = end} {ys = ys} {second = second} (one_code {bytes = bytes} {rest = rest} {code = code} {more = more} by others) after =
    subst (λ (bs : List ℕ). AllSpelled sets bs (code ∷ more ++ second) end) (sym (append_assoc bytes rest ys)) (one_code by (spelled_after others after))

-- lexing gives the codes that are spelled

pub complete_code : (sets : CodeSets) (bytes : List ℕ) (code : Code) (after : CodeSets) → Spells sets bytes code after → front sets bytes ≡ complete code (length bytes) after
complete_code sets bytes code after by =
    (code_is_spelled sets bytes code (length bytes) after).1 (omega arith, subst (λ (bs : List ℕ). Spells sets bs code after) (sym (take_all (length bytes) bytes (omega arith))) by)

pub lexed_spelled : (sets : CodeSets) (bytes : List ℕ) (list : List Code) (end : CodeSets) → AllSpelled sets bytes list end →
    lex_result sets bytes ≡ record { codes = list; fault = None; state = record { sets = end; half = [] } }
lexed_spelled sets bytes list end no_code = rw (lex_result-front sets [], front-nothing sets [] refl) refl
lexed_spelled sets bytes list end (one_code {after = after} {bytes = xs} {rest = rest} {code = code} {more = more} by others) = grind (arith, lex_result-code, complete_code, (lexed_spelled after rest more end others))

-- Pieces of canonical text spell plain codes.

-- if the first set is in GL, these bytes spell plain codes, and leave the other set there
pub record PlainBytes (gl : GSet) (bytes : List ℕ) (end : GSet) : Type 0 where
  pub list : List Code
  pub by : AllSpelled (sets_with gl) bytes list (sets_with end)
  pub each : All IsPlainCode list
  pub joins : (rest : List Code) → AllMayFollow rest → AllMayFollow (list ++ rest)

abbrev pub PlainlySpelled : TextEnd → List Piece → Type 0
PlainlySpelled t ps = PlainBytes (gl_of t) (pieces_bytes t ps) (gl_of (text_end_after t ps))

no_bytes : (gl : GSet) → PlainBytes gl [] gl
no_bytes gl = record { list = []; by = no_code; each = All-nil IsPlainCode; joins = λ rest h. h }

-- the bytes of one code
code_bytes : (gl end : GSet) (bytes : List ℕ) (c : Code) → Spells (sets_with gl) bytes c (sets_with end) → IsPlainCode c → ((rest : List Code) → MayFollowCode c rest) → PlainBytes gl bytes end
unfolding AllMayFollow
code_bytes gl end bytes c by plain comes = grind (arith, spelled_alone, All-cons, All-nil)

both_bytes : (gl mid end : GSet) (xs ys : List ℕ) → PlainBytes gl xs mid → PlainBytes mid ys end → PlainBytes gl (xs ++ ys) end
both_bytes gl mid end xs ys first second = record {
  list = first.list ++ second.list;
  by = spelled_after first.by second.by;
  each = All-append IsPlainCode first.list second.list first.each second.each;
  joins = λ rest h. subst AllMayFollow (sym (append_assoc first.list second.list rest)) (first.joins (second.list ++ rest) (second.joins rest h));
}

-- a piece alone
piece_plain : (t : TextEnd) (p : Piece) → PlainBytes (gl_of t) (piece_bytes t p) (gl_of (text_end_after t (p ∷ []))) → PlainlySpelled t (p ∷ [])
unfolding pieces_bytes
piece_plain t p plain = subst (λ (bs : List ℕ). PlainBytes (gl_of t) bs (gl_of (text_end_after t (p ∷ [])))) (sym (append-nil (piece_bytes t p))) plain

pub nothing_plain : (t : TextEnd) → PlainlySpelled t []
unfolding pieces_bytes text_end_after
nothing_plain t = no_bytes (gl_of t)

pub codes_after_plain : (t : TextEnd) (ps qs : List Piece) → PlainlySpelled t ps → PlainlySpelled (text_end_after t ps) qs → PlainlySpelled t (ps ++ qs)
codes_after_plain t ps qs first second = grind (arith, pieces_bytes-append, text_end_after-append, both_bytes)

-- shifts

shifts_out : (gl : GSet) → PlainBytes gl (shift_to_opcodes gl) G1
shifts_out G1 = no_bytes G1
shifts_out gl = code_bytes gl G1 (0x0E ∷ []) Code.Shifted spells.shift_out tt (λ rest. tt)

shifts_in : (gl : GSet) → PlainBytes gl (shift_to_primary gl) G0
shifts_in G0 = no_bytes G0
shifts_in gl = code_bytes gl G0 (0x0F ∷ []) Code.Shifted spells.shift_in tt (λ rest. tt)

-- an opcode with its operands

abbrev pub operand_codes : List ℕ → List Code
operand_codes bytes = map (λ b. Code.Operand (b - 64)) bytes

operands_spelled : (bytes : List ℕ) → All IsOperandByte bytes → AllSpelled (sets_with G1) bytes (operand_codes bytes) (sets_with G1)
operands_spelled [] all = no_code
operands_spelled (b ∷ bytes) all =
    let first = All-head IsOperandByte b bytes all in
    one_code (spells.operand refl first.0 first.1) (operands_spelled bytes (All-tail IsOperandByte b bytes all))

operands_each : (bytes : List ℕ) → All IsPlainCode (operand_codes bytes)
operands_each [] = All-nil IsPlainCode
operands_each (b ∷ bytes) = All-cons IsPlainCode (Code.Operand (b - 64)) (operand_codes bytes) tt (operands_each bytes)

operands_join : (bytes : List ℕ) (rest : List Code) → AllMayFollow rest → AllMayFollow (operand_codes bytes ++ rest)
unfolding AllMayFollow
operands_join [] rest h = h
operands_join (b ∷ bytes) rest h = (tt, operands_join bytes rest h)

operands_plain : (bytes : List ℕ) → All IsOperandByte bytes → PlainBytes G1 bytes G1
operands_plain bytes all = record { list = operand_codes bytes; by = operands_spelled bytes all; each = operands_each bytes; joins = operands_join bytes }

-- the byte is that of an opcode that a plain stream may have
abbrev pub IsOpcode : ℕ → Opcode → Type 0
IsOpcode byte op = (row_of opcode_rows byte ≡ Some op) × (left_out_opcode op ≡ None) × IsAbsolute op × (byte < 64)

run_plain : (byte : ℕ) (op : Opcode) (bytes : List ℕ) → IsOpcode byte op → All IsOperandByte bytes → ((rest : List Code) → MayFollowCode (Code.Op op) (operand_codes bytes ++ rest)) →
    PlainBytes G1 (byte ∷ bytes) G1
unfolding AllMayFollow
run_plain byte op bytes is all comes = record {
  list = Code.Op op ∷ operand_codes bytes;
  by = one_code (spells.opcode refl is.0 is.1) (operands_spelled bytes all);
  each = All-cons IsPlainCode (Code.Op op) (operand_codes bytes) is.2 (operands_each bytes);
  joins = λ rest h. (comes rest, operands_join bytes rest h);
}

pub opcode_plain : (t : TextEnd) (byte : ℕ) (op : Opcode) (bytes : List ℕ) → IsOpcode byte op → All IsOperandByte bytes →
    ((rest : List Code) → MayFollowCode (Code.Op op) (operand_codes bytes ++ rest)) → PlainlySpelled t (opcode byte bytes ∷ [])
unfolding text_end_after
opcode_plain t byte op bytes is all comes =
    piece_plain t (opcode byte bytes) (both_bytes (gl_of t) G1 G1 (shift_to_opcodes (gl_of t)) (byte ∷ bytes) (shifts_out (gl_of t)) (run_plain byte op bytes is all comes))

-- a group of operands: after its opcode, or in a run
pub group_plain : (t : TextEnd) (byte : ℕ) (op : Opcode) (bytes : List ℕ) → IsOpcode byte op → All IsOperandByte bytes →
    ((rest : List Code) → MayFollowCode (Code.Op op) (operand_codes bytes ++ rest)) → PlainlySpelled t (group byte bytes ∷ [])
unfolding pieces_bytes text_end_after
group_plain (NoRun gl) byte op bytes is all comes = opcode_plain (NoRun gl) byte op bytes is all comes
group_plain (InRun run) byte op bytes is all comes = at (joins_open_run (InRun run) byte (length bytes)) refl
  where
    at : (joined : Bool) → joins_open_run (InRun run) byte (length bytes) ≡ joined → PlainlySpelled (InRun run) (group byte bytes ∷ [])
    at true e = piece_plain (InRun run) (group byte bytes) (rw e (operands_plain bytes all))
    at false e = piece_plain (InRun run) (group byte bytes) (rw e (run_plain byte op bytes is all comes))

-- RESET, with DOMAIN after it
pub reset_plain : (t : TextEnd) (first second : ℕ) → IsWord first → IsWord second → PlainlySpelled t (opcode 0x20 (word_byte first ∷ word_byte second ∷ []) ∷ domain [] ∷ [])
unfolding pieces_bytes text_end_after row_of opcode_rows left_out_opcode DomainNext AllMayFollow
reset_plain t first second one two =
    let bytes : List ℕ = 0x20 ∷ word_byte first ∷ word_byte second ∷ 0x21 ∷ 0x5F ∷ [] in
    let words : List Code = Code.Operand (word_byte first - 64) ∷ Code.Operand (word_byte second - 64) ∷ [] in
    let again : List Code = Code.Op Opcode.Domain ∷ Code.Operand 31 ∷ [] in
    let all : PlainBytes G1 bytes G1 = record {
      list = Code.Op Opcode.Reset ∷ words ++ again;
      by = one_code (spells.opcode refl refl refl)
          (one_code (spells.operand refl (omega arith) (omega (arith, one)))
          (one_code (spells.operand refl (omega arith) (omega (arith, two)))
          (one_code (spells.opcode refl refl refl) (one_code (spells.operand refl (omega arith) (omega arith)) no_code))));
      each = All-cons IsPlainCode (Code.Op Opcode.Reset) (words ++ again) tt
          (All-append IsPlainCode words again (operands_each (word_byte first ∷ word_byte second ∷ []))
          (All-cons IsPlainCode (Code.Op Opcode.Domain) (Code.Operand 31 ∷ []) tt (operands_each (0x5F ∷ []))));
      joins = λ rest h. (λ odd. tt, (tt, (tt, (refl, (tt, h)))));
    } in
    subst (λ (bs : List ℕ). PlainBytes (gl_of t) bs G1) (sym (append_assoc (shift_to_opcodes (gl_of t)) (0x20 ∷ word_byte first ∷ word_byte second ∷ []) (0x21 ∷ 0x5F ∷ [])))
    (both_bytes (gl_of t) G1 G1 (shift_to_opcodes (gl_of t)) bytes (shifts_out (gl_of t)) all)

-- controls, and characters

pub control_plain : (t : TextEnd) (bytes : List ℕ) (c : Code) → Spells (sets_with (gl_of t)) bytes c (sets_with (gl_of t)) → IsPlainCode c → ((rest : List Code) → MayFollowCode c rest) →
    PlainlySpelled t (control bytes ∷ [])
unfolding text_end_after
control_plain t bytes c by plain comes = piece_plain t (control bytes) (code_bytes (gl_of t) (gl_of t) bytes c by plain comes)

pub primary_plain : (t : TextEnd) (code : ℕ) → IsGraphic code → PlainlySpelled t (primary code ∷ [])
unfolding text_end_after non_pdi_code
primary_plain t code graphic =
    piece_plain t (primary code) (both_bytes (gl_of t) G0 G0 (shift_to_primary (gl_of t)) (code ∷ []) (shifts_in (gl_of t))
    (code_bytes G0 G0 (code ∷ []) (Code.Char CharSet.Primary code) (spells.in_gl graphic refl) tt (λ rest. tt)))

-- a character of the DRCS, which is in G3 only for that time
pub drcs_plain : (t : TextEnd) (code : ℕ) → IsGraphic code → PlainlySpelled t (char_piece CharSet.Drcs code ∷ [])
unfolding text_end_after AllMayFollow non_pdi_code with_set row_of number_rows set_rows
drcs_plain t code graphic =
    let first : Code = Code.Designated 3 CodeSet.Drcs in
    let last : Code = Code.Designated 3 CodeSet.Mosaic in
    piece_plain t (char_piece CharSet.Drcs code) (record {
      list = first ∷ Code.Char CharSet.Drcs code ∷ last ∷ [];
      by = one_code (spells.designation refl refl) (one_code (spells.single_shift3 graphic refl) (one_code (spells.designation refl refl) no_code));
      each = All-cons IsPlainCode first (Code.Char CharSet.Drcs code ∷ last ∷ []) tt
          (All-cons IsPlainCode (Code.Char CharSet.Drcs code) (last ∷ []) tt (All-cons IsPlainCode last [] tt (All-nil IsPlainCode)));
      joins = λ rest h. (tt, (tt, (tt, h)));
    })

-- The rules of plain streams that a check still has for the codes to come.

-- the rule of the first opcode
abbrev AsksFirst : CodesSeen → List Code → Type 0
AsksFirst CodesSeen.Nothing rest = DomainFirst rest
AsksFirst CodesSeen.Definition rest = All IsNoOpcode rest
AsksFirst CodesSeen.Drawing rest = ⊤

-- the rule of the next code
abbrev AsksNext : Expected → List Code → Type 0
AsksNext Expected.Any rest = ⊤
AsksNext Expected.Lengths rest = LengthsNext rest
AsksNext Expected.ResetWord rest = ResetNext rest
AsksNext Expected.Domain rest = DomainNext rest

abbrev AsksFollowing : Expected → List Code → Type 0
AsksFollowing n rest = AsksNext n rest × AllMayFollow rest

pub record Asks (check : PlainCheck) (rest : List Code) : Type 0 where
  pub each : All IsPlainCode rest
  pub first : AsksFirst check.begun rest
  pub next : AsksNext check.next rest
  pub follow : AllMayFollow rest

-- The rule for a code and those after it holds exactly if the rule for those after it does from here on; or it can't
-- hold.
abbrev pub Turns : {S : Type 0} → (S → List Code → Type 0) → S → Code → Option S → Type 0
Turns asks old code (Some new) = (rest : List Code) → asks old (code ∷ rest) ↔ asks new rest
Turns asks old code None = (rest : List Code) → asks old (code ∷ rest) → ⊥

-- each code by itself

abbrev IsDecided : Code → Bool → Type 0
IsDecided code true = IsPlainCode code
IsDecided code false = IsPlainCode code → ⊥

plain_decided : (code : Code) → IsDecided code (is_plain_code code)
plain_decided code = grind arith

-- the first opcode

first_turns : (b : CodesSeen) (code : Code) → Turns AsksFirst b code (seen_after b code)
unfolding DomainFirst
first_turns CodesSeen.Nothing (Code.Op Opcode.Domain) = λ rest. (λ h. tt, λ h. refl)
first_turns CodesSeen.Nothing (Code.Op _) = λ rest is. cc
first_turns CodesSeen.Nothing (Code.DefGlyph byte) = λ rest. (λ h. h, λ h. h)
first_turns CodesSeen.Nothing (Code.DefMask mask) = λ rest. (λ h. h, λ h. h)
first_turns CodesSeen.Nothing _ = λ rest. (λ h. h, λ h. h)
first_turns CodesSeen.Definition (Code.Op op) = λ rest h. All-head IsNoOpcode (Code.Op op) rest h
first_turns CodesSeen.Definition code = λ rest. (λ h. All-tail IsNoOpcode code rest h, λ h. All-cons IsNoOpcode code rest tt h)
first_turns CodesSeen.Drawing code = λ rest. (λ h. tt, λ h. tt)

-- the next code

comes : (code : Code) (rest : List Code) → MayFollowCode code rest ↔ AsksNext (expected_after_any code) rest
comes code rest = grind arith

any_turns : (code : Code) (rest : List Code) → AllMayFollow (code ∷ rest) ↔ AsksFollowing (expected_after_any code) rest
unfolding AllMayFollow
any_turns code rest = (λ h. ((comes code rest).0 h.0, h.1), λ h. ((comes code rest).1 h.0, h.1))

lengths_turn : (word : ℕ) → Turns AsksFollowing Expected.Lengths (Code.Operand word) (lengths_word word)
unfolding AllMayFollow
lengths_turn word = grind (arith, nat_tests)

reset_turns : (word : ℕ) → Turns AsksFollowing Expected.ResetWord (Code.Operand word) (Some (reset_word word))
unfolding AllMayFollow
reset_turns word = grind (arith, nat_tests)

next_turns : (n : Expected) (code : Code) → Turns AsksFollowing n code (expected_after n code)
unfolding AllMayFollow DomainNext
next_turns n code = grind (arith, any_turns, lengths_turn, reset_turns)

-- all rules together

joined : (check : PlainCheck) (code : Code) (plain : Bool) (b : Option CodesSeen) (n : Option Expected) → IsDecided code plain → Turns AsksFirst check.begun code b →
    Turns AsksFollowing check.next code n → Turns Asks check code (check_of_parts plain b n)
joined check code true (Some b) (Some n) decided first follow = λ rest. (
  λ asks. record {
    each = All-tail IsPlainCode code rest asks.each;
    first = (first rest).0 asks.first;
    next = ((follow rest).0 (asks.next, asks.follow)).0;
    follow = ((follow rest).0 (asks.next, asks.follow)).1;
  },
  λ asks. record {
    each = All-cons IsPlainCode code rest decided asks.each;
    first = (first rest).1 asks.first;
    next = ((follow rest).1 (asks.next, asks.follow)).0;
    follow = ((follow rest).1 (asks.next, asks.follow)).1;
  },
)
joined check code true (Some b) None decided first follow = λ rest asks. follow rest (asks.next, asks.follow)
joined check code true None (Some n) decided first follow = λ rest asks. first rest asks.first
joined check code true None None decided first follow = λ rest asks. first rest asks.first
joined check code false b n decided first follow = λ rest asks. decided (All-head IsPlainCode code rest asks.each)

pub check_turns : (check : PlainCheck) (code : Code) → Turns Asks check code (check_after check code)
check_turns check code = grind (arith, joined, plain_decided, first_turns, next_turns)

-- at the start

abbrev pub start_check : PlainCheck
start_check = record { begun = CodesSeen.Nothing; next = Expected.Any }

pub all_asked : (list : List Code) → ArePlain list ↔ Asks start_check list
all_asked list = grind arith

-- at the end

first_met : (b : CodesSeen) → AsksFirst b []
unfolding DomainFirst
first_met b = grind (arith, All-nil)

abbrev IsMet : Expected → Bool → Type 0
IsMet n true = AsksNext n []
IsMet n false = AsksNext n [] → ⊥

next_met : (n : Expected) → IsMet n (may_end_at n)
unfolding DomainNext
next_met n = grind arith

end_met : (check : PlainCheck) (met : Bool) → IsMet check.next met → (met ≡ true) ↔ Asks check []
unfolding AllMayFollow
end_met check met h = grind (arith, All-nil, first_met)

pub nothing_asked : (check : PlainCheck) → (may_end check ≡ true) ↔ Asks check []
nothing_asked check = end_met check (may_end check) (next_met check.next)

-- A stream that is lexed byte after byte, while its codes are checked.

-- the incomplete code that was read is unfinished
abbrev pub IsHalf : LexerState → Type 0
IsHalf state = front state.sets state.half ≡ unfinished

-- codes before what is read later
abbrev with_codes : List Code → LexResult → LexResult
with_codes list rest = record rest { codes = list ++ rest.codes }

-- how far a stream is checked: its codes so far are those that the check has seen
pub record Checked (bytes : List ℕ) (i : ℕ) (lexer : LexerState) (check : PlainCheck) : Type 0 where
  pub codes : List Code
  pub goes : lex_result start_sets bytes ≡ with_codes codes (lex_result lexer.sets (lexer.half ++ drop i bytes))
  pub asks : (rest : List Code) → ArePlain (codes ++ rest) ↔ Asks check rest
  pub half : IsHalf lexer

pub checked_start : (bytes : List ℕ) → Checked bytes 0 (record { sets = start_sets; half = [] }) start_check
checked_start bytes = record { codes = []; goes = refl; asks = all_asked; half = front-nothing start_sets [] refl }

module _ (bytes : List ℕ) (i : ℕ) (lexer next : LexerState) (check : PlainCheck) (checked : Checked bytes i lexer check) (within : i < length bytes) where
  abbrev byte : ℕ
  byte = get_or bytes i 0

  abbrev read : List ℕ
  read = lexer.half ++ byte ∷ []

  abbrev rest : List ℕ
  rest = drop (i + 1) bytes

  -- what is read is the incomplete code, the next byte, and the rest
  goes_on : lex_result start_sets bytes ≡ with_codes checked.codes (lex_result lexer.sets (lexer.half ++ byte ∷ rest))
  goes_on = grind (arith, drop-cons)

  pub checked_more : Steps lexer byte Step.More next → IsHalf next → Checked bytes (i + 1) next check
  checked_more step half = grind (arith, goes_on, append_assoc, on_more)

  -- the next byte completes this code
  module _ (code : Code) (step : Steps lexer byte (Step.Code code) next) where
    goes_code : lex_result start_sets bytes ≡ with_codes checked.codes (with_code code (lex_result next.sets rest))
    goes_code =
        goes_on
        ∙ ap (λ (bs : List ℕ). with_codes checked.codes (lex_result lexer.sets bs)) (sym (append_assoc lexer.half (byte ∷ []) rest))
        ∙ ap (with_codes checked.codes) (lex_result-code lexer.sets read rest code next.sets (on_code lexer next byte (front lexer.sets read) code step).0)

    pub checked_code : (after : PlainCheck) → IsHalf next → check_after check code ≡ Some after → Checked bytes (i + 1) next after
    checked_code after half turned =
        let turns : Turns Asks check code (Some after) = subst (Turns Asks check code) turned (check_turns check code) in
        let follow : (more : List Code) → (checked.codes ++ code ∷ []) ++ more ≡ checked.codes ++ code ∷ more = λ more. append_assoc checked.codes (code ∷ []) more in
        let later : LexResult = lex_result next.sets rest in
        record {
          codes = checked.codes ++ code ∷ [];
          goes = goes_code
              ∙ ap (λ (list : List Code). record later { codes = list }) (sym (follow later.codes))
              ∙ ap (λ (bs : List ℕ). with_codes (checked.codes ++ code ∷ []) (lex_result next.sets (bs ++ rest))) (sym (on_code lexer next byte (front lexer.sets read) code step).1);
          asks = λ rest. (
            λ plain. (turns rest).0 ((checked.asks (code ∷ rest)).0 (subst ArePlain (follow rest) plain)),
            λ asked. subst ArePlain (sym (follow rest)) ((checked.asks (code ∷ rest)).1 ((turns rest).1 asked)),
          );
          half = half;
        }

    pub refused_code : check_after check code ≡ None → IsPlain bytes → ⊥
    refused_code turned plain = grind (arith, check_turns, goes_code)

  pub refused_byte : (fault : CodeFault) → Steps lexer byte (Step.Fault fault) next → IsPlain bytes → ⊥
  refused_byte fault step plain =
      let there = lex_result-fault lexer.sets lexer.half byte rest fault (on_fault lexer next byte (front lexer.sets read) fault step).0 in
      let bad : ◌≡◌ {A = Option CodeFault} (Some fault) None = ap (λ (l : LexResult). l.fault) (sym (goes_on ∙ ap (with_codes checked.codes) there)) ∙ plain.unrefused in
      cc

pub checked_end : (bytes : List ℕ) (i : ℕ) (lexer : LexerState) (check : PlainCheck) → Checked bytes i lexer check → length bytes ≤ i →
    ((lexer.half ≡ []) × (may_end check ≡ true)) ↔ IsPlain bytes
checked_end bytes i lexer check checked all = grind (arith, append-nil, lex_result-front, drop_of_length-le, nothing_asked)
