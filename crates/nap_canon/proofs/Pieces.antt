-- What a reader does with the pieces of canonical text, and with their bytes.

use Rattle.nap_canon.proofs.{All, CharSet, Code, CodeSet, CodeSets, DrawFault, Entry, G0, G1, GSet, IsAlone, IsGraphic, IsOperandByte, IsPlainCode, IsRun, IsWord, List, Machine, MayFollowCode, NoRun, None, Ok, Opcode, Operands.AreOperands, Operands.no_bytes, Operands.no_moves, Operands.word_bytes, Option, Outcome, Piece, Placed, Result, RuleResult, Some, Spells, TextEnd, Unfinished, Work, [], after_drawing, ap, append-nil, append_assoc, arith, between, bytes_of, carried_words, char_piece, code_acts, code_is_spelled, code_rule, complete, control, domain, drawn_front, ended, false, front, front-nothing, front_after_front, gl_of, group, in_gl, is_operand, is_operand_byte, joins_open_run, left_out_opcode, length, length-append, length-map, means, nat_tests, non_pdi_code, nothing, number_rows, opcode, opcode_rows, open_run, outcome_by_front, outcome_from, paused, piece_bytes, pieces_bytes, pieces_bytes-append, placed_from, prepend, primary, refl, row_of, rule, rule_result, run_acts, run_limit, run_waits, set_rows, shift_in, shift_out, single_shift3, start_machine, stream_front, subst, suc, sym, text_end_after, text_end_after-append, text_lengths, walk, with_drawn, with_run, with_run_by, with_set, word_byte, words_of, ℕ, ⊤, ◌++◌, ◌+◌, ◌<◌, ◌∙◌, ◌∷◌, ◌≡◌, ◌≤◌}
use Rattle.nap_canon.proofs.PlainCodes.{IsOpcode, PlainlySpelled, codes_after_plain, complete_code, control_plain, drcs_plain, nothing_plain, opcode_plain, operand_codes, primary_plain, reset_plain, sets_with}
use Rattle.nap_codes.specs.Spelling.{designation}
use Rattle.nap_values.specs.Spellings as spellings
use Rattle.nap_reader.specs.Course as course
use Rattle.nap_codes.specs.Spelling as spells

-- Bytes with their places.

pub words_of-placed : (n : ℕ) (bytes : List ℕ) → carried_words (placed_from n bytes) ≡ spellings.words_of bytes
unfolding placed_from
words_of-placed n [] = refl
words_of-placed n (b ∷ bytes) = rw (words_of-placed (suc n) bytes) refl

pub bytes_of-placed : (n : ℕ) (bytes : List ℕ) → bytes_of (placed_from n bytes) ≡ bytes
unfolding placed_from
bytes_of-placed n [] = refl
bytes_of-placed n (b ∷ bytes) = ap (λ (bs : List ℕ). b ∷ bs) (bytes_of-placed (suc n) bytes)

pub length-placed : (n : ℕ) (bytes : List ℕ) → length (placed_from n bytes) ≡ length bytes
length-placed n bytes = sym (length-map (placed_from n bytes) (λ (x : Placed). x.byte)) ∙ ap length (bytes_of-placed n bytes)

pub placed_from-append : (n : ℕ) (xs ys : List ℕ) → placed_from n (xs ++ ys) ≡ placed_from n xs ++ placed_from (n + length xs) ys
unfolding placed_from
placed_from-append n [] ys = ap (λ (k : ℕ). placed_from k ys) (omega arith)
placed_from-append n (x ∷ xs) ys =
    let places : suc n + length xs ≡ n + suc (length xs) = omega arith in
    ap (λ (zs : List Placed). record { byte = x; place = n } ∷ zs)
    (placed_from-append (suc n) xs ys ∙ ap (λ (k : ℕ). placed_from (suc n) xs ++ placed_from k ys) places)

-- an byte and the bytes of its operands are a run
pub spelled_run : (n : ℕ) (byte : ℕ) (operands : List ℕ) (op : Opcode) (m : Machine) → m.mode ≡ between →
    front m.sets (byte ∷ []) ≡ complete (Code.Op op) 1 m.sets → All IsOperandByte operands → length operands ≤ run_limit →
    IsRun m op (record { byte = byte; place = n }) (placed_from (suc n) operands)
spelled_run n byte operands op m mode names all few = grind (arith, bytes_of-placed, length-placed)

-- The machine in canonical text.

-- the machine between two codes, with no macro bound and nothing charged
abbrev pub machine_between : ℕ → CodeSets → Work → Machine
machine_between budget sets work = record (start_machine budget) { work = work; sets = sets }

-- Clearing macros changes nothing if none is bound.
pub between_after : (budget : ℕ) (sets : CodeSets) (work : Work) (d : RuleResult) → after_drawing (machine_between budget sets work) d ≡ machine_between budget sets d.work
between_after budget sets work d = grind arith

-- The outcome of a list once an open run at its end has acted.

abbrev pub settled : List Entry → Machine → Outcome
settled es m = record { entries = es; refusal = None; unfinished = Some nothing; machine = m; rest = [] }

-- the machine reads these bytes as these entries, and is this machine after them
pub record Reads (m : Machine) (xs : List Placed) (es : List Entry) (after : Machine) : Type 0 where
  pub going : (outcome_from m xs).refusal ≡ None
  pub acts : with_run (outcome_from m xs) ≡ settled es after

-- an open run acts after whatever came before it

with_drawn-prepend : (es : List Entry) (o : Outcome) (place : ℕ) (by : Result RuleResult DrawFault) →
    with_drawn (prepend es o) place by ≡ prepend es (with_drawn o place by)
with_drawn-prepend es o place by = grind (arith, append_assoc)

with_run_by-prepend : (es : List Entry) (o : Outcome) (u : Option Unfinished) → with_run_by (prepend es o) u ≡ prepend es (with_run_by o u)
with_run_by-prepend es o u = grind (arith, with_drawn-prepend)

with_run-prepend : (es : List Entry) (o : Outcome) → with_run (prepend es o) ≡ prepend es (with_run o)
with_run-prepend es o = with_run_by-prepend es o o.unfinished

-- no bytes

nothing_read : (budget : ℕ) (sets : CodeSets) (work : Work) → outcome_from (machine_between budget sets work) [] ≡ settled [] (machine_between budget sets work)
unfolding stream_front
nothing_read budget sets work = grind (arith, nothing, front-nothing, front_after_front)

pub reads_nothing : (budget : ℕ) (sets : CodeSets) (work : Work) → Reads (machine_between budget sets work) [] [] (machine_between budget sets work)
reads_nothing budget sets work = grind (arith, nothing_read)

-- a code that acts
pub reads_act : (m : Machine) (xs : List Placed) (ds : List Entry) (next : Machine) (ys : List Placed) (es : List Entry) (after : Machine) →
    stream_front m xs ≡ course.act ds next ys → Reads next ys es after → Reads m xs (ds ++ es) after
reads_act m xs ds next ys es after e rest = grind (arith, front_after_front, with_run-prepend)

-- an opcode whose run reaches the end

reads_last : (m : Machine) (x : Placed) (operands : List Placed) (op : Opcode) (drawn : RuleResult) → IsRun m op x operands →
    rule m.work op (carried_words operands) ≡ Ok drawn → Reads m (x ∷ operands) drawn.entries (after_drawing m drawn)
reads_last m x operands op drawn run by =
    let waiting : Outcome = paused m (x ∷ operands) (Some (open_run op x.place (carried_words operands))) in
    let is : outcome_from m (x ∷ operands) ≡ waiting =
    front_after_front m (x ∷ operands) ∙ ap (outcome_by_front outcome_from m (x ∷ operands)) (run_waits m op x operands run) in
    record {
      going = ap (λ (o : Outcome). o.refusal) is;
      acts = ap with_run is ∙ ap (with_drawn waiting x.place) by;
    }

-- an operand byte doesn't come first
abbrev pub BeginsAnew : List Placed → Type 0
BeginsAnew [] = ⊤
BeginsAnew (x ∷ xs) = is_operand x ≡ false

-- an opcode with its run, and what comes after it
module _ (budget : ℕ) (sets : CodeSets) (work : Work) (x : Placed) (operands : List Placed) (op : Opcode) (drawn : RuleResult) where
  abbrev here : Machine
  here = machine_between budget sets work

  abbrev onward : Machine
  onward = machine_between budget sets drawn.work

  drawn_last : IsRun here op x operands → rule work op (carried_words operands) ≡ Ok drawn → Reads here (x ∷ operands) drawn.entries onward
  drawn_last run by = subst (Reads here (x ∷ operands) drawn.entries) (between_after budget sets work drawn) (reads_last here x operands op drawn run by)

  pub reads_run : (xs : List Placed) (es : List Entry) (after : Machine) → IsRun here op x operands → rule work op (carried_words operands) ≡ Ok drawn →
      BeginsAnew xs → Reads onward xs es after → Reads here ((x ∷ operands) ++ xs) (drawn.entries ++ es) after
  reads_run [] es after run by anew more_reads = grind (arith, reads_nothing, append-nil, drawn_last)
  reads_run (y ∷ ys) es after run by anew more_reads =
      reads_act here ((x ∷ operands) ++ y ∷ ys) drawn.entries (after_drawing here drawn) (y ∷ ys) es after
      (run_acts here op x operands y ys run anew ∙ ap (drawn_front here x.place (y ∷ ys)) by)
      (subst (λ (n : Machine). Reads n (y ∷ ys) es after) (sym (between_after budget sets work drawn)) more_reads)

-- the end of a stream
ends_settled : (n : ℕ) (o : Outcome) (es : List Entry) (m : Machine) → o.refusal ≡ None → with_run o ≡ settled es m →
    m.work.state.definition ≡ None → ended n o ≡ settled es m
ends_settled n o es m going acts closed = grind arith

pub means_settled : (budget : ℕ) (p : List ℕ) (es : List Entry) (m : Machine) → Reads (start_machine budget) (placed_from 0 p) es m →
    m.work.state.definition ≡ None → means budget p ≡ settled es m
means_settled budget p es m h closed = grind (arith, ends_settled, length)

-- What a reader does with the bytes of a code that isn't an opcode.

-- a code, and what comes after it
pub code_reads : (budget : ℕ) (sets : CodeSets) (work : Work) (n : ℕ) (before : List ℕ) (last : ℕ) (c : Code) (after : CodeSets) (d : RuleResult) (xs : List Placed) (more : List Entry) (end : Machine) →
    IsAlone c → Spells sets (before ++ last ∷ []) c after → code_rule work c ≡ Ok d →
    Reads (machine_between budget after d.work) xs more end → Reads (machine_between budget sets work) (placed_from n (before ++ last ∷ []) ++ xs) (d.entries ++ more) end
unfolding placed_from
code_reads budget sets work n before last c after d xs more end alone spells by more_reads =
    let m : Machine = machine_between budget sets work in
    let next : Machine = machine_between budget after work in
    let bytes : List ℕ = before ++ last ∷ [] in
    let first : List Placed = placed_from n before in
    let x : Placed = record { byte = last; place = n + length before } in
    let parts : placed_from n (before ++ last ∷ []) ++ xs ≡ first ++ x ∷ xs =
    ap (λ (ys : List Placed). ys ++ xs) (placed_from-append n before (last ∷ [])) ∙ append_assoc first (x ∷ []) xs in
    let names : front sets (bytes_of first ++ last ∷ []) ≡ complete c (length first + 1) after =
    rw (bytes_of-placed n before, length-placed n before) (subst (λ (k : ℕ). front sets bytes ≡ complete c k after) (length-append before (last ∷ [])) (complete_code sets bytes c after spells)) in
    reads_act m (placed_from n (before ++ last ∷ []) ++ xs) d.entries (after_drawing next d) xs more end
    (ap (stream_front m) parts
    ∙ code_acts m c first x after xs (record { mode = refl; alone = alone; names = names })
    ∙ ap (drawn_front next x.place xs) by)
    (subst (λ (k : Machine). Reads k xs more end) (sym (between_after budget after work d)) more_reads)

-- What a reader does with pieces of canonical text.

-- the machine with this set in GL, and this work
abbrev pub at : ℕ → GSet → Work → Machine
at budget gl work = machine_between budget (sets_with gl) work

-- the set in GL after pieces that follow no run, with this set in GL before
abbrev pub gl_after : GSet → List Piece → GSet
gl_after gl ps = gl_of (text_end_after (NoRun gl) ps)

-- Pieces that follow no run are read as these entries, and leave this work. If G1 is in GL after them, no operand byte
-- may come next.
abbrev pub Acts : ℕ → GSet → Work → List Piece → List Entry → Work → Type 0
Acts budget gl work ps es left = (n : ℕ) (xs : List Placed) (more : List Entry) (end : Machine) →
    (gl_after gl ps ≡ G1 → BeginsAnew xs) → Reads (at budget (gl_after gl ps) left) xs more end →
    Reads (at budget gl work) (placed_from n (pieces_bytes (NoRun gl) ps) ++ xs) (es ++ more) end

-- after this end of the text the pieces join no run, and their bytes don't begin with an operand byte if G1 is in GL
abbrev pub Begins : TextEnd → List Piece → Type 0
Begins t [] = ⊤
Begins t (opcode byte operands ∷ ps) = byte < 64
Begins t (group byte operands ∷ ps) = (joins_open_run t byte (length operands) ≡ false) × (byte < 64)
Begins t (primary code ∷ ps) = ⊤
Begins t (control [] ∷ ps) = ⊥
Begins t (control (byte ∷ bytes) ∷ ps) = byte < 32

no_operand : (byte : ℕ) → byte < 64 → is_operand_byte byte ≡ false
no_operand byte below = grind (arith, nat_tests)

begins_anew : (n : ℕ) (t : TextEnd) (ps : List Piece) (xs : List Placed) → Begins t ps → (gl_after G1 ps ≡ G1 → BeginsAnew xs) →
    BeginsAnew (placed_from n (pieces_bytes (NoRun G1) ps) ++ xs)
unfolding pieces_bytes text_end_after placed_from
begins_anew n t ps xs h h2 = grind (arith, no_operand)

-- Pieces that join no run are written as they are after none.

pub written_apart : (t : TextEnd) (ps : List Piece) → Begins t ps → pieces_bytes t ps ≡ pieces_bytes (NoRun (gl_of t)) ps
unfolding pieces_bytes
written_apart t ps h = grind arith

pub gl_apart : (t : TextEnd) (ps : List Piece) → Begins t ps → gl_of (text_end_after t ps) ≡ gl_after (gl_of t) ps
unfolding text_end_after
gl_apart t ps h = grind arith

-- no pieces
pub acts_nothing : (budget : ℕ) (gl : GSet) (work : Work) → Acts budget gl work [] [] work
unfolding pieces_bytes text_end_after placed_from
acts_nothing budget gl work n xs more end anew more_reads = more_reads

-- pieces after others
pub acts_after : (budget : ℕ) (gl : GSet) (ps qs : List Piece) (work middle left : Work) (es fs : List Entry) → Begins (text_end_after (NoRun gl) ps) qs →
    Acts budget gl work ps es middle → Acts budget (gl_after gl ps) middle qs fs left → Acts budget gl work (ps ++ qs) (es ++ fs) left
acts_after budget gl ps qs work middle left es fs begins first second n xs more end anew more_reads =
    let t : TextEnd = text_end_after (NoRun gl) ps in
    let mid : GSet = gl_after gl ps in
    let next : ℕ = n + length (pieces_bytes (NoRun gl) ps) in
    let rest : List Placed = placed_from next (pieces_bytes (NoRun mid) qs) ++ xs in
    let whole : GSet = gl_after gl (ps ++ qs) in
    let sets : whole ≡ gl_after mid qs = ap gl_of (text_end_after-append (NoRun gl) ps qs) ∙ gl_apart t qs begins in
    let last : gl_after mid qs ≡ G1 → BeginsAnew xs = λ is. anew (sets ∙ is) in
    let text_end : Reads (at budget mid middle) rest (fs ++ more) end =
    second next xs more end last (subst (λ (s : GSet). Reads (at budget s left) xs more end) sets more_reads) in
    let opens : mid ≡ G1 → BeginsAnew rest =
    λ is. subst (λ (s : GSet). BeginsAnew (placed_from next (pieces_bytes (NoRun s) qs) ++ xs)) (sym is)
    (begins_anew next t qs xs begins (λ e. last (ap (λ (s : GSet). gl_after s qs) is ∙ e))) in
    let parts : placed_from n (pieces_bytes (NoRun gl) (ps ++ qs)) ++ xs ≡ placed_from n (pieces_bytes (NoRun gl) ps) ++ rest =
    ap (λ (bs : List ℕ). placed_from n bs ++ xs) (pieces_bytes-append (NoRun gl) ps qs ∙ ap (λ (bs : List ℕ). pieces_bytes (NoRun gl) ps ++ bs) (written_apart t qs begins))
    ∙ ap (λ (ys : List Placed). ys ++ xs) (placed_from-append n (pieces_bytes (NoRun gl) ps) (pieces_bytes (NoRun mid) qs))
    ∙ append_assoc (placed_from n (pieces_bytes (NoRun gl) ps)) (placed_from next (pieces_bytes (NoRun mid) qs)) xs in
    subst (λ (ys : List Placed). Reads (at budget gl work) ys ((es ++ fs) ++ more) end) (sym parts)
    (subst (λ (ds : List Entry). Reads (at budget gl work) (placed_from n (pieces_bytes (NoRun gl) ps) ++ rest) ds end) (sym (append_assoc es fs more))
    (first n rest (fs ++ more) end opens text_end))

-- an opcode with its operands

-- the byte is the opcode's
abbrev pub Names : ℕ → Opcode → Type 0
Names byte op = front (sets_with G1) (byte ∷ []) ≡ complete (Code.Op op) 1 (sets_with G1)

opcode_in_gl : (budget : ℕ) (work : Work) (byte : ℕ) (operands : List ℕ) (op : Opcode) (d : RuleResult) → Names byte op → All IsOperandByte operands →
    length operands ≤ run_limit → rule work op (spellings.words_of operands) ≡ Ok d →
    (n : ℕ) (xs : List Placed) (more : List Entry) (end : Machine) → BeginsAnew xs → Reads (at budget G1 d.work) xs more end →
    Reads (at budget G1 work) (placed_from n (byte ∷ operands) ++ xs) (d.entries ++ more) end
unfolding placed_from
opcode_in_gl budget work byte operands op d names all few by n xs more end anew more_reads =
    reads_run budget (sets_with G1) work (record { byte = byte; place = n }) (placed_from (suc n) operands) op d xs more end
    (spelled_run n byte operands op (at budget G1 work) refl names all few)
    (ap (rule work op) (words_of-placed (suc n) operands) ∙ by) anew more_reads

-- SO
shifts_out : (budget : ℕ) (gl : GSet) (work : Work) (n : ℕ) (xs : List Placed) (es : List Entry) (end : Machine) →
    Reads (at budget G1 work) xs es end → Reads (at budget gl work) (placed_from n (0x0E ∷ []) ++ xs) es end
unfolding walk
shifts_out budget gl work n xs es end more_reads =
    code_reads budget (sets_with gl) work n [] 0x0E Code.Shifted (sets_with G1) (rule_result work []) xs es end tt shift_out refl more_reads

-- the opcode, after a shift if its set isn't in GL
shifted_in : (budget : ℕ) (gl : GSet) (work : Work) (byte : ℕ) (operands : List ℕ) (n : ℕ) (xs : List Placed) (es : List Entry) (end : Machine) →
    ((k : ℕ) → Reads (at budget G1 work) (placed_from k (byte ∷ operands) ++ xs) es end) →
    Reads (at budget gl work) (placed_from n (piece_bytes (NoRun gl) (opcode byte operands)) ++ xs) es end
unfolding placed_from
shifted_in budget G1 work byte operands n xs es end read = read n
shifted_in budget gl work byte operands n xs es end read = shifts_out budget gl work n (placed_from (suc n) (byte ∷ operands) ++ xs) es end (read (suc n))

pub opcode_acts : (budget : ℕ) (gl : GSet) (work : Work) (byte : ℕ) (operands : List ℕ) (op : Opcode) (d : RuleResult) → Names byte op → All IsOperandByte operands →
    length operands ≤ run_limit → rule work op (spellings.words_of operands) ≡ Ok d → Acts budget gl work (opcode byte operands ∷ []) d.entries d.work
unfolding pieces_bytes text_end_after
opcode_acts budget gl work byte operands op d names all few by n xs more end anew more_reads =
    subst (λ (bs : List ℕ). Reads (at budget gl work) (placed_from n bs ++ xs) (d.entries ++ more) end) (sym (append-nil (piece_bytes (NoRun gl) (opcode byte operands))))
    (shifted_in budget gl work byte operands n xs (d.entries ++ more) end
    (λ k. opcode_in_gl budget work byte operands op d names all few by k xs more end (anew refl) more_reads))

-- a group of operands after no run is written with its opcode
pub group_acts : (budget : ℕ) (gl : GSet) (work : Work) (byte : ℕ) (operands : List ℕ) (op : Opcode) (d : RuleResult) → Names byte op → All IsOperandByte operands →
    length operands ≤ run_limit → rule work op (spellings.words_of operands) ≡ Ok d → Acts budget gl work (group byte operands ∷ []) d.entries d.work
unfolding pieces_bytes text_end_after
group_acts budget gl work byte operands op d names all few by = opcode_acts budget gl work byte operands op d names all few by

-- What a reader does with pieces of canonical text that aren't opcodes.

last_apart : (b : ℕ) (bs : List ℕ) → (before : List ℕ) × (last : ℕ) × (b ∷ bs ≡ before ++ last ∷ [])
last_apart b [] = ([], b, refl)
last_apart b (c ∷ bs) =
    let (before, last, is) = last_apart c bs in
    (b ∷ before, last, ap (λ (xs : List ℕ). b ∷ xs) is)

-- a code that means the same whatever is in GL, and leaves that
pub alone_acts : (budget : ℕ) (gl : GSet) (work : Work) (byte : ℕ) (bytes : List ℕ) (c : Code) (d : RuleResult) → IsAlone c → Spells (sets_with gl) (byte ∷ bytes) c (sets_with gl) →
    code_rule work c ≡ Ok d → Acts budget gl work (control (byte ∷ bytes) ∷ []) d.entries d.work
unfolding pieces_bytes text_end_after
alone_acts budget gl work byte bytes c d alone spells by n xs more end anew more_reads =
    let (before, last, is) = last_apart byte bytes in
    subst (λ (bs : List ℕ). Reads (at budget gl work) (placed_from n bs ++ xs) (d.entries ++ more) end) (sym is ∙ sym (append-nil (byte ∷ bytes)))
    (code_reads budget (sets_with gl) work n before last c (sets_with gl) d xs more end alone (subst (λ (bs : List ℕ). Spells (sets_with gl) bs c (sets_with gl)) is spells) by more_reads)

-- SI
shifts_in : (budget : ℕ) (gl : GSet) (work : Work) (n : ℕ) (xs : List Placed) (es : List Entry) (end : Machine) →
    Reads (at budget G0 work) xs es end → Reads (at budget gl work) (placed_from n (0x0F ∷ []) ++ xs) es end
unfolding walk
shifts_in budget gl work n xs es end more_reads =
    code_reads budget (sets_with gl) work n [] 0x0F Code.Shifted (sets_with G0) (rule_result work []) xs es end tt shift_in refl more_reads

-- a primary character, after a shift if its set isn't in GL

primary_in_gl : (budget : ℕ) (work : Work) (byte : ℕ) (d : RuleResult) → IsGraphic byte → code_rule work (Code.Char CharSet.Primary byte) ≡ Ok d →
    (n : ℕ) (xs : List Placed) (more : List Entry) (end : Machine) → Reads (at budget G0 d.work) xs more end →
    Reads (at budget G0 work) (placed_from n (byte ∷ []) ++ xs) (d.entries ++ more) end
unfolding non_pdi_code
primary_in_gl budget work byte d graphic by n xs more end more_reads =
    code_reads budget (sets_with G0) work n [] byte (Code.Char CharSet.Primary byte) (sets_with G0) d xs more end tt (in_gl graphic refl) by more_reads

primary_shifted : (budget : ℕ) (gl : GSet) (work : Work) (byte : ℕ) (n : ℕ) (xs : List Placed) (es : List Entry) (end : Machine) →
    ((k : ℕ) → Reads (at budget G0 work) (placed_from k (byte ∷ []) ++ xs) es end) →
    Reads (at budget gl work) (placed_from n (piece_bytes (NoRun gl) (primary byte)) ++ xs) es end
unfolding placed_from
primary_shifted budget G0 work byte n xs es end read = read n
primary_shifted budget gl work byte n xs es end read = shifts_in budget gl work n (placed_from (suc n) (byte ∷ []) ++ xs) es end (read (suc n))

pub primary_acts : (budget : ℕ) (gl : GSet) (work : Work) (byte : ℕ) (d : RuleResult) → IsGraphic byte → code_rule work (Code.Char CharSet.Primary byte) ≡ Ok d →
    Acts budget gl work (primary byte ∷ []) d.entries d.work
unfolding pieces_bytes text_end_after
primary_acts budget gl work byte d graphic by n xs more end anew more_reads =
    subst (λ (bs : List ℕ). Reads (at budget gl work) (placed_from n bs ++ xs) (d.entries ++ more) end) (sym (append-nil (piece_bytes (NoRun gl) (primary byte))))
    (primary_shifted budget gl work byte n xs (d.entries ++ more) end (λ k. primary_in_gl budget work byte d graphic by k xs more end more_reads))

-- a character of the DRCS, which is in G3 only for that time

-- the code sets with this one in G3
abbrev third : GSet → CodeSets
third gl = record (sets_with gl) { g3 = CodeSet.Drcs }

designates_drcs : (gl : GSet) → Spells (sets_with gl) (0x1B ∷ 0x2B ∷ 0x7B ∷ []) (Code.Designated 3 CodeSet.Drcs) (third gl)
unfolding row_of number_rows set_rows with_set
designates_drcs gl = designation refl refl

designates_mosaic : (gl : GSet) → Spells (third gl) (0x1B ∷ 0x2B ∷ 0x7D ∷ []) (Code.Designated 3 CodeSet.Mosaic) (sets_with gl)
unfolding row_of number_rows set_rows with_set
designates_mosaic gl = designation refl refl

drcs_spelled : (gl : GSet) (byte : ℕ) → IsGraphic byte → Spells (third gl) (0x1D ∷ byte ∷ []) (Code.Char CharSet.Drcs byte) (third gl)
unfolding non_pdi_code
drcs_spelled gl byte graphic = single_shift3 graphic refl

pub drcs_acts : (budget : ℕ) (gl : GSet) (work : Work) (byte : ℕ) (d : RuleResult) → IsGraphic byte → code_rule work (Code.Char CharSet.Drcs byte) ≡ Ok d →
    Acts budget gl work (char_piece CharSet.Drcs byte ∷ []) d.entries d.work
unfolding pieces_bytes text_end_after placed_from walk
drcs_acts budget gl work byte d graphic by n xs more end anew more_reads =
    let fourth : ℕ = suc (suc (suc n)) in
    let sixth : ℕ = suc (suc fourth) in
    let closing : List Placed = placed_from sixth (0x1B ∷ 0x2B ∷ 0x7D ∷ []) ++ xs in
    let shown : List Placed = placed_from fourth (0x1D ∷ byte ∷ []) ++ closing in
    let closed = code_reads budget (third gl) d.work sixth (0x1B ∷ 0x2B ∷ []) 0x7D (Code.Designated 3 CodeSet.Mosaic) (sets_with gl) (rule_result d.work []) xs more end
    tt (designates_mosaic gl) refl more_reads in
    let drew = code_reads budget (third gl) work fourth (0x1D ∷ []) byte (Code.Char CharSet.Drcs byte) (third gl) d closing more end tt (drcs_spelled gl byte graphic) by closed in
    code_reads budget (sets_with gl) work n (0x1B ∷ 0x2B ∷ []) 0x7B (Code.Designated 3 CodeSet.Drcs) (third gl) (rule_result work []) shown (d.entries ++ more) end
    tt (designates_drcs gl) refl drew

-- The entries that pieces which join no run convey to a reader, and the work that they leave.

pub names : (byte : ℕ) (op : Opcode) → IsOpcode byte op → Names byte op
names byte op is = (code_is_spelled (sets_with G1) (byte ∷ []) (Code.Op op) 1 (sets_with G1)).1 (omega arith, spells.opcode refl is.0 is.1)

-- one piece
pub data Conveys (work : Work) : Piece → List Entry → Work → Type 0 where
  -- an opcode with size bytes of operands
  by_opcode : (byte : ℕ) (op : Opcode) (bytes : List ℕ) (size : ℕ) (d : RuleResult) → IsOpcode byte op → AreOperands bytes size → size ≤ run_limit →
      ((rest : List Code) → MayFollowCode (Code.Op op) (operand_codes bytes ++ rest)) → rule work op (words_of bytes) ≡ Ok d → Conveys work (opcode byte bytes) d.entries d.work
  -- a control, which means the same whatever is in GL
  by_control : (byte : ℕ) (bytes : List ℕ) (c : Code) (d : RuleResult) → byte < 32 → IsAlone c → IsPlainCode c →
      ((gl : GSet) → Spells (sets_with gl) (byte ∷ bytes) c (sets_with gl)) → code_rule work c ≡ Ok d → Conveys work (control (byte ∷ bytes)) d.entries d.work
  by_primary : (byte : ℕ) (d : RuleResult) → IsGraphic byte → code_rule work (Code.Char CharSet.Primary byte) ≡ Ok d → Conveys work (primary byte) d.entries d.work
  by_drcs : (byte : ℕ) (d : RuleResult) → IsGraphic byte → code_rule work (Code.Char CharSet.Drcs byte) ≡ Ok d → Conveys work (char_piece CharSet.Drcs byte) d.entries d.work

piece_acts : (budget : ℕ) (gl : GSet) (work : Work) (p : Piece) (es : List Entry) (left : Work) → Conveys work p es left → Acts budget gl work (p ∷ []) es left
piece_acts budget gl work p es left (by_opcode byte op bytes size d is are few comes by) =
    opcode_acts budget gl work byte bytes op d (names byte op is) are.carriers (omega (arith, are.size_is, few)) by
piece_acts budget gl work p es left (by_control byte bytes c d below alone plain spells by) = alone_acts budget gl work byte bytes c d alone (spells gl) by
piece_acts budget gl work p es left (by_primary byte d graphic by) = primary_acts budget gl work byte d graphic by
piece_acts budget gl work p es left (by_drcs byte d graphic by) = drcs_acts budget gl work byte d graphic by

alone_comes : (c : Code) → IsAlone c → (rest : List Code) → MayFollowCode c rest
alone_comes c h rest = grind arith

piece_plain : (t : TextEnd) (work : Work) (p : Piece) (es : List Entry) (left : Work) → Conveys work p es left → PlainlySpelled t (p ∷ [])
piece_plain t work p es left (by_opcode byte op bytes size d is are few comes by) = opcode_plain t byte op bytes is are.carriers comes
piece_plain t work p es left (by_control byte bytes c d below alone plain spells by) = control_plain t (byte ∷ bytes) c (spells (gl_of t)) plain (alone_comes c alone)
piece_plain t work p es left (by_primary byte d graphic by) = primary_plain t byte graphic
piece_plain t work p es left (by_drcs byte d graphic by) = drcs_plain t byte graphic

piece_begins : (t : TextEnd) (work : Work) (p : Piece) (ps : List Piece) (es : List Entry) (left : Work) → Conveys work p es left → Begins t (p ∷ ps)
piece_begins t work p ps es left h = grind arith

-- pieces, one after another; or RESET with DOMAIN after it
pub data ConveyAll : Work → List Piece → List Entry → Work → Type 0 where
  no_pieces : {work : Work} → ConveyAll work [] [] work
  next : {work middle left : Work} {p : Piece} {ps : List Piece} {es fs : List Entry} → Conveys work p es middle → ConveyAll middle ps fs left → ConveyAll work (p ∷ ps) (es ++ fs) left
  resets : {work : Work} (first second : ℕ) (d : RuleResult) → IsWord first → IsWord second → rule work Opcode.Reset (words_of (word_byte first ∷ word_byte second ∷ [])) ≡ Ok d →
      ConveyAll work (opcode 0x20 (word_byte first ∷ word_byte second ∷ []) ∷ domain [] ∷ []) (d.entries ++ []) (record d.work { domain = text_lengths })

is_reset : IsOpcode 0x20 Opcode.Reset
unfolding row_of opcode_rows left_out_opcode
is_reset = (refl, refl, tt, omega arith)

-- DOMAIN alone
pub lengths_convey : (work : Work) → Conveys work (domain []) [] (record work { domain = text_lengths })
unfolding row_of opcode_rows left_out_opcode walk
lengths_convey work =
    by_opcode 0x21 Opcode.Domain (0x5F ∷ []) 1 (rule_result (record work { domain = text_lengths }) []) (refl, refl, tt, omega arith)
    (word_bytes 31 (omega arith) no_bytes) (omega arith) (λ rest. refl) (rw no_moves refl)

-- Pieces begin so after any end of the text; no pieces convey nothing.

pub nothing_conveyed : (work : Work) (ps : List Piece) (es : List Entry) (left : Work) → ConveyAll work ps es left → ps ≡ [] → es ≡ []
nothing_conveyed work ps es left h h2 = grind arith

pub convey_begin : (t : TextEnd) (rest : List Piece) (work : Work) (ps : List Piece) (es : List Entry) (left : Work) → ConveyAll work ps es left → (ps ≡ [] → Begins t rest) →
    Begins t (ps ++ rest)
convey_begin t rest work ps es left h h2 = grind (arith, piece_begins)

-- pieces leave no run
pub convey_end : (gl : GSet) (work : Work) (ps : List Piece) (es : List Entry) (left : Work) → ConveyAll work ps es left → text_end_after (NoRun gl) ps ≡ NoRun (gl_after gl ps)
unfolding text_end_after
convey_end gl work ps es left no_pieces = refl
convey_end gl work ps es left (next {middle = middle} {ps = qs} {fs = fs} (by_opcode byte op bytes size d is are few comes by) more) = convey_end G1 middle qs fs left more
convey_end gl work ps es left (next {middle = middle} {ps = qs} {fs = fs} (by_control byte bytes c d below alone plain spells by) more) = convey_end gl middle qs fs left more
convey_end gl work ps es left (next {middle = middle} {ps = qs} {fs = fs} (by_primary byte d graphic by) more) = convey_end G0 middle qs fs left more
convey_end gl work ps es left (next {middle = middle} {ps = qs} {fs = fs} (by_drcs byte d graphic by) more) = convey_end gl middle qs fs left more
convey_end gl work ps es left (resets first second d one two by) = refl

pub convey_act : (budget : ℕ) (gl : GSet) (work : Work) (ps : List Piece) (es : List Entry) (left : Work) → ConveyAll work ps es left → Acts budget gl work ps es left
unfolding text_end_after
convey_act budget gl work ps es left no_pieces = acts_nothing budget gl work
convey_act budget gl work ps es left (next {middle = middle} {p = p} {ps = qs} {es = ds} {fs = fs} c more) =
    let t : TextEnd = text_end_after (NoRun gl) (p ∷ []) in
    acts_after budget gl (p ∷ []) qs work middle left ds fs (subst (Begins t) (append-nil qs) (convey_begin t [] middle qs fs left more (λ none. tt)))
    (piece_acts budget gl work p ds middle c) (convey_act budget (gl_after gl (p ∷ [])) middle qs fs left more)
convey_act budget gl work ps es left (resets first second d one two by) =
    let bytes : List ℕ = word_byte first ∷ word_byte second ∷ [] in
    let are : AreOperands bytes 2 = word_bytes first one (word_bytes second two no_bytes) in
    acts_after budget gl (opcode 0x20 bytes ∷ []) (domain [] ∷ []) work d.work left d.entries [] (omega arith)
    (opcode_acts budget gl work 0x20 bytes Opcode.Reset d (names 0x20 Opcode.Reset is_reset) are.carriers (omega (arith, are.size_is)) by)
    (piece_acts budget G1 d.work (domain []) [] left (lengths_convey d.work))

pub convey_plain : (t : TextEnd) (work : Work) (ps : List Piece) (es : List Entry) (left : Work) → ConveyAll work ps es left → PlainlySpelled t ps
convey_plain t work ps es left no_pieces = nothing_plain t
convey_plain t work ps es left (next {middle = middle} {p = p} {ps = qs} {es = ds} {fs = fs} c more) =
    codes_after_plain t (p ∷ []) qs (piece_plain t work p ds middle c) (convey_plain (text_end_after t (p ∷ [])) middle qs fs left more)
convey_plain t work ps es left (resets first second d one two by) = reset_plain t first second one two
