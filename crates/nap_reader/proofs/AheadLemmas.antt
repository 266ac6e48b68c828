use Rattle.nap_reader.proofs.Common.{All-take, AllCharacters, Bool, CharSet, Code, Continues, DrawFault, Entry, Err, Ghosts, IsOperandByte, IsText, IsTextByte, Leads, LexerState, List, LongRun, Machine, NoCharacters, None, Ok, Opcode, OpenRun, Option, Outcome, Placed, ReadingState, Result, RuleResult, Some, State, [], after, after_drawing, ap, append-nil, arith, begun, between, carried_words, cond, drawn_front, drawn_text, drop, drop_of_length-le, false, is_operand_byte, length, length-append, length-take, length-take-le, nat_lt, nat_tests, outcome_by_front, outcome_from, placed_at, placed_from, prefix_len, prefix_len-le-length, refl, refusal, rule, run_length, run_limit, suc, sym, take, take-take, take_all, true, zero, ℕ, ◌++◌, ◌+◌, ◌-◌, ◌<◌, ◌∙◌, ◌∷◌, ◌≡◌, ◌≤◌}
use Rattle.nap_codes.specs.Front as codes
use Rattle.nap_reader.specs.Course as course
use Rattle.nap_reader.specs.Stream as model
use Rattle.nap_reader.proofs.OperandLemmas.{prefix_all}
use Rattle.nap_reader.proofs.Base.{as_list, bytes_of-placed, front_code, front_run, is_between, leads_entries, leads_more, list_more, outcome_from-front, pays, rest_of_nothing}
use Rattle.nap_reader.proofs.ReadingLemmas.{is_half, is_open_run}
use Rattle.nap_reader.proofs.PublicLaws.{all_operands}
use Rattle.nap_reader.proofs.TextLemmas.{text_past, typed_in}

-- How many entries the first bytes of the next piece add.

-- all bytes of a piece after its first
pub after_first : (b : ℕ) (rest : List ℕ) → take (length (b ∷ rest) - 1) rest ≡ rest
after_first b rest = take_all (length (b ∷ rest) - 1) rest (omega arith)

-- Operands after an opcode add no entries.

operands_run : (n j : ℕ) (bs : List ℕ) → j ≤ prefix_len is_operand_byte bs → run_length (placed_from n (take j bs)) ≡ length (placed_from n (take j bs))
operands_run n j bs few = all_operands (placed_from n (take j bs)) (rw bytes_of-placed (prefix_all IsOperandByte is_operand_byte bs j operand few))
  where
    operand : (b : ℕ) → is_operand_byte b ≡ true → IsOperandByte b
    operand b is = grind (arith, nat_tests)

opens_nothing : (m : Machine) (op : Opcode) (x : Placed) (ys : List Placed) → m.mode ≡ between → codes.front m.sets (x.byte ∷ []) ≡ codes.complete (Code.Op op) 1 m.sets →
    run_length ys ≡ length ys → (outcome_from m (x ∷ ys)).entries ≡ []
opens_nothing m op x ys mode names all =
    let run = take (run_length ys) ys in
    ap (λ (o : Outcome). o.entries) (outcome_from-front m (x ∷ ys) ∙ ap (outcome_by_front outcome_from m (x ∷ ys)) (front_code m [] x ys mode refl names refl))
    ∙ rw (drop_of_length-le ys {i = run_length ys} (omega arith))
    (elim (nat_lt run_limit (length run)) as (λ (long : Bool). (outcome_by_front outcome_from m (x ∷ ys) (cond long (course.refuse (refusal LongRun x.place)) (course.pause (model.open_run op x.place (carried_words run))))).entries ≡ [])
    [ true ↦ refl | false ↦ refl ])

-- The next byte is an opcode.
module _ {S : Type 0} {g : Ghosts S} {s t : S} {h : ReadingState} (budget : ℕ) (p : List ℕ) (k : Continues g s (begun budget p) t h []) (no_body : h.open_body ≡ None) (rested : h.half ≡ []) (b : ℕ) (op : Opcode)
    (names : codes.front h.machine.sets (b ∷ []) ≡ codes.complete (Code.Op op) 1 h.machine.sets) (other : is_operand_byte b ≡ false) where
  abbrev x : Placed
  x = placed_at b (length p)

  -- the entries with any operands after the opcode are these
  alike : (open_run : Option OpenRun) → h.open_run ≡ open_run → (es : List Entry) × ((ys : List Placed) → run_length ys ≡ length ys → (outcome_from h.machine (k.rest ++ x ∷ ys)).entries ≡ es)
  alike None closed = ([], λ ys all. rw (rest_of_nothing k.rest ((is_half h k.rest no_body closed k.retained).0 ∙ rested)) (opens_nothing h.machine op x ys (is_between h k.rest no_body k.retained).mode names all))
  alike (Some open_run) is = at (rule h.machine.work open_run.op h.run) refl
    where
      mode : h.machine.mode ≡ between
      mode = (is_between h k.rest no_body k.retained).mode

      front_is : (by : Result RuleResult DrawFault) → rule h.machine.work open_run.op h.run ≡ by → (ys : List Placed) →
          outcome_from h.machine (k.rest ++ x ∷ ys) ≡ outcome_by_front outcome_from h.machine (k.rest ++ x ∷ ys) (drawn_front h.machine open_run.place (x ∷ ys) by)
      front_is by e ys =
          outcome_from-front h.machine (k.rest ++ x ∷ ys)
          ∙ ap (outcome_by_front outcome_from h.machine (k.rest ++ x ∷ ys)) (front_run h.machine k.rest open_run h.run x ys mode (is_open_run h k.rest open_run no_body is k.retained).0 other ∙ ap (drawn_front h.machine open_run.place (x ∷ ys)) e)

      at : (by : Result RuleResult DrawFault) → rule h.machine.work open_run.op h.run ≡ by → (es : List Entry) × ((ys : List Placed) → run_length ys ≡ length ys → (outcome_from h.machine (k.rest ++ x ∷ ys)).entries ≡ es)
      at (Err fault) e = ([], λ ys all. ap (λ (o : Outcome). o.entries) (front_is (Err fault) e ys))
      at (Ok drawn) e =
          (drawn.entries ++ [], λ ys all. ap (λ (o : Outcome). o.entries) (front_is (Ok drawn) e ys) ∙ ap (λ (es : List Entry). drawn.entries ++ es) (opens_nothing (after_drawing h.machine drawn) op x ys mode names all))

  entries : (q : List ℕ) → (begun budget (p ++ b ∷ q)).entries ≡ k.done ++ (outcome_from h.machine (k.rest ++ x ∷ placed_from (suc (length p)) q)).entries
  unfolding placed_from leads_more
  entries q = ap (λ (o : Outcome). o.entries) (leads_more budget p (b ∷ q) k).leads

  pub opcode_adds : (rest : List ℕ) (n : ℕ) → n ≡ prefix_len is_operand_byte (take (length (b ∷ rest) - 1) rest) → (j : ℕ) → 1 ≤ j → j ≤ 1 + n →
      (begun budget (p ++ take j (b ∷ rest))).entries ≡ (begun budget (p ++ b ∷ [])).entries
  unfolding placed_from
  opcode_adds rest n counted zero some few = absurd (omega (arith, some))
  opcode_adds rest n counted (suc j) some few =
      let (es, same) = alike h.open_run refl in
      let counted = counted ∙ ap (prefix_len is_operand_byte) (after_first b rest) in
      rw (entries (take j rest), entries [], same (placed_from (suc (length p)) (take j rest)) (operands_run (suc (length p)) j rest (omega (arith, few, counted))), same [] refl) refl

-- the operands after the first byte of a piece are within it
pub counted_within : (piece : List ℕ) → 0 < length piece → prefix_len is_operand_byte (take (length piece - 1) (drop 1 piece)) < length piece
counted_within piece some = grind (arith, prefix_len-le-length, length-take)

-- a byte below 40 is no operand
pub no_operand : (b : ℕ) → b < 0x40 → is_operand_byte b ≡ false
no_operand b few = grind (arith, nat_tests)

-- Characters, and the format effectors among them, add one entry each.

length_text : (s : State) (set : CharSet) (q : List ℕ) → length (drawn_text s set q) ≡ length q
unfolding drawn_text
length_text s set [] = refl
length_text s set (b ∷ q) = ap suc (length_text (after s (typed_in s set b)) set q)

-- no run is open if the bytes from 20 to 7F are characters
pub closed_by_characters : (lexer : LexerState) (set : CharSet) (open_run : Option OpenRun) → NoCharacters lexer open_run → AllCharacters lexer.sets set → open_run ≡ None
closed_by_characters lexer set open_run h k = grind arith

pub text_adds : {S : Type 0} {g : Ghosts S} {s t : S} {h : ReadingState} {set : CharSet} (budget : ℕ) (p piece q : List ℕ) → Continues g s (begun budget p) t h [] → IsText h set q → take (length q) piece ≡ q →
    (j : ℕ) → j ≤ length q → length (begun budget (p ++ take j piece)).entries ≡ length (begun budget p).entries + j
text_adds {h = h} {set = set} budget p piece q k in_text front j few =
    let part = take j q in
    let same : take j piece ≡ part = sym (take-take j (length q) piece few) ∙ ap (take j) front in
    let placed = placed_from (length p) part in
    let is : IsText h set part = record { between = in_text.between; closed = in_text.closed; rested = in_text.rested; chars = in_text.chars; typed = All-take IsTextByte j q in_text.typed } in
    let list : Leads (begun budget (p ++ part)) (k.done ++ []) h (placed ++ []) = rw (append-nil placed) (leads_more budget p part (as_list k)) in
    let there = pays (text_past set placed [] is (bytes_of-placed (length p) part) list) list_more refl (λ clear. clear) in
    omega (
      arith,
      ap (λ (bytes : List ℕ). length (begun budget (p ++ bytes)).entries) same,
      ap length (leads_entries there ∙ sym there.taken),
      length-append (k.done ++ []) (drawn_text h.machine.work.state set part),
      ap length (append-nil k.done),
      length_text h.machine.work.state set part,
      length-take-le j q few,
      ap length (leads_entries k),
    )
