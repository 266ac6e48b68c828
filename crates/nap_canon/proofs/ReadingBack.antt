-- The text of a list is plain, and it is read as the list, in either form.

use Rattle.nap_canon.proofs.{All, All-append, All-cons, AllFit, AllInRange, AllMayFollow, ArePlain, AreWholeOperands, Bool, CanJoin, CanonicalStreamsAgree, CharSet, Code, Command, Common.text, Coordinates, DomainFirst, Drawing, Entry, Form, FormsAgree, G0, G1, GSet, InRun, IsCanonicalOf, IsOperandByte, IsPlain, IsPlainCode, IsReadAs, IsSome, Legal, LexResult, List, Machine, NoRun, Ok, One, Opcode, OpenDefinition, OperandLengths, Operands.work_at, Option, Outcome, Pen, Piece, Placed, Preludes.start_in_mode, RuleResult, State, TextEnd, TextIsPlain, TextIsRead, TextLeads, Two, Work, [], accepted_is_legal, after, ap, append-nil, append_assoc, arith, attributes, char_piece, command_piece, domain, effects, entry_pieces, false, gl_of, group, if◌then◌else◌, inl, inr, joins_open_run, left_out_opcode, length, length-append, length-map, line_piece, list_of, map, map-append, means, nat_tests, opcode, opcode_rows, pieces, pieces_bytes, pieces_bytes-append, placed_from, point_bytes, prelude, read_values_are_in_range, refl, row_of, rule, run_after, run_limit, runs_join, same_pen, spelling_pieces, start, start_domain, start_machine, start_sets, start_work, subst, sym, text_end_after, text_end_after-append, text_end_after_header, text_in, text_lengths, true, walk, with_attributes, words_of, ℕ, ⊤, ◌%◌, ◌*◌, ◌++◌, ◌+◌, ◌-◌, ◌==◌, ◌↔◌, ◌∙◌, ◌∷◌, ◌≡◌, ◌≤◌}
use Rattle.nap_canon.proofs.Pieces.{Acts, Begins, Names, Reads, acts_after, acts_nothing, at, convey_act, convey_end, convey_plain, gl_after, group_acts, lengths_convey, means_settled, names, next, no_pieces, reads_nothing, settled}
use Rattle.nap_canon.proofs.Spelling.{JoinsNone, Kind, MayCome, SavesLengths, Strokes, entry_begins, first_kind, group_parts, holding, joining_comes, led, next_may, prelude_after, prelude_conveys, saved_after, saved_along, saves_along, spelled_begins, work_with_attributes}
use Rattle.nap_canon.proofs.PlainCodes.{AllSpelled, PlainlySpelled, codes_after_plain, group_plain, lexed_spelled, nothing_plain, one_code, operand_codes, sets_with}
use Rattle.nap_codes.specs.Spelling as spells

-- Groups of operands that join a run.

-- Two groups, the second of which joins the first, are written as one.

module _ (gl : GSet) (byte : ℕ) (a b : List ℕ) (ps : List Piece) (joins : joins_open_run (InRun (run_after (NoRun gl) byte (length a))) byte (length b) ≡ true) where
  text_ends_agree : InRun (run_after (InRun (run_after (NoRun gl) byte (length a))) byte (length b)) ≡ InRun (run_after (NoRun gl) byte (length (a ++ b)))
  text_ends_agree = grind (arith, length, length-append)

  pub joined_bytes : pieces_bytes (NoRun gl) (group byte a ∷ group byte b ∷ ps) ≡ pieces_bytes (NoRun gl) (group byte (a ++ b) ∷ ps)
  unfolding pieces_bytes
  joined_bytes = grind (arith, length, text_ends_agree, append_assoc)

  pub joined_gl : gl_after gl (group byte a ∷ group byte b ∷ ps) ≡ gl_after gl (group byte (a ++ b) ∷ ps)
  unfolding text_end_after
  joined_gl = ap (λ (u : TextEnd). gl_of (text_end_after u ps)) text_ends_agree

  pub joined_acts : (budget : ℕ) (work left : Work) (es : List Entry) → Acts budget gl work (group byte (a ++ b) ∷ ps) es left →
      Acts budget gl work (group byte a ∷ group byte b ∷ ps) es left
  joined_acts budget work left es acts n xs more end anew more_reads =
      subst (λ (bs : List ℕ). Reads (at budget gl work) (placed_from n bs ++ xs) (es ++ more) end) (sym joined_bytes)
      (acts n xs more end (λ is. anew (joined_gl ∙ is)) (subst (λ (g : GSet). Reads (at budget g left) xs more end) joined_gl more_reads))

-- operands that join a run have its opcode, and there is space for them

pub same_opcode : (byte other n m : ℕ) → joins_open_run (InRun (record { opcode = byte; length = n })) other m ≡ true → other ≡ byte
same_opcode byte other n m joins = grind (arith, nat_tests)

pub space_for : (byte n m : ℕ) → joins_open_run (InRun (record { opcode = byte; length = n })) byte m ≡ true → n + m ≤ run_limit
space_for byte n m joins = grind (arith, nat_tests)

-- An open run, whose opcode has drawn these entries and leaves this work.
pub record Open (left : Work) : Type 0 where
  pub before : Work
  pub byte : ℕ
  pub operands : List ℕ
  pub entries : List Entry
  pub op : Opcode
  pub joins : CanJoin op
  pub named : Names byte op
  pub carriers : All IsOperandByte operands
  pub few : length operands ≤ run_limit
  pub lengths : before.domain.multi ≡ 8
  pub groups : ℕ
  pub whole : length operands ≡ groups * 8
  pub draws : rule before op (words_of operands) ≡ Ok (record { entries = entries; work = left; clears = false })

-- an opcode with its operands, after which the run is open
pub open_acts : (budget : ℕ) (gl : GSet) (left : Work) (o : Open left) → Acts budget gl o.before (group o.byte o.operands ∷ []) o.entries left
open_acts budget gl left o =
    group_acts budget gl o.before o.byte o.operands o.op (record { entries = o.entries; work = left; clears = false }) o.named o.carriers o.few o.draws

-- a byte is the byte of one opcode
named_once : (byte : ℕ) (op other : Opcode) → Names byte op → Names byte other → other ≡ op
named_once byte op other first second = let both = sym second ∙ first in cc

is_whole : (work : Work) (operands : List ℕ) (groups : ℕ) → work.domain.multi ≡ 8 → length operands ≡ groups * 8 → AreWholeOperands work.domain.multi (words_of operands)
is_whole work operands groups lengths whole = grind (arith, length-map)

-- the run that an entry opens
abbrev pub opened : (saved : OperandLengths) (s : State) (e : Entry) (byte : ℕ) (operands : List ℕ) → Strokes saved s e byte operands →
    Open (work_at (saved_after saved e) (after s e))
opened saved s e byte operands k = record {
  before = work_with_attributes saved s e;
  byte = byte;
  operands = operands;
  entries = e ∷ [];
  op = k.op;
  joins = k.joins;
  named = names byte k.op k.is;
  carriers = k.are.carriers;
  few = omega (arith, k.are.size_is, k.few);
  lengths = refl;
  groups = k.groups;
  whole = k.are.size_is;
  draws = k.draws;
}

module _ (saved : OperandLengths) (s : State) (e : Entry) (o : Open (work_at saved s)) (more : List ℕ) (k : Strokes saved s e o.byte more) (same_state : holding s e ≡ s) where
  pub more_draws : rule o.before o.op (words_of (o.operands ++ more))
      ≡ Ok (record { entries = o.entries ++ e ∷ []; work = work_at (saved_after saved e) (after s e); clears = false })
  more_draws =
      let first : RuleResult = record { entries = o.entries; work = work_at saved s; clears = false } in
      let second : RuleResult = record { entries = e ∷ []; work = work_at (saved_after saved e) (after s e); clears = false } in
      let next : rule (work_at saved s) o.op (words_of more) ≡ Ok second =
      ap (λ (t : State). rule (work_at saved t) o.op (words_of more)) (sym same_state)
      ∙ ap (λ (op : Opcode). rule (work_with_attributes saved s e) op (words_of more)) (sym (named_once o.byte o.op k.op o.named (names o.byte k.op k.is)))
      ∙ k.draws in
      ap (rule o.before o.op) (map-append (λ (b : ℕ). b - 64) o.operands more)
      ∙ runs_join o.before o.op (words_of o.operands) (words_of more) first second o.joins (is_whole o.before o.operands o.groups o.lengths o.whole) o.draws next

  -- the run with one more group, which draws an entry that holds current attributes
  abbrev pub opened_more : length o.operands + length more ≤ run_limit → Open (work_at (saved_after saved e) (after s e))
  opened_more few = record {
    before = o.before;
    byte = o.byte;
    operands = o.operands ++ more;
    entries = o.entries ++ e ∷ [];
    op = o.op;
    joins = o.joins;
    named = o.named;
    carriers = All-append IsOperandByte o.operands more o.carriers k.are.carriers;
    few = omega (arith, length-append o.operands more, few);
    lengths = o.lengths;
    groups = o.groups + k.groups;
    whole = omega (arith, length-append o.operands more, o.whole, k.are.size_is);
    draws = more_draws;
  }

-- The text of a list is plain.

-- the codes of the header, and others after it
abbrev with_header : List Code → List Code
with_header list = Code.Shifted ∷ Code.Op Opcode.Domain ∷ Code.Operand 31 ∷ list

header_spelled : (form : Form) (es : List Entry) (list : List Code) →
    AllSpelled (sets_with G1) (pieces_bytes text_end_after_header (pieces form start es)) list (sets_with (gl_of (text_end_after text_end_after_header (pieces form start es)))) →
    AllSpelled start_sets (text_in form es) (with_header list) (sets_with (gl_of (text_end_after text_end_after_header (pieces form start es))))
unfolding row_of opcode_rows left_out_opcode
header_spelled form es list by = one_code spells.shift_out (one_code (spells.opcode refl refl refl) (one_code (spells.operand refl (omega arith) (omega arith)) by))

header_plain : (list : List Code) → All IsPlainCode list → AllMayFollow list → ArePlain (with_header list)
unfolding DomainFirst AllMayFollow
header_plain list each follow = record {
  each = All-cons IsPlainCode Code.Shifted (Code.Op Opcode.Domain ∷ Code.Operand 31 ∷ list) tt
      (All-cons IsPlainCode (Code.Op Opcode.Domain) (Code.Operand 31 ∷ list) tt (All-cons IsPlainCode (Code.Operand 31) list tt each));
  first = refl;
  follow = (tt, (refl, (tt, follow)));
}

nothing_comes : AllMayFollow []
unfolding AllMayFollow
nothing_comes = tt

entry_plain : (form : Form) (t : TextEnd) (saved : OperandLengths) (s : State) (e : Entry) (es : List Entry) (may : MayCome saved s (e ∷ es)) → Kind form saved s e → PlainlySpelled t (entry_pieces form s e)
entry_plain form t saved s e es may (inr draws) =
    let left = work_at (saved_after saved e) (after s e) in
    convey_plain t (work_at saved s) (entry_pieces form s e) (e ∷ []) left (prelude_after saved s e es may (spelling_pieces form (with_attributes s.drawing (attributes e)) e) (e ∷ []) left draws)
entry_plain form t saved s e es may (inl by) =
    let ps : List Piece = map command_piece (prelude s.drawing (attributes e)) in
    let k = by.strokes in
    subst (λ (qs : List Piece). PlainlySpelled t (ps ++ qs)) (sym by.spelled_as)
    (codes_after_plain t ps (group by.byte by.operands ∷ []) (convey_plain t (work_at saved s) ps [] (work_with_attributes saved s e) (prelude_conveys saved s e es may))
    (group_plain (text_end_after t ps) by.byte k.op by.operands k.is k.are.carriers (λ rest. joining_comes k.op k.joins (operand_codes by.operands ++ rest))))

list_plain : (form : Form) (t : TextEnd) (saved : OperandLengths) (s : State) (es : List Entry) → MayCome saved s es → PlainlySpelled t (pieces form s es)
unfolding pieces
list_plain form t saved s [] may = nothing_plain t
list_plain form t saved s (e ∷ es) may =
    codes_after_plain t (entry_pieces form s e) (pieces form (after s e) es) (entry_plain form t saved s e es may (first_kind saved s e es may form))
    (list_plain form (text_end_after t (entry_pieces form s e)) (saved_after saved e) (after s e) es (next_may saved s e es may))

pub text_is_plain : (form : Form) → TextIsPlain form
text_is_plain form es fits inside =
    let spelled = list_plain form text_end_after_header start_domain start es (record { inside = inside; fits = fits; mode = start_in_mode; saves = tt }) in
    let is = lexed_spelled start_sets (text_in form es) (with_header spelled.list) (sets_with (gl_of (text_end_after text_end_after_header (pieces form start es)))) (header_spelled form es spelled.list spelled.by) in
    let follow = subst AllMayFollow (append-nil spelled.list) (spelled.joins [] nothing_comes) in
    record {
      unrefused = ap (λ (l : LexResult). l.fault) is;
      whole = ap (λ (l : LexResult). l.state.half) is;
      plain = subst ArePlain (sym (ap (λ (l : LexResult). l.codes) is)) (header_plain spelled.list spelled.each follow);
    }

-- What a reader does with the text of a list.

none_joined : (form : Form) (gl : GSet) (saved : OperandLengths) (s : State) (e : Entry) (es : List Entry) (may : MayCome saved s (e ∷ es)) (rest : List Piece) (k : Kind form saved s e) →
    JoinsNone saved s e es may form (NoRun gl) rest k
none_joined form gl saved s e es may rest k = grind arith

list_begins : (form : Form) (gl : GSet) (saved : OperandLengths) (s : State) (es : List Entry) → MayCome saved s es → Begins (NoRun gl) (pieces form s es)
unfolding pieces
list_begins form gl saved s [] may = tt
list_begins form gl saved s (e ∷ es) may =
    let k = first_kind saved s e es may form in
    let rest : List Piece = pieces form (after s e) es in
    entry_begins saved s e es may form (NoRun gl) rest (λ none. spelled_begins saved s e es may form (NoRun gl) rest k (none_joined form gl saved s e es may rest k))

-- The statement for a list from any state on: alone, and after an open run.

module _ (form : Form) (budget : ℕ) where
  record ListActs (es : List Entry) : Type 0 where
    alone : (gl : GSet) (saved : OperandLengths) (s : State) → MayCome saved s es →
        Acts budget gl (work_at saved s) (pieces form s es) es (work_at (saved_along saved es) (walk s es))
    after_run : (gl : GSet) (saved : OperandLengths) (s : State) (o : Open (work_at saved s)) → MayCome saved s es →
        Acts budget gl o.before (group o.byte o.operands ∷ pieces form s es) (o.entries ++ es) (work_at (saved_along saved es) (walk s es))

  nothing_acts : ListActs []
  unfolding pieces walk saved_along
  nothing_acts = record {
    alone = λ gl saved s may. acts_nothing budget gl (work_at saved s);
    after_run = λ gl saved s o may.
        subst (λ (es : List Entry). Acts budget gl o.before (group o.byte o.operands ∷ []) es (work_at saved s)) (sym (append-nil o.entries))
        (open_acts budget gl (work_at saved s) o);
  }

  -- one entry more
  module _ (e : Entry) (es : List Entry) (rest : ListActs es) where
    module _ (gl : GSet) (saved : OperandLengths) (s : State) (may : MayCome saved s (e ∷ es)) where
      -- alone, by the kind of the entry
      one_more : Kind form saved s e → Acts budget gl (work_at saved s) (pieces form s (e ∷ es)) (e ∷ es) (work_at (saved_along saved (e ∷ es)) (walk s (e ∷ es)))
      unfolding pieces walk saved_along
      one_more (inl by) =
          let ps : List Piece = map command_piece (prelude s.drawing (attributes e)) in
          let next : State = after s e in
          let kept : OperandLengths = saved_after saved e in
          let more : List Piece = pieces form next es in
          let left = work_at (saved_along kept es) (walk next es) in
          let conveyed = prelude_conveys saved s e es may in
          subst (λ (qs : List Piece). Acts budget gl (work_at saved s) qs (e ∷ es) left) (group_parts saved s e es may form by.byte by.operands more by.spelled_as)
          (acts_after budget gl ps (group by.byte by.operands ∷ more) (work_at saved s) (work_with_attributes saved s e) left [] (e ∷ es)
          (ap (λ (t : TextEnd). joins_open_run t by.byte (length by.operands)) (convey_end gl (work_at saved s) ps [] (work_with_attributes saved s e) conveyed), by.strokes.is.3)
          (convey_act budget gl (work_at saved s) ps [] (work_with_attributes saved s e) conveyed)
          (rest.after_run (gl_after gl ps) kept next (opened saved s e by.byte by.operands by.strokes) (next_may saved s e es may)))
      one_more (inr draws) =
          let qs : List Piece = entry_pieces form s e in
          let next : State = after s e in
          let kept : OperandLengths = saved_after saved e in
          let mid = work_at kept next in
          let all = prelude_after saved s e es may (spelling_pieces form (with_attributes s.drawing (attributes e)) e) (e ∷ []) mid draws in
          acts_after budget gl qs (pieces form next es) (work_at saved s) mid (work_at (saved_along kept es) (walk next es)) (e ∷ []) es
          (subst (λ (u : TextEnd). Begins u (pieces form next es)) (sym (convey_end gl (work_at saved s) qs (e ∷ []) mid all)) (list_begins form (gl_after gl qs) kept next es (next_may saved s e es may)))
          (convey_act budget gl (work_at saved s) qs (e ∷ []) mid all) (rest.alone (gl_after gl qs) kept next (next_may saved s e es may))

    module _ (gl : GSet) (saved : OperandLengths) (s : State) (o : Open (work_at saved s)) (may : MayCome saved s (e ∷ es)) where
      -- the end of the text after the run
      abbrev run_end : TextEnd
      run_end = InRun (run_after (NoRun gl) o.byte (length o.operands))

      abbrev Goal : Type 0
      Goal = Acts budget gl o.before (group o.byte o.operands ∷ pieces form s (e ∷ es)) (o.entries ++ e ∷ es) (work_at (saved_along saved (e ∷ es)) (walk s (e ∷ es)))

      -- the run acts, and then the list
      run_ends : Begins run_end (pieces form s (e ∷ es)) → Goal
      unfolding text_end_after
      run_ends begins =
          acts_after budget gl (group o.byte o.operands ∷ []) (pieces form s (e ∷ es)) o.before (work_at saved s) (work_at (saved_along saved (e ∷ es)) (walk s (e ∷ es)))
          o.entries (e ∷ es) begins (open_acts budget gl (work_at saved s) o) (one_more G1 saved s may (first_kind saved s e es may form))

      -- the entry's group joins the run
      run_continues : (more : List ℕ) → Strokes saved s e o.byte more → prelude s.drawing (attributes e) ≡ [] → spelling_pieces form (with_attributes s.drawing (attributes e)) e ≡ group o.byte more ∷ [] →
          joins_open_run run_end o.byte (length more) ≡ true → Goal
      unfolding pieces walk saved_along
      run_continues more k none is joins =
          let next : State = after s e in
          let kept : OperandLengths = saved_after saved e in
          let qs : List Piece = pieces form next es in
          let left = work_at (saved_along kept es) (walk next es) in
          let same_state : holding s e ≡ s =
          ap (λ (d : Drawing). record s { drawing = d })
          (sym (ap (λ (cs : List Command). effects cs s.drawing) (sym none) ∙ (led saved s e es may).there)) in
          let few : length o.operands + length more ≤ run_limit = space_for o.byte (length o.operands) (length more) joins in
          let all = rest.after_run gl kept next (opened_more saved s e o more k same_state few) (next_may saved s e es may) in
          let whole : group o.byte more ∷ qs ≡ pieces form s (e ∷ es) =
          ap (λ (cs : List Command). map command_piece cs ++ (group o.byte more ∷ qs)) (sym none) ∙ group_parts saved s e es may form o.byte more qs is in
          subst (λ (ps : List Piece). Acts budget gl o.before (group o.byte o.operands ∷ ps) (o.entries ++ e ∷ es) left) whole
          (subst (λ (ds : List Entry). Acts budget gl o.before (group o.byte o.operands ∷ group o.byte more ∷ qs) ds left) (append_assoc o.entries (e ∷ []) es)
          (joined_acts gl o.byte o.operands more qs joins budget o.before left ((o.entries ++ e ∷ []) ++ es) all))

      -- the group doesn't join the run, since the entry has a prelude or there is no space
      run_stops : (prelude s.drawing (attributes e) ≡ [] → Begins run_end (spelling_pieces form (with_attributes s.drawing (attributes e)) e ++ pieces form (after s e) es)) → Goal
      unfolding pieces
      run_stops begins = run_ends (entry_begins saved s e es may form run_end (pieces form (after s e) es) begins)

      by_prelude : (cs : List Command) → prelude s.drawing (attributes e) ≡ cs → Kind form saved s e → Goal
      by_prelude (c ∷ cs) is k = run_stops (λ none. cc)
      by_prelude [] is (inr draws) = run_stops (λ none. spelled_begins saved s e es may form run_end (pieces form (after s e) es) (inr draws) tt)
      by_prelude [] is (inl by) = at (joins_open_run run_end by.byte (length by.operands)) refl
        where
          at : (joins : Bool) → joins_open_run run_end by.byte (length by.operands) ≡ joins → Goal
          at false apart = run_stops (λ none. spelled_begins saved s e es may form run_end (pieces form (after s e) es) (inl by) apart)
          at true joins =
              let same : by.byte ≡ o.byte = same_opcode o.byte by.byte (length o.operands) (length by.operands) joins in
              run_continues by.operands (subst (λ (b : ℕ). Strokes saved s e b by.operands) same by.strokes) is
              (by.spelled_as ∙ ap (λ (b : ℕ). group b by.operands ∷ []) same) (ap (λ (b : ℕ). joins_open_run run_end b (length by.operands)) (sym same) ∙ joins)

      run_more : Goal
      run_more = by_prelude (prelude s.drawing (attributes e)) refl (first_kind saved s e es may form)

  list_acts : (es : List Entry) → ListActs es
  list_acts [] = nothing_acts
  list_acts (e ∷ es) = record {
    alone = λ gl saved s may. one_more e es (list_acts es) gl saved s may (first_kind saved s e es may form);
    after_run = λ gl saved s o may. run_more e es (list_acts es) gl saved s o may;
  }

-- the machine after the text of a list
abbrev pub text_machine : Form → ℕ → List Entry → Machine
text_machine form budget es = at budget (gl_after G1 (pieces form start es)) (work_at (saved_along start_domain es) (walk start es))

pub text_reads : (form : Form) (budget : ℕ) (es : List Entry) → AllInRange es → AllFit start es →
    Reads (start_machine budget) (placed_from 0 (text_in form es)) es (text_machine form budget es)
unfolding pieces_bytes text_end_after
text_reads form budget es inside fits =
    let m : Machine = start_machine budget in
    let left = work_at (saved_along start_domain es) (walk start es) in
    let may : MayCome start_domain start es = record { inside = inside; fits = fits; mode = start_in_mode; saves = tt } in
    let lengths = convey_act budget G0 start_work (domain [] ∷ []) [] (work_at start_domain start) (next (lengths_convey start_work) no_pieces) in
    let whole = acts_after budget G0 (domain [] ∷ []) (pieces form start es) start_work (work_at start_domain start) left [] es (list_begins form G1 start_domain start es may)
    lengths ((list_acts form budget es).alone G1 start_domain start may) in
    let end : Machine = text_machine form budget es in
    subst (λ (xs : List Placed). Reads m xs es end) (append-nil (placed_from 0 (text_in form es)))
    (subst (λ (ds : List Entry). Reads m (placed_from 0 (text_in form es) ++ []) ds end) (append-nil es)
    (whole 0 [] [] end (λ is. tt) (reads_nothing budget end.sets end.work)))

-- the meaning of the text of a list: the list, and nothing is charged
pub means_text : (form : Form) (budget : ℕ) (es : List Entry) → AllInRange es → Legal es → means budget (text_in form es) ≡ settled es (text_machine form budget es)
means_text form budget es inside legal = grind (arith, means_settled, text_reads)

-- The laws of canonical streams: their text is read as the list, so they are equal exactly if the lists are.

pub text_is_read : (form : Form) → TextIsRead form
text_is_read form budget es legal inside = grind (arith, means_text)

saved_lengths : (saved : OperandLengths) (o : Option OpenDefinition) → SavesLengths saved o → IsSome o → saved ≡ text_lengths
saved_lengths saved o h h2 = grind arith

pub text_leads : (form : Form) → TextLeads form
text_leads form budget es fits inside =
    let reads = text_reads form budget es inside fits in
    record {
      going = reads.going;
      unrefused = ap (λ (o : Outcome). o.refusal) reads.acts;
      list = ap (λ (o : Outcome). o.entries) reads.acts;
      state = ap (λ (o : Outcome). o.machine.work.state) reads.acts;
      domain = ap (λ (o : Outcome). o.machine.work.domain) reads.acts;
      saved = λ some. ap (λ (o : Outcome). o.machine.work.saved) reads.acts ∙ saved_lengths (saved_along start_domain es) (walk start es).definition (saves_along start_domain start es tt) some;
      sets = ap (λ (o : Outcome). o.machine.sets) reads.acts;
      uncharged = ap (λ (o : Outcome). o.machine.left) reads.acts;
    }

-- a canonical stream is read as the text that it is
pub read_as : (budget other : ℕ) (c p : List ℕ) → IsCanonicalOf budget c p → IsReadAs other c (list_of budget p)
read_as budget other c p canonical =
    subst (λ (bytes : List ℕ). IsReadAs other bytes (list_of budget p)) (sym canonical.text_is)
    (text_is_read Two other (list_of budget p) (accepted_is_legal budget p canonical.accepted) (read_values_are_in_range budget p).1)

pub plain_text : (budget : ℕ) (c p : List ℕ) → IsCanonicalOf budget c p → IsPlain c
plain_text budget c p canonical =
    subst IsPlain (sym canonical.text_is)
    (text_is_plain Two (list_of budget p) (accepted_is_legal budget p canonical.accepted).fit (read_values_are_in_range budget p).1)

pub equal_texts : (budget other : ℕ) (c p d q : List ℕ) → IsCanonicalOf budget c p → IsCanonicalOf other d q →
    (c ≡ d) ↔ (list_of budget p ≡ list_of other q)
equal_texts budget other c p d q first second = (
  λ same.
      sym (read_as budget budget c p first).list
      ∙ (ap (list_of budget) same
      ∙ (read_as other budget d q second).list),
  λ same. first.text_is ∙ (ap text same ∙ sym second.text_is),
)

pub own_text : (budget other : ℕ) (c p : List ℕ) → IsCanonicalOf budget c p → IsCanonicalOf other c c
own_text budget other c p canonical = grind (arith, read_as)

pub canonical_streams_agree : CanonicalStreamsAgree
canonical_streams_agree budget = record {
  equal = equal_texts budget;
  plain = plain_text budget;
  accepted = λ other c p canonical. (read_as budget other c p canonical).accepted;
  same_list = λ other c p canonical. (read_as budget other c p canonical).list;
  own = own_text budget;
}

-- The text of a list is no longer than its text in form 1.

-- after the same set in GL, the first pieces have no more bytes than the others, and leave the same set
abbrev NoLonger : List Piece → List Piece → Type 0
NoLonger ps qs = (t u : TextEnd) → gl_of t ≡ gl_of u → (length (pieces_bytes t ps) ≤ length (pieces_bytes u qs)) × (gl_of (text_end_after t ps) ≡ gl_of (text_end_after u qs))

nothing_no_longer : NoLonger [] []
unfolding pieces_bytes text_end_after
nothing_no_longer t u same = (omega arith, same)

both_no_longer : (ps qs more others : List Piece) → NoLonger ps qs → NoLonger more others → NoLonger (ps ++ more) (qs ++ others)
both_no_longer ps qs more others first second t u same =
    let one = first t u same in
    let two = second (text_end_after t ps) (text_end_after u qs) one.1 in
    let few : length (pieces_bytes t (ps ++ more)) ≡ length (pieces_bytes t ps) + length (pieces_bytes (text_end_after t ps) more) =
    ap length (pieces_bytes-append t ps more) ∙ length-append (pieces_bytes t ps) (pieces_bytes (text_end_after t ps) more) in
    let many : length (pieces_bytes u (qs ++ others)) ≡ length (pieces_bytes u qs) + length (pieces_bytes (text_end_after u qs) others) =
    ap length (pieces_bytes-append u qs others) ∙ length-append (pieces_bytes u qs) (pieces_bytes (text_end_after u qs) others) in
    (omega (arith, few, many, one.0, two.0), ap gl_of (text_end_after-append t ps more) ∙ two.1 ∙ ap gl_of (sym (text_end_after-append u qs others)))

-- pieces of which none is a group
abbrev NoGroup : List Piece → Type 0
NoGroup [] = ⊤
NoGroup (group byte operands ∷ ps) = ⊥
NoGroup (p ∷ ps) = NoGroup ps

no_group_after : (ps qs : List Piece) → NoGroup ps → NoGroup qs → NoGroup (ps ++ qs)
no_group_after [] qs first second = second
no_group_after (group byte operands ∷ ps) qs first second = first
no_group_after (_ ∷ ps) qs first second = no_group_after ps qs first second

-- after the same set in GL they are written alike
same_bytes : (ps : List Piece) → NoGroup ps → (t u : TextEnd) → gl_of t ≡ gl_of u → (pieces_bytes t ps ≡ pieces_bytes u ps) × (gl_of (text_end_after t ps) ≡ gl_of (text_end_after u ps))
unfolding pieces_bytes text_end_after
same_bytes [] none t u same = (refl, same)
same_bytes (opcode byte operands ∷ ps) none t u same = grind arith
same_bytes (group byte operands ∷ ps) none t u same = absurd none
same_bytes (_ ∷ ps) none t u same = rw same (refl, refl)

same_no_longer : (ps : List Piece) → NoGroup ps → NoLonger ps ps
same_no_longer ps none t u same =
    let both = same_bytes ps none t u same in
    (omega (arith, ap length both.0), both.1)

commands_no_group : (cs : List Command) → NoGroup (map command_piece cs)
commands_no_group [] = tt
commands_no_group (Command.select_base ∷ cs) = commands_no_group cs
commands_no_group (_ ∷ cs) = commands_no_group cs

char_no_group : (set : CharSet) (code : ℕ) → NoGroup (char_piece set code ∷ [])
char_no_group set code = grind arith

again_no_group : (back : Bool) → NoGroup (if back then domain [] ∷ [] else [])
again_no_group back = grind arith

-- form 1 has no groups
spelled_no_group : (d : Drawing) (e : Entry) → NoGroup (spelling_pieces One d e)
spelled_no_group d (Entry.Char set code hand) = char_no_group set code
spelled_no_group d (Entry.Map a grb) = grind (arith, no_group_after, commands_no_group)
spelled_no_group d (Entry.Reset first second pen) = again_no_group (first % 2 == 1)
spelled_no_group d _ = tt

-- a group has no more bytes than an opcode with as many operands or more
group_no_longer : (byte other : ℕ) (operands more : List ℕ) → length operands ≤ length more → NoLonger (group byte operands ∷ []) (opcode other more ∷ [])
unfolding pieces_bytes text_end_after
group_no_longer byte other operands more few t u same = grind (arith, length, append-nil, length-append)

line_no_longer : (pen : Pen) (from to : Coordinates) → NoLonger (line_piece Two pen from to ∷ []) (line_piece One pen from to ∷ [])
line_no_longer pen from to = at (same_pen pen (Pen.At from)) refl
  where
    at : (same : Bool) → same_pen pen (Pen.At from) ≡ same → NoLonger (line_piece Two pen from to ∷ []) (line_piece One pen from to ∷ [])
    at true is = rw is (group_no_longer 0x28 0x2A (point_bytes to) (point_bytes from ++ point_bytes to) (omega (arith, length-append (point_bytes from) (point_bytes to))))
    at false is = rw is (group_no_longer 0x2A 0x2A (point_bytes from ++ point_bytes to) (point_bytes from ++ point_bytes to) (omega arith))

spelled_no_longer : (d : Drawing) (e : Entry) → NoLonger (spelling_pieces Two d e) (spelling_pieces One d e)
spelled_no_longer d (Entry.Point at pel colour) = group_no_longer 0x26 0x26 (point_bytes at) (point_bytes at) (omega arith)
spelled_no_longer d (Entry.Line from to ink) = line_no_longer d.pen from to
spelled_no_longer d (Entry.Rect filled from to ink) = group_no_longer _ _ _ _ (omega arith)
spelled_no_longer d e = same_no_longer (spelling_pieces One d e) (spelled_no_group d e)

entry_no_longer : (s : State) (e : Entry) → NoLonger (entry_pieces Two s e) (entry_pieces One s e)
entry_no_longer s e =
    let prelude_pieces : List Piece = map command_piece (prelude s.drawing (attributes e)) in
    let d : Drawing = with_attributes s.drawing (attributes e) in
    both_no_longer prelude_pieces prelude_pieces (spelling_pieces Two d e) (spelling_pieces One d e) (same_no_longer prelude_pieces (commands_no_group (prelude s.drawing (attributes e)))) (spelled_no_longer d e)

list_no_longer : (s : State) (es : List Entry) → NoLonger (pieces Two s es) (pieces One s es)
unfolding pieces
list_no_longer s [] = nothing_no_longer
list_no_longer s (e ∷ es) =
    both_no_longer (entry_pieces Two s e) (entry_pieces One s e) (pieces Two (after s e) es) (pieces One (after s e) es) (entry_no_longer s e) (list_no_longer (after s e) es)

pub forms_agree : FormsAgree
forms_agree budget es legal inside = grind (arith, text_is_read, list_no_longer, length-append)
