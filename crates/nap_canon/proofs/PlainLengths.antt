-- The opcodes of a plain stream act under operands of eight words and of four.

use Rattle.nap_canon.proofs.{Acting, ActsUnderEightAndFour, All, All-cons, All-head, All-nil, All-tail, AllMayFollow, Bool, Code, CodeSet, CodeSets, Coordinates, DomainFirst, DomainNext, DrawFault, Drawing, Entry, Err, Fault, Front, IsNoOpcode, IsPlainCode, LastChar, LengthsNext, LexResult, List, Machine, MayFollowCode, Mode, None, Ok, Opcode, OpenDefinition, OperandLengths, Option, Outcome, Pieces.bytes_of-placed, Placed, PlainOperandLengths, Refusal, ResetNext, Result, RuleResult, State, StreamFront, Work, [], acting, acting_after, acting_at, acting_in, acting_within, after, after_charge, after_control0, after_drawing, and_then, ap, argument_front, argument_of, arith, begun, between, body_front, body_of, bytes_of, carried_words, char_on, closed_front, code_is_spelled, code_length, code_rule, complete, cond, control0_front, control0_rows, control1_front, control1_rows, definition_ended, definition_ended_by, definition_opened, designated_front, designation, designation_front, domain_rule, drawn_front, drop, ended_by, entries_result, entry_result, escape_front, false, final_front, front, front-nothing, front_after_front, front_by, front_in, get_or, gl_front, inl, inr, is_operand, is_operand_byte, last_byte, left_out_opcode, length, length-drop, length-map, lex_result, lex_result-code, lex_result-front, lex_result_by, map, more_front, nat_lt, nat_tests, no_names, non_pdi_code, number_rows, one_byte_later, one_byte_opcode, opcode_front, opcode_in_gl, opcode_rows, opcodes_of, opened_front, outcome_by_front, outcome_from, pdi_front, pen_result, place_at, placed_from, refl, refusal, refused, repeated_chars, replicate, row_of, rule, rule_result, run_front, run_length, run_limit, sequence_front, set_at, set_rows, shifted_front, shown_front, single_shift_front, start_domain, start_machine, start_sets, steps_left, stream_front, subst, suc, sym, take, true, unfinished, walk, with_argument, with_domain, with_set, zero, ℕ, ⊤, ◌%◌, ◌++◌, ◌+◌, ◌-◌, ◌<◌, ◌==◌, ◌∙◌, ◌∷◌, ◌≡◌, ◌≢◌, ◌≤◌, ◌⊎◌}
use Rattle.nap_codes.specs.Spelling as spells
use Rattle.nap_reader.specs.Course as course
use Rattle.nap_reader.specs.Stream as stream

-- The codes of a run of operand bytes where the PDI set is in GL.

operand_front : (sets : CodeSets) (b : ℕ) (bytes : List ℕ) → set_at sets sets.gl ≡ CodeSet.Pdi → is_operand_byte b ≡ true →
    front sets (b ∷ bytes) ≡ complete (Code.Operand (b - 64)) 1 sets
operand_front sets b bytes pdi is =
    let low : 64 ≤ b = grind (arith, nat_tests) in
    let high : b < 128 = grind (arith, nat_tests) in
    (code_is_spelled sets (b ∷ bytes) (Code.Operand (b - 64)) 1 sets).1 (omega arith, spells.operand pdi low high)

abbrev pub operands_of : List ℕ → List Code
operands_of words = map Code.Operand words

-- the first n bytes are operands
abbrev pub Cut : CodeSets → List Placed → ℕ → Type 0
Cut sets xs n = (lex_result sets (bytes_of xs)).codes ≡ operands_of (carried_words (take n xs)) ++ (lex_result sets (bytes_of (drop n xs))).codes

pub run_codes : (sets : CodeSets) (xs : List Placed) → set_at sets sets.gl ≡ CodeSet.Pdi → Cut sets xs (run_length xs)
run_codes sets [] pdi = refl
run_codes sets (x ∷ xs) pdi = at (is_operand x) refl (run_codes sets xs pdi)
  where
    at : (b : Bool) → is_operand x ≡ b → Cut sets xs (run_length xs) → Cut sets (x ∷ xs) (run_length (x ∷ xs))
    at true e ih =
        let there = lex_result-code sets (x.byte ∷ []) (bytes_of xs) (Code.Operand (x.byte - 64)) sets (operand_front sets x.byte [] pdi e) in
        let size : suc (run_length xs) ≡ run_length (x ∷ xs) = rw e (omega arith) in
        subst (Cut sets (x ∷ xs)) size (ap (λ (l : LexResult). l.codes) there ∙ ap (λ (cs : List Code). Code.Operand (x.byte - 64) ∷ cs) ih)
    at false e ih =
        let size : 0 ≡ run_length (x ∷ xs) = rw e refl in
        subst (Cut sets (x ∷ xs)) size refl

-- The operand lengths, the saved ones and the open definition stay as they were after opcodes, characters and controls,
-- except DOMAIN, RESET, and the starts and the end of a definition.

pub record Keeps (work : Work) (d : RuleResult) : Type 0 where
  pub domain : d.work.domain ≡ work.domain
  pub saved : d.work.saved ≡ work.saved
  pub definition : d.work.state.definition ≡ work.state.definition

abbrev pub KeepsBy : Work → Result RuleResult DrawFault → Type 0
KeepsBy work (Ok d) = Keeps work d
KeepsBy work (Err fault) = ⊤

-- entries that belong to no definition

abbrev IsInside : Entry → Type 0
IsInside (Entry.GlyphStart code) = ⊥
IsInside (Entry.MaskStart mask) = ⊥
IsInside Entry.DefEnd = ⊥
IsInside _ = ⊤

after_keeps : (s : State) (e : Entry) → IsInside e → (after s e).definition ≡ s.definition
after_keeps s e inside = grind arith

walk_keeps : {A : Type 0} (entry : A → Entry) → ((x : A) → IsInside (entry x)) → (s : State) (xs : List A) →
    (walk s (map entry xs)).definition ≡ s.definition
unfolding walk
walk_keeps entry inside s [] = refl
walk_keeps entry inside s (x ∷ xs) = walk_keeps entry inside (after s (entry x)) xs ∙ after_keeps s (entry x) (inside x)

copies_keep : (s : State) (last : LastChar) (n : ℕ) → (walk s (repeated_chars s last n)).definition ≡ s.definition
unfolding walk repeated_chars
copies_keep s last zero = refl
copies_keep s last (suc n) = copies_keep (after s (char_on s.drawing last)) last n ∙ after_keeps s (char_on s.drawing last) tt

-- the results of the parts of rules

by_keeps : {A : Type 0} (work : Work) (r : Result A DrawFault) (next : A → Result RuleResult DrawFault) → ((x : A) → KeepsBy work (next x)) →
    KeepsBy work (and_then r next)
by_keeps work r next each = grind arith

draws_keep : {A : Type 0} (work : Work) (entry : Drawing → A → Entry) → ((x : A) → IsInside (entry work.state.drawing x)) → (shapes : Option (List A)) →
    KeepsBy work (entries_result work entry shapes)
draws_keep work entry inside shapes = grind (arith, walk_keeps)

draws_one_keeps : {A : Type 0} (work : Work) (entry : Drawing → A → Entry) → ((x : A) → IsInside (entry work.state.drawing x)) → (shape : Option A) →
    KeepsBy work (entry_result work entry shape)
unfolding walk
draws_one_keeps work entry inside shape = grind (arith, after_keeps)

goes_keep : (work : Work) (points : Option (List Coordinates)) → KeepsBy work (pen_result work points)
unfolding walk
goes_keep work points = grind arith

pub rule_keeps : (work : Work) (op : Opcode) (run : List ℕ) → op ≢ Opcode.Domain → op ≢ Opcode.Reset → KeepsBy work (rule work op run)
unfolding walk
rule_keeps work op run no_domain no_reset = grind (arith, by_keeps, goes_keep, draws_keep, draws_one_keeps, walk_keeps)

-- characters and controls

abbrev pub HasNoDefinition : Code → Type 0
HasNoDefinition (Code.DefMacro name show) = ⊥
HasNoDefinition (Code.DefGlyph byte) = ⊥
HasNoDefinition (Code.DefMask mask) = ⊥
HasNoDefinition Code.End = ⊥
HasNoDefinition _ = ⊤

pub code_keeps : (work : Work) (code : Code) → HasNoDefinition code → KeepsBy work (code_rule work code)
unfolding walk
code_keeps work code none = grind (arith, copies_keep)

-- The stage of a plain stream, and the operand lengths under which its opcodes act.

-- eight words and four
abbrev pub eight_and_four : OperandLengths
eight_and_four = record { multi = 8; single = 4 }

-- the operand lengths are eight words and four, or DOMAIN comes next
abbrev LengthsAreCurrent : Work → List Code → Type 0
LengthsAreCurrent work list = (work.domain ≡ eight_and_four) ⊎ DomainNext list

-- the end of a definition restores eight words and four, or none is open
abbrev ComesBack : Work → Type 0
ComesBack work = (work.saved ≡ eight_and_four) ⊎ (work.state.definition ≡ None)

-- the codes to come: before the first opcode, or where no opcode comes, or after the first DOMAIN
pub data Stage (work : Work) (list : List Code) : Type 0 where
  before : work.state.definition ≡ None → DomainFirst list → Stage work list
  defining : All IsNoOpcode list → Stage work list
  after_domain : LengthsAreCurrent work list → ComesBack work → Stage work list

-- an opcode that acts

domain_alone : (op : Opcode) (list : List Code) → DomainNext (Code.Op op ∷ list) → op ≡ Opcode.Domain
unfolding DomainNext
domain_alone op list h = grind arith

pub lengths_are_current : (work : Work) (op : Opcode) (list : List Code) → Stage work (Code.Op op ∷ list) → op ≢ Opcode.Domain → work.domain ≡ eight_and_four
unfolding DomainFirst
lengths_are_current work op list h h2 = grind (arith, All-head, domain_alone)

comes_back : (work w : Work) → w.saved ≡ work.saved → w.state.definition ≡ work.state.definition → ComesBack work → ComesBack w
comes_back work w h h2 h3 = grind arith

-- DOMAIN

domain_drawn : (work : Work) (word : ℕ) (words : List ℕ) (d : RuleResult) → word ≡ 31 → domain_rule work (word ∷ words) ≡ Ok d →
    rule_result (with_domain work eight_and_four words) [] ≡ d
domain_drawn work word words d is by = grind arith

domain_stage : (work : Work) (run : List ℕ) (rest : List Code) (d : RuleResult) → domain_rule work run ≡ Ok d → LengthsNext (operands_of run ++ rest) → ComesBack work →
    Stage d.work rest
unfolding walk
domain_stage work run rest d h h2 h3 = grind (arith, domain_drawn, comes_back)

before_domain : (work : Work) (op : Opcode) (list : List Code) → Stage work (Code.Op op ∷ list) → ComesBack work
before_domain work op list h = grind (arith, All-head)

-- RESET

next_after_operands : (run : List ℕ) (rest : List Code) → DomainNext (operands_of run ++ rest) → DomainNext rest
unfolding DomainNext
next_after_operands [] rest next = next
next_after_operands (word ∷ words) rest next = next_after_operands words rest next

reset_lengths : (domain : OperandLengths) (word : ℕ) (words : List ℕ) (rest : List Code) → domain ≡ eight_and_four → ResetNext (operands_of (word ∷ words) ++ rest) →
    (cond (word % 2 == 1) start_domain domain ≡ eight_and_four) ⊎ DomainNext rest
reset_lengths domain word words rest domain_set next = grind (arith, nat_tests, next_after_operands)

-- the stage after the result of a rule, if it has one
abbrev StageBy : Result RuleResult DrawFault → List Code → Type 0
StageBy (Ok d) rest = Stage d.work rest
StageBy (Err fault) rest = ⊤

reset_stage : (work : Work) (run : List ℕ) (rest : List Code) → work.domain ≡ eight_and_four → ResetNext (operands_of run ++ rest) → ComesBack work →
    StageBy (rule work Opcode.Reset run) rest
unfolding walk
reset_stage work [] rest domain_set next back = after_domain (inl domain_set) back
reset_stage work (word ∷ words) rest domain_set next back = grind (arith, reset_lengths)

-- any opcode

pub data OpcodeKind (op : Opcode) : Type 0 where
  is_domain : op ≡ Opcode.Domain → OpcodeKind op
  is_reset : op ≡ Opcode.Reset → OpcodeKind op
  is_other : op ≢ Opcode.Domain → op ≢ Opcode.Reset → OpcodeKind op

opcode_kind : (op : Opcode) → OpcodeKind op
opcode_kind op = grind arith

kept_stage : (work : Work) (by : Result RuleResult DrawFault) (rest : List Code) → KeepsBy work by → work.domain ≡ eight_and_four → ComesBack work → StageBy by rest
kept_stage work by rest h h2 h3 = grind (arith, comes_back)

domain_by : (work : Work) (run : List ℕ) (by : Result RuleResult DrawFault) (rest : List Code) → domain_rule work run ≡ by → LengthsNext (operands_of run ++ rest) →
    ComesBack work → StageBy by rest
domain_by work run by rest h h2 h3 = grind (arith, domain_stage)

opcode_by : (work : Work) (op : Opcode) (run : List ℕ) (rest : List Code) → Stage work (Code.Op op ∷ operands_of run ++ rest) →
    MayFollowCode (Code.Op op) (operands_of run ++ rest) → OpcodeKind op → StageBy (rule work op run) rest
opcode_by work op run rest stage comes (is_domain is) =
    let back = before_domain work op (operands_of run ++ rest) stage in
    let next : LengthsNext (operands_of run ++ rest) = subst (λ (o : Opcode). MayFollowCode (Code.Op o) (operands_of run ++ rest)) is comes in
    subst (λ (o : Opcode). StageBy (rule work o run) rest) (sym is) (domain_by work run (domain_rule work run) rest refl next back)
opcode_by work op run rest stage comes (is_reset is) =
    let back = before_domain work op (operands_of run ++ rest) stage in
    let domain_set = lengths_are_current work op (operands_of run ++ rest) stage (λ e. cc) in
    let next : ResetNext (operands_of run ++ rest) = subst (λ (o : Opcode). MayFollowCode (Code.Op o) (operands_of run ++ rest)) is comes in
    subst (λ (o : Opcode). StageBy (rule work o run) rest) (sym is) (reset_stage work run rest domain_set next back)
opcode_by work op run rest stage comes (is_other no_domain no_reset) =
    kept_stage work (rule work op run) rest (rule_keeps work op run no_domain no_reset)
    (lengths_are_current work op (operands_of run ++ rest) stage no_domain) (before_domain work op (operands_of run ++ rest) stage)

pub opcode_stage : (work : Work) (op : Opcode) (run : List ℕ) (rest : List Code) (d : RuleResult) → rule work op run ≡ Ok d →
    Stage work (Code.Op op ∷ operands_of run ++ rest) → MayFollowCode (Code.Op op) (operands_of run ++ rest) → Stage d.work rest
opcode_stage work op run rest d by stage comes =
    subst (λ (r : Result RuleResult DrawFault). StageBy r rest) by (opcode_by work op run rest stage comes (opcode_kind op))

-- a code that is no opcode

-- the code opens and ends no definition, and is no operand
abbrev pub IsQuiet : Code → Type 0
IsQuiet (Code.Op op) = ⊥
IsQuiet (Code.Operand word) = ⊥
IsQuiet (Code.DefMacro name show) = ⊥
IsQuiet (Code.DefGlyph byte) = ⊥
IsQuiet (Code.DefMask mask) = ⊥
IsQuiet Code.End = ⊥
IsQuiet _ = ⊤

first_after : (c : Code) (rest : List Code) → IsQuiet c → DomainFirst (c ∷ rest) → DomainFirst rest
unfolding DomainFirst
first_after c rest quiet first = grind arith

no_domain_next : (c : Code) (rest : List Code) → IsQuiet c → DomainNext (c ∷ rest) → ⊥
unfolding DomainNext
no_domain_next c rest quiet next = grind arith

pub quiet_stage : (work w : Work) (c : Code) (rest : List Code) → IsQuiet c → w.domain ≡ work.domain → w.saved ≡ work.saved →
    w.state.definition ≡ work.state.definition → Stage work (c ∷ rest) → Stage w rest
quiet_stage work w c rest quiet domain saved definition (before closed first) = before (definition ∙ closed) (first_after c rest quiet first)
quiet_stage work w c rest quiet domain saved definition (defining none) = defining (All-tail IsNoOpcode c rest none)
quiet_stage work w c rest quiet domain saved definition (after_domain (inl is) back) = after_domain (inl (domain ∙ is)) (comes_back work w saved definition back)
quiet_stage work w c rest quiet domain saved definition (after_domain (inr next) back) = absurd (no_domain_next c rest quiet next)

-- the end of a definition, and the start of one

ended_lengths : (work : Work) (opened : Option OpenDefinition) → work.state.definition ≡ opened → work.domain ≡ eight_and_four → ComesBack work →
    (definition_ended_by work opened).work.domain ≡ eight_and_four
ended_lengths work opened h h2 h3 = grind arith

ended_back : (work : Work) (opened : Option OpenDefinition) → work.state.definition ≡ opened → ComesBack work → ComesBack (definition_ended_by work opened).work
unfolding walk
ended_back work opened h h2 = grind arith

ended_closed : (work : Work) (opened : Option OpenDefinition) → work.state.definition ≡ opened → (definition_ended_by work opened).work.state.definition ≡ None
unfolding walk
ended_closed work opened h = grind arith

pub opens_stage : (work : Work) (c : Code) (rest : List Code) (e : Entry) → (DomainFirst (c ∷ rest) → All IsNoOpcode rest) → (DomainNext (c ∷ rest) → ⊥) →
    Stage work (c ∷ rest) → Stage (definition_opened (definition_ended work) e).work rest
opens_stage work c rest e first_none next_none (before closed first) = defining (first_none first)
opens_stage work c rest e first_none next_none (defining none) = defining (All-tail IsNoOpcode c rest none)
opens_stage work c rest e first_none next_none (after_domain (inl is) back) = grind (arith, ended_lengths)
opens_stage work c rest e first_none next_none (after_domain (inr next) back) = absurd (next_none next)

pub end_stage : (work : Work) (rest : List Code) → Stage work (Code.End ∷ rest) → Stage (definition_ended work).work rest
unfolding DomainFirst DomainNext
end_stage work rest (before closed first) = before (ended_closed work work.state.definition refl) first
end_stage work rest (defining none) = defining (All-tail IsNoOpcode Code.End rest none)
end_stage work rest (after_domain (inl is) back) = grind (arith, ended_lengths, ended_back)
end_stage work rest (after_domain (inr next) back) = absurd next

quiet_by : (work : Work) (c : Code) (rest : List Code) (by : Result RuleResult DrawFault) → IsQuiet c → KeepsBy work by → Stage work (c ∷ rest) → StageBy by rest
quiet_by work c rest (Ok d) quiet keeps stage = quiet_stage work d.work c rest quiet keeps.domain keeps.saved keeps.definition stage
quiet_by work c rest (Err fault) quiet keeps stage = tt

-- no opcode, no operand, and no start of a macro
abbrev pub IsActing : Code → Type 0
IsActing (Code.Op op) = ⊥
IsActing (Code.Operand word) = ⊥
IsActing (Code.DefMacro name show) = ⊥
IsActing _ = ⊤

-- a code that acts by its rule
code_by : (work : Work) (c : Code) (rest : List Code) → IsActing c → Stage work (c ∷ rest) → StageBy (code_rule work c) rest
unfolding DomainFirst DomainNext
code_by work (Code.Op op) rest acting stage = absurd acting
code_by work (Code.Operand word) rest acting stage = absurd acting
code_by work (Code.DefMacro name show) rest acting stage = absurd acting
code_by work (Code.DefGlyph byte) rest acting stage =
    opens_stage work (Code.DefGlyph byte) rest (Entry.GlyphStart byte) (λ first. first) (λ next. next) stage
code_by work (Code.DefMask mask) rest acting stage =
    opens_stage work (Code.DefMask mask) rest (Entry.MaskStart mask) (λ first. first) (λ next. next) stage
code_by work Code.End rest acting stage = end_stage work rest stage
code_by work c rest acting stage = quiet_by work c rest (code_rule work c) tt (code_keeps work c tt) stage

pub code_stage : (work : Work) (c : Code) (rest : List Code) (d : RuleResult) → code_rule work c ≡ Ok d → IsActing c → Stage work (c ∷ rest) → Stage d.work rest
code_stage work c rest d by acting stage = subst (λ (r : Result RuleResult DrawFault). StageBy r rest) by (code_by work c rest acting stage)

-- The opcodes of a plain stream act under operands of eight words and four words.

-- the rules of plain streams for the codes to come
record Asks (work : Work) (list : List Code) : Type 0 where
  stage : Stage work list
  each : All IsPlainCode list
  follow : AllMayFollow list

-- the acting opcodes of these codes, each under operands of eight words and four words
record Known (acts : List Acting) (list : List Code) : Type 0 where
  all : map (λ a. a.op) acts ≡ opcodes_of list
  each : All ActsUnderEightAndFour acts

known_nothing : Known [] []
known_nothing = record { all = refl; each = All-nil ActsUnderEightAndFour }

-- the machine is between two codes, and no macro is bound
record IsBetween (m : Machine) : Type 0 where
  mode : m.mode ≡ between
  names : m.names ≡ no_names

between_after_drawing : (m : Machine) (d : RuleResult) → IsBetween m → IsBetween (after_drawing m d)
between_after_drawing m d is_between = grind arith

between_with_sets : (m : Machine) (sets : CodeSets) → IsBetween m → IsBetween (record m { sets = sets })
between_with_sets m sets is_between = record { mode = is_between.mode; names = is_between.names }

-- nothing is refused, so a front gives no refusal
abbrev Going : Machine → List Placed → StreamFront → Type 0
Going m xs f = (outcome_by_front outcome_from m xs f).refusal ≡ None

-- the statement for a list
abbrev Goes : ℕ → Machine → List Placed → Type 0
Goes fuel m xs = IsBetween m → (outcome_from m xs).refusal ≡ None → Asks m.work (lex_result m.sets (bytes_of xs)).codes →
    Known (acting_within fuel m xs) (lex_result m.sets (bytes_of xs)).codes

-- after a code

next_plain : (work w : Work) (c : Code) (rest : List Code) → (Stage work (c ∷ rest) → Stage w rest) → Asks work (c ∷ rest) → Asks w rest
unfolding AllMayFollow
next_plain work w c rest turn asks = record {
  stage = turn asks.stage;
  each = All-tail IsPlainCode c rest asks.each;
  follow = asks.follow.1;
}

nothing_lexed : (sets : CodeSets) → (lex_result sets []).codes ≡ []
nothing_lexed sets = rw (lex_result-front sets [], front-nothing sets [] refl) refl

-- after a run of operands

each_after : (words : List ℕ) (rest : List Code) → All IsPlainCode (operands_of words ++ rest) → All IsPlainCode rest
each_after [] rest each = each
each_after (word ∷ words) rest each = each_after words rest (All-tail IsPlainCode (Code.Operand word) (operands_of words ++ rest) each)

follow_after : (words : List ℕ) (rest : List Code) → AllMayFollow (operands_of words ++ rest) → AllMayFollow rest
unfolding AllMayFollow
follow_after [] rest follow = follow
follow_after (word ∷ words) rest follow = follow_after words rest follow.1

opcodes_after : (words : List ℕ) (rest : List Code) → opcodes_of (operands_of words ++ rest) ≡ opcodes_of rest
opcodes_after [] rest = refl
opcodes_after (word ∷ words) rest = opcodes_after words rest

-- an opcode

-- an opcode acts, and these act after it
known_opcode : (work : Work) (op : Opcode) (words : List ℕ) (rest : List Code) (acts : List Acting) → Stage work (Code.Op op ∷ operands_of words ++ rest) → Known acts rest →
    Known (record { op = op; lengths = work.domain } ∷ acts) (Code.Op op ∷ operands_of words ++ rest)
known_opcode work op words rest acts stage known = record {
  all = ap (λ (ops : List Opcode). op ∷ ops) (known.all ∙ sym (opcodes_after words rest));
  each = All-cons ActsUnderEightAndFour (record { op = op; lengths = work.domain }) acts
      (λ no_domain no_reset. lengths_are_current work op (operands_of words ++ rest) stage no_domain) known.each;
}

-- the statement for an opcode with these words after it, and for its front
abbrev OpcodeGoes : ℕ → Machine → Opcode → List Placed → List ℕ → List Placed → StreamFront → Type 0
OpcodeGoes fuel m op xs words rest f =
    let list : List Code = Code.Op op ∷ operands_of words ++ (lex_result m.sets (bytes_of rest)).codes in
    Going m xs f → Asks m.work list → Known (record { op = op; lengths = m.work.domain } ∷ acting_after (acting_within fuel) f) list

module _ (fuel : ℕ) (m : Machine) (op : Opcode) (place : ℕ) (xs : List Placed) (is_between : IsBetween m) where
  drawn_goes : (words : List ℕ) (rest : List Placed) (by : Result RuleResult DrawFault) → rule m.work op words ≡ by → ((w : Machine) → Goes fuel w rest) →
      OpcodeGoes fuel m op xs words rest (drawn_front m place rest by)
  unfolding AllMayFollow
  drawn_goes words rest (Err fault) e ih going asks = cc
  drawn_goes words rest (Ok d) e ih going asks =
      let list : List Code = (lex_result m.sets (bytes_of rest)).codes in
      let asked : Asks d.work list = record {
        stage = opcode_stage m.work op words list d e asks.stage asks.follow.0;
        each = each_after words list (All-tail IsPlainCode (Code.Op op) (operands_of words ++ list) asks.each);
        follow = follow_after words list asks.follow.1;
      } in
      known_opcode m.work op words list (acting_within fuel (after_drawing m d) rest) asks.stage (ih (after_drawing m d) (between_after_drawing m d is_between) going asked)

  closed_goes : (run rest : List Placed) → ((w : Machine) → Goes fuel w rest) → OpcodeGoes fuel m op xs (carried_words run) rest (closed_front m op place run rest)
  closed_goes run [] ih going asks =
      let none : (lex_result m.sets []).codes ≡ [] = nothing_lexed m.sets in
      subst (λ (list : List Code). Known (record { op = op; lengths = m.work.domain } ∷ []) (Code.Op op ∷ operands_of (carried_words run) ++ list)) (sym none)
      (known_opcode m.work op (carried_words run) [] []
      (subst (λ (list : List Code). Stage m.work (Code.Op op ∷ operands_of (carried_words run) ++ list)) none asks.stage) known_nothing)
  closed_goes run (y ∷ ys) ih going asks = drawn_goes (carried_words run) (y ∷ ys) (rule m.work op (carried_words run)) refl ih going asks

  run_goes : (run rest : List Placed) → ((w : Machine) → Goes fuel w rest) → OpcodeGoes fuel m op xs (carried_words run) rest (run_front m op place run rest)
  run_goes run rest ih = at (nat_lt run_limit (length run))
    where
      at : (long : Bool) → OpcodeGoes fuel m op xs (carried_words run) rest (cond long (course.refuse (refusal Fault.LongRun place)) (closed_front m op place run rest))
      at true going asks = cc
      at false going asks = closed_goes run rest ih going asks

opcode_goes : (fuel : ℕ) (m : Machine) (op : Opcode) (xs : List Placed) → IsBetween m → ((w : Machine) (ys : List Placed) → length ys < length xs → Goes fuel w ys) →
    front m.sets (bytes_of xs) ≡ complete (Code.Op op) 1 m.sets →
    Going m xs (front_by m xs (complete (Code.Op op) 1 m.sets)) → Asks m.work (Code.Op op ∷ (lex_result m.sets (bytes_of (drop 1 xs))).codes) →
    Known (record { op = op; lengths = m.work.domain } ∷ acting_after (acting_within fuel) (front_by m xs (complete (Code.Op op) 1 m.sets)))
    (Code.Op op ∷ (lex_result m.sets (bytes_of (drop 1 xs))).codes)
opcode_goes fuel m op [] is_between ih e going asks = absurd (omega (arith, (code_length m.sets [] (Code.Op op) 1 m.sets e).1))
opcode_goes fuel m op (x ∷ ys) is_between ih e going asks =
    let k : ℕ = run_length ys in
    let cut = run_codes m.sets ys (opcode_in_gl m.sets (bytes_of (x ∷ ys)) op 1 m.sets e) in
    let few : length (drop k ys) < length (x ∷ ys) = simp length-drop (omega arith) in
    subst (λ (list : List Code). Known (record { op = op; lengths = m.work.domain } ∷ acting_after (acting_within fuel) (opened_front m op x.place ys)) (Code.Op op ∷ list)) (sym cut)
    (run_goes fuel m op x.place (x ∷ ys) is_between (take k ys) (drop k ys) (λ w. ih w (drop k ys) few) going
    (subst (λ (list : List Code). Asks m.work (Code.Op op ∷ list)) cut asks))

-- a code that is no opcode

module _ (fuel : ℕ) (m : Machine) (xs : List Placed) (after : CodeSets) (ys : List Placed) (is_between : IsBetween m) (ih : (w : Machine) → Goes fuel w ys) where
  -- the codes after it
  abbrev later : List Code
  later = (lex_result after (bytes_of ys)).codes

  abbrev shifted : Machine
  shifted = record m { sets = after }

  abbrev CodeGoes : Code → StreamFront → Type 0
  CodeGoes c f = Going m xs f → Asks m.work (c ∷ later) → Known (acting_after (acting_within fuel) f) (c ∷ later)

  idle_goes : (c : Code) → IsQuiet c → opcodes_of (c ∷ later) ≡ opcodes_of later → CodeGoes c (course.act [] shifted ys)
  idle_goes c quiet same going asks =
      let known = ih shifted (between_with_sets m after is_between) going (next_plain m.work m.work c later (quiet_stage m.work m.work c later quiet refl refl refl) asks) in
      record { all = known.all ∙ sym same; each = known.each }

  acting_goes : (c : Code) (place : ℕ) (by : Result RuleResult DrawFault) → code_rule m.work c ≡ by → IsActing c → opcodes_of (c ∷ later) ≡ opcodes_of later →
      CodeGoes c (drawn_front shifted place ys by)
  acting_goes c place (Err fault) e acting same going asks = cc
  acting_goes c place (Ok d) e acting same going asks =
      let known = ih (after_drawing shifted d) (between_after_drawing shifted d (between_with_sets m after is_between)) going (next_plain m.work d.work c later (code_stage m.work c later d e acting) asks) in
      record { all = known.all ∙ sym same; each = known.each }

  -- the call of a macro that isn't bound
  call_goes : (name place : ℕ) (body : List ℕ) → body ≡ [] → CodeGoes (Code.Call name) (shown_front shifted place body ys)
  call_goes name place (b ∷ bs) is going asks = cc
  call_goes name place [] is going asks = at (nat_lt m.left 0) going
    where
      next : Machine
      next = after_charge shifted 0

      at : (less : Bool) → Going m xs (cond less (course.refuse (refusal Fault.Budget place)) (course.act [] next ys)) →
          Known (acting_after (acting_within fuel) (cond less (course.refuse (refusal Fault.Budget place)) (course.act [] next ys))) (Code.Call name ∷ later)
      at true going = cc
      at false going =
          let known = ih next (record { mode = is_between.mode; names = is_between.names }) going
          (next_plain m.work m.work (Code.Call name) later (quiet_stage m.work m.work (Code.Call name) later tt refl refl refl) asks) in
          record { all = known.all; each = known.each }

-- any code

empty_bodies : (n i : ℕ) → get_or (replicate {A = List ℕ} n []) i [] ≡ []
empty_bodies zero i = refl
empty_bodies (suc n) zero = refl
empty_bodies (suc n) (suc i) = empty_bodies n i

nothing_bound : (m : Machine) (name : ℕ) → IsBetween m → body_of m.names name ≡ []
nothing_bound m name is_between = ap (λ (names : List (List ℕ)). body_of names name) is_between.names ∙ empty_bodies 96 (name - 0x20)

bytes_of-drop : (n : ℕ) (xs : List Placed) → drop n (bytes_of xs) ≡ bytes_of (drop n xs)
bytes_of-drop zero xs = refl
bytes_of-drop (suc n) [] = refl
bytes_of-drop (suc n) (x ∷ xs) = bytes_of-drop n xs

module _ (fuel : ℕ) (m : Machine) (xs : List Placed) (is_between : IsBetween m) (ih : (w : Machine) (ys : List Placed) → length ys < length xs → Goes fuel w ys) where
  abbrev ByCode : Code → ℕ → CodeSets → Type 0
  ByCode c n after =
      Going m xs (front_by m xs (complete c n after)) → Asks m.work (c ∷ (lex_result after (bytes_of (drop n xs))).codes) →
      Known (acting_at m (complete c n after) ++ acting_after (acting_within fuel) (front_by m xs (complete c n after)))
      (c ∷ (lex_result after (bytes_of (drop n xs))).codes)

  by_code : (c : Code) (n : ℕ) (after : CodeSets) → front m.sets (bytes_of xs) ≡ complete c n after → length (drop n xs) < length xs → ByCode c n after
  by_code (Code.Op op) n after e less going asks =
      let one = one_byte_opcode m.sets (bytes_of xs) op n after e in
      let there : front m.sets (bytes_of xs) ≡ complete (Code.Op op) 1 m.sets = e ∙ rw (one.0, one.1) refl in
      subst (λ (k : ℕ). ByCode (Code.Op op) k after) (sym one.0)
      (subst (ByCode (Code.Op op) 1) (sym one.1) (opcode_goes fuel m op xs is_between ih there)) going asks
  by_code (Code.Operand word) n after e less going asks = cc
  by_code (Code.DefMacro name show) n after e less going asks = absurd (All-head IsPlainCode (Code.DefMacro name show) _ asks.each)
  by_code Code.Fill n after e less going asks = idle_goes fuel m xs after (drop n xs) is_between (λ w. ih w (drop n xs) less) Code.Fill tt refl going asks
  by_code Code.Shifted n after e less going asks = idle_goes fuel m xs after (drop n xs) is_between (λ w. ih w (drop n xs) less) Code.Shifted tt refl going asks
  by_code (Code.Designated number set) n after e less going asks =
      idle_goes fuel m xs after (drop n xs) is_between (λ w. ih w (drop n xs) less) (Code.Designated number set) tt refl going asks
  by_code (Code.Call name) n after e less going asks =
      call_goes fuel m xs after (drop n xs) is_between (λ w. ih w (drop n xs) less) name (place_at xs (n - 1)) (body_of m.names name) (nothing_bound m name is_between) going asks
  by_code c n after e less going asks =
      acting_goes fuel m xs after (drop n xs) is_between (λ w. ih w (drop n xs) less) c (place_at xs (n - 1)) (code_rule m.work c) refl tt refl going asks

  by_front : (f : Front) → front m.sets (bytes_of xs) ≡ f → Going m xs (front_by m xs f) → Asks m.work (lex_result_by lex_result m.sets (bytes_of xs) f).codes →
      Known (acting_at m f ++ acting_after (acting_within fuel) (front_by m xs f)) (lex_result_by lex_result m.sets (bytes_of xs) f).codes
  by_front unfinished e going asks = known_nothing
  by_front (refused fault i) e going asks = cc
  by_front (complete c n after) e going asks =
      let some = code_length m.sets (bytes_of xs) c n after e in
      let size : length (bytes_of xs) ≡ length xs = length-map xs _ in
      let less : length (drop n xs) < length xs = simp length-drop (omega (arith, some.0, some.1, size)) in
      let cut = ap (λ (bs : List ℕ). c ∷ (lex_result after bs).codes) (bytes_of-drop n xs) in
      subst (Known (acting_at m (complete c n after) ++ acting_after (acting_within fuel) (front_by m xs (complete c n after)))) (sym cut)
      (by_code c n after e less going (subst (Asks m.work) cut asks))

  -- the statement for the front, in this mode
  abbrev ByMode : Mode → Type 0
  ByMode mode = Going m xs (front_in mode m xs) →
      Known (acting_in mode m xs ++ acting_after (acting_within fuel) (front_in mode m xs)) (lex_result m.sets (bytes_of xs)).codes

  step : (outcome_from m xs).refusal ≡ None → Asks m.work (lex_result m.sets (bytes_of xs)).codes → Known (acting_within (suc fuel) m xs) (lex_result m.sets (bytes_of xs)).codes
  unfolding acting_within stream_front
  step going asks = grind (arith, lex_result-front, by_front, front_after_front)

goes : (fuel : ℕ) (m : Machine) (xs : List Placed) → length xs < fuel → Goes fuel m xs
goes zero m xs few is_between = absurd (omega (arith, few))
goes (suc fuel) m xs few is_between = step fuel m xs is_between (λ w ys less. goes fuel w ys (omega (arith, few, less)))

-- a stream

not_refused : (n : ℕ) (o : Outcome) (r : Option Refusal) → o.refusal ≡ r → (ended_by o n r).refusal ≡ None → o.refusal ≡ None
not_refused n o r h h2 = grind arith

pub plain_operand_lengths : PlainOperandLengths
plain_operand_lengths budget p plain accepted =
    let m : Machine = start_machine budget in
    let xs : List Placed = placed_from 0 p in
    let same = ap (λ (bs : List ℕ). (lex_result start_sets bs).codes) (bytes_of-placed 0 p) in
    let asks : Asks m.work (lex_result start_sets p).codes = record { stage = before refl plain.plain.first; each = plain.plain.each; follow = plain.plain.follow } in
    let going = not_refused (length p) (begun budget p) (begun budget p).refusal refl accepted in
    let known = goes (suc (length xs + steps_left m)) m xs (omega arith) (record { mode = refl; names = refl }) going (subst (Asks m.work) (sym same) asks) in
    record { all = known.all ∙ ap opcodes_of same; each = known.each }

-- The opcodes of short streams, computed.

abbrev short : OperandLengths
short = record { multi = 3; single = 1 }

abbrev long : OperandLengths
long = record { multi = 8; single = 4 }

without_domain : acting 0 (0x0E ∷ 0x3D ∷ 0x41 ∷ []) ≡ record { op = Opcode.Wait; lengths = short } ∷ []
unfolding acting_within placed_from stream.stream_front front row_of control0_rows control0_front after_control0 non_pdi_code gl_front opcode_rows pdi_front opcode_front left_out_opcode walk
without_domain = refl

reset_of_lengths : acting 0 (0x0E ∷ 0x21 ∷ 0x5F ∷ 0x3D ∷ 0x41 ∷ 0x20 ∷ 0x41 ∷ 0x40 ∷ 0x21 ∷ 0x5F ∷ 0x3D ∷ 0x41 ∷ [])
    ≡ record { op = Opcode.Domain; lengths = short } ∷ record { op = Opcode.Wait; lengths = long } ∷ record { op = Opcode.Reset; lengths = long }
    ∷ record { op = Opcode.Domain; lengths = short } ∷ record { op = Opcode.Wait; lengths = long } ∷ []
unfolding acting_within placed_from stream.stream_front front row_of control0_rows control0_front after_control0 non_pdi_code gl_front opcode_rows pdi_front opcode_front left_out_opcode walk
reset_of_lengths = refl

-- A body acts where it is called, and not where it is defined.
called_body : acting 3 (0x1B ∷ 0x40 ∷ 0x21 ∷ 0x0E ∷ 0x3D ∷ 0x41 ∷ 0x1B ∷ 0x45 ∷ 0x1B ∷ 0x2F ∷ 0x7A ∷ 0x1D ∷ 0x21 ∷ [])
    ≡ record { op = Opcode.Wait; lengths = short } ∷ []
unfolding acting_within placed_from stream.stream_front body_front front one_byte_later last_byte row_of set_rows number_rows designation control0_rows control1_rows control0_front more_front escape_front control1_front argument_of argument_front with_argument sequence_front designation_front final_front designated_front with_set single_shift_front shifted_front after_control0 non_pdi_code gl_front opcode_rows pdi_front opcode_front left_out_opcode walk
called_body = refl

-- A body acts once where it is shown.
shown_body : acting 5 (0x1B ∷ 0x41 ∷ 0x21 ∷ 0x0E ∷ 0x3D ∷ 0x41 ∷ 0x1B ∷ 0x45 ∷ []) ≡ record { op = Opcode.Wait; lengths = short } ∷ []
unfolding acting_within placed_from stream.stream_front body_front front one_byte_later last_byte row_of control0_rows control1_rows control0_front more_front escape_front control1_front argument_of argument_front with_argument after_control0 non_pdi_code gl_front opcode_rows pdi_front opcode_front left_out_opcode walk
shown_body = refl
