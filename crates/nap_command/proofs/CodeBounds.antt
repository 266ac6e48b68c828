use Rattle.nap_command.proofs.{Bool, CodeSets, Colour, DrawFault, EntriesAreBounded, Entry, Err, Fault, List, Machine, None, Ok, Opcode, Option, Pen, Refusal, Result, RuleResult, Some, State, TextIsBounded, Two, Work, [], after, and_parts, ap, arith, attributes, begun, colour_prelude, command_piece, control0_rows, control1_rows, drop, ended_by, entry_pieces, false, if◌then◌else◌, kind_of, length, length-append, length-drop, length-map, length-take-le, look_is_current, ltb-false, map, means, nat_lt, nat_tests, non_pdi_code, pel_prelude, pen_prelude, pieces, placed_from, prelude, refl, refusal, repeated_chars, row_of, rule, rule_result, spelling_pieces, start, start_machine, stream_front, subst, suc, take, take-append-drop, text_end_after_header, texture_prelude, true, walk, with_attributes, zero, ℕ, ◌&&◌, ◌*◌, ◌++◌, ◌+◌, ◌-◌, ◌==◌, ◌∷◌, ◌≡◌, ◌≤◌}
use Rattle.nap_codes.specs.declared.control.Row.TheVariants.{Whole}
use Rattle.nap_command.proofs.RunBounds.{Adds, char_few, cost, cost_append, entries_few, pieces_few, prelude_few, rule_adds}
use Rattle.nap_codes.specs.Front as front
use Rattle.nap_reader.specs.Bodies as bodies
use Rattle.nap_reader.specs.Course as course
use Rattle.nap_canon.specs.Equality.{same_colour, same_pen}
use Rattle.nap_canon.specs.Names.{Code, CodeSet, LastChar, Mode, OpenDefinition, Outcome, Placed, Row, StreamFront, Unfinished, between, body_of, bytes_of, carried_words, char_on, closed_front, code_rule, drawn_front, front_by, front_in, in_body, open_run, opened_front, place_at, run_length, run_limit, shown_front, steps_left, with_definition, with_drawn, with_end, with_last, with_run, with_run_by}
use Rattle.nap_codes.proofs.PublicLaws.{code_is_spelled, code_length}
use Rattle.nap_codes.specs.Spelling.{Spells, control0, control1, in_gl, repeat, single_shift2, single_shift3}
use Rattle.nap_reader.specs.Shared.{after_body, all_at, body_front, body_front_by, bound_front, code_front, half_code, half_read, open_body, store_limit, with_code}

-- How many entries a character or a control adds, and how long their canonical text is.

length-all_at : (place : ℕ) (bytes : List ℕ) → length (all_at place bytes) ≡ length bytes
length-all_at place bytes = length-map bytes _

length-placed : (n : ℕ) (bytes : List ℕ) → length (placed_from n bytes) ≡ length bytes
unfolding placed_from
length-placed n [] = refl
length-placed n (b ∷ bytes) = ap suc (length-placed (suc n) bytes)

-- The entries es take some of the bytes that are left, and of what may be charged; the others are counted again.
record Takes (before after : ℕ) (es : List Entry) : Type 0 where
  count : length es + 21 * after ≤ 21 * before
  size : (t : State) → cost (pieces Two t es) + 190 * after ≤ 190 * before

-- n bytes add these entries
abbrev Bounded : ℕ → List Entry → Type 0
Bounded n es = Takes n 0 es

abbrev AddsFor : ℕ → Result RuleResult DrawFault → Type 0
AddsFor n (Ok drawn) = Bounded n drawn.entries
AddsFor n (Err fault) = Unit {0}

few_for : (n w : ℕ) (r : Result RuleResult DrawFault) → Adds w r → w ≤ 190 * n → AddsFor n r
few_for n w (Ok drawn) few h = record { count = omega (arith, few, h); size = λ t. omega (arith, entries_few t drawn.entries, few, h) }
few_for n w (Err fault) few h = tt

-- copies of a character: only the first has a prelude

pen_same : (a : Pen) → same_pen a a ≡ true
pen_same a = grind (arith, nat_tests)

colour_same : (a : Colour) → same_colour a a ≡ true
colour_same a = grind (arith, nat_tests)

no_pieces : (t : State) → cost (pieces Two t []) ≡ 0
unfolding pieces
no_pieces t = refl

-- the attributes of text are those of another state
record SameHand (t s : State) : Type 0 where
  pen : t.drawing.pen ≡ s.drawing.pen
  colour : t.drawing.colour ≡ s.drawing.colour
  text : t.drawing.text ≡ s.drawing.text

no_prelude : (t s : State) (last : LastChar) → SameHand t s → prelude t.drawing (attributes (char_on s.drawing last)) ≡ []
unfolding prelude pen_prelude pel_prelude colour_prelude texture_prelude
no_prelude t s last is = rw (is.pen, is.colour, is.text, pen_same s.drawing.pen, colour_same s.drawing.colour, look_is_current s.drawing.text (Some s.drawing.text) refl) refl

-- one more copy, whose prelude costs k
copy_more : (k m : ℕ) (t s : State) (last : LastChar) (es : List Entry) → let e = char_on s.drawing last in
    cost (map command_piece (prelude t.drawing (attributes e))) ≤ k → cost (pieces Two (after t e) es) ≤ m → cost (pieces Two t (e ∷ es)) ≤ k + 8 + m
unfolding pieces
copy_more k m t s last es first rest =
    let e = char_on s.drawing last in
    let before = map command_piece (prelude t.drawing (attributes e)) in
    omega (arith, cost_append (entry_pieces Two t e) (pieces Two (after t e) es), cost_append before (spelling_pieces Two (with_attributes t.drawing (attributes e)) e), first, char_few last.set last.code, rest)

further_few : (t s : State) (last : LastChar) (n : ℕ) → SameHand t s → cost (pieces Two t (repeated_chars s last n)) ≤ 8 * n
unfolding repeated_chars
further_few t s last zero is = omega (arith, no_pieces t)
further_few t s last (suc n) is =
    let e = char_on s.drawing last in
    omega (arith, copy_more 0 (8 * n) t s last _ (rw (no_prelude t s last is) (omega arith)) (further_few (after t e) (after s e) last n (record { pen = refl; colour = refl; text = refl })))

copies_few : (t s : State) (last : LastChar) (n : ℕ) → cost (pieces Two t (repeated_chars s last n)) ≤ 66 + 8 * n
unfolding repeated_chars
copies_few t s last zero = omega (arith, no_pieces t)
copies_few t s last (suc n) =
    let e = char_on s.drawing last in
    omega (arith, copy_more 66 (8 * n) t s last _ (prelude_few t.drawing (attributes e)) (further_few (after t e) (after s e) last n (record { pen = refl; colour = refl; text = refl })))

copies_length : (s : State) (last : LastChar) (n : ℕ) → length (repeated_chars s last n) ≡ n
unfolding repeated_chars
copies_length s last zero = refl
copies_length s last (suc n) = ap suc (copies_length (after s (char_on s.drawing last)) last n)

-- a REPEAT has three bytes, and at most 63 copies; another code has at least one
abbrev FitsIn : Code → ℕ → Type 0
FitsIn (Code.Repeat count) n = (count ≤ 63) × (3 ≤ n)
FitsIn _ n = 1 ≤ n

copied : (n : ℕ) (work : Work) (count : ℕ) (last : Option LastChar) → count ≤ 63 → 3 ≤ n → AddsFor n (with_last last (λ last. Ok (rule_result work (repeated_chars work.state last count))))
copied n work count None few long = tt
copied n work count (Some last) few long = record {
  count = omega (arith, copies_length work.state last count, few, long);
  size = λ t. omega (arith, copies_few t work.state last count, few, long);
}

code_for : (n : ℕ) (work : Work) (code : Code) → FitsIn code n → AddsFor n (code_rule work code)
code_for n work (Code.Repeat count) fits = copied n work count work.state.last fits.0 fits.1
code_for n work code some = few_for n 180 (code_rule work code) (grind arith) (omega (arith, some))

-- no row of a table is a REPEAT, which has an argument

abbrev is_short : Row → Bool
is_short (Whole (Code.Repeat count)) = false
is_short _ = true

abbrev all_short : List (ℕ × Row) → Bool
all_short [] = true
all_short (row ∷ rows) = is_short row.1 && all_short rows

row_short : (rows : List (ℕ × Row)) (byte : ℕ) (row : Row) → all_short rows ≡ true → row_of rows byte ≡ Some row → is_short row ≡ true
unfolding row_of
row_short [] byte row all is = cc
row_short (r ∷ rows) byte row all is =
    let both = and_parts (is_short r.1) (all_short rows) all in
    (elim (byte == r.0) as (λ b. (if b then Some r.1 else row_of rows byte) ≡ Some row → is_short row ≡ true) [
      | true ↦ λ e. let same : r.1 ≡ row = cc in rw same at both.0
      | false ↦ row_short rows byte row both.1
    ]) is

short_fits : (code : Code) → is_short (Whole code) ≡ true → (n : ℕ) → 1 ≤ n → FitsIn code n
short_fits (Code.Repeat count) is n some = cc
short_fits _ is n some = some

rows0_short : all_short control0_rows ≡ true
unfolding control0_rows
rows0_short = refl

rows1_short : all_short control1_rows ≡ true
unfolding control1_rows
rows1_short = refl

same_fits : (a b : Code) (n : ℕ) → Some a ≡ Some b → FitsIn a n → FitsIn b n
same_fits a b n is fits = let e : a ≡ b = cc in rw e at fits

set_fits : (set : CodeSet) (byte : ℕ) (code : Code) (n : ℕ) → non_pdi_code set byte ≡ Some code → 1 ≤ n → FitsIn code n
unfolding non_pdi_code
set_fits CodeSet.Pdi byte code n is some = cc
set_fits _ byte code n is some = same_fits _ code n is some

-- a code fits in the bytes that spell it
spelled_fits : (sets : CodeSets) (bytes : List ℕ) (code : Code) (after : CodeSets) → Spells sets bytes code after → FitsIn code (length bytes)
spelled_fits sets _ code _ (control0 is other) = short_fits code (row_short control0_rows _ (Whole code) rows0_short is) 1 (omega arith)
spelled_fits sets _ code _ (control1 is) = short_fits code (row_short control1_rows _ (Whole code) rows1_short is) 2 (omega arith)
spelled_fits sets _ _ _ (repeat least most) = (omega (arith, least, most), omega arith)
spelled_fits sets _ code _ (in_gl graphic is) = set_fits _ _ code 1 is (omega arith)
spelled_fits sets _ code _ (single_shift2 graphic is) = set_fits _ _ code 2 is (omega arith)
spelled_fits sets _ code _ (single_shift3 graphic is) = set_fits _ _ code 2 is (omega arith)
spelled_fits sets _ _ _ _ = omega arith

code_adds : (work : Work) (sets : CodeSets) (xs : List ℕ) (code : Code) (n : ℕ) (after : CodeSets) → front.front sets xs ≡ front.complete code n after → AddsFor n (code_rule work code)
code_adds work sets xs code n after is =
    let (within, spelled) = (code_is_spelled sets xs code n after).0 is in
    code_for n work code (subst (FitsIn code) (length-take-le n xs within) (spelled_fits sets (take n xs) code after spelled))

-- How many entries a page has, and how long its canonical text is.

-- an open run has fewer words than its bytes
abbrev IsPending : Option Unfinished → ℕ → Type 0
IsPending (Some (open_run op place run)) n = suc (length run) ≤ n
IsPending _ n = Unit {0}

abbrev IsFew : ℕ → ℕ → StreamFront → Type 0
IsFew bytes left (course.pause u) = IsPending (Some u) bytes
IsFew bytes left (course.refuse r) = Unit {0}
IsFew bytes left (course.act es m ys) = Takes (bytes + left) (length ys + m.left) es

takes_none : {before after : ℕ} → after ≤ before → Takes before after []
takes_none fewer = record { count = omega (arith, fewer); size = λ t. omega (arith, fewer, no_pieces t) }

takes_some : {before after n : ℕ} {es : List Entry} → Bounded n es → n + after ≤ before → Takes before after es
takes_some few parts = record { count = omega (arith, few.count, parts); size = λ t. omega (arith, few.size t, parts) }

-- a code drew, and took some bytes before the rest
drawn_few : (bytes taken : ℕ) (m : Machine) (place : ℕ) (rest : List Placed) (r : Result RuleResult DrawFault) → AddsFor taken r → taken + length rest ≤ bytes → IsFew bytes m.left (drawn_front m place rest r)
drawn_few bytes taken m place rest (Ok drawn) few parts = takes_some few (omega (arith, parts))
drawn_few bytes taken m place rest (Err fault) few parts = tt

-- the bytes of a body were charged
shown_few : (bytes : ℕ) (m : Machine) (place : ℕ) (body : List ℕ) (rest : List Placed) → length rest ≤ bytes → IsFew bytes m.left (shown_front m place body rest)
shown_few bytes m place body rest fewer = by (nat_lt m.left (length body)) refl
  where
    by : (b : Bool) → nat_lt m.left (length body) ≡ b → IsFew bytes m.left (if b then course.refuse (refusal Fault.Budget place) else course.act [] (record m { left = m.left - length body }) (all_at place body ++ rest))
    by true is = tt
    by false is =
        takes_none (omega (arith, ltb-false m.left (length body) is, fewer, length-append (all_at place body) rest, length-all_at place body))

closed_few : (bytes taken : ℕ) (m : Machine) (op : Opcode) (place : ℕ) (run rest : List Placed) → 1 ≤ taken → taken + (length run + length rest) ≤ bytes → IsFew bytes m.left (closed_front m op place run rest)
closed_few bytes taken m op place run [] some parts = omega (arith, some, parts, length-map run (λ x. x.byte - 64))
closed_few bytes taken m op place run (x ∷ xs) some parts =
    drawn_few bytes (taken + length run) m place (x ∷ xs) _
    (few_for _ _ _ (rule_adds m.work (carried_words run) op) (omega (arith, some, length-map run (λ x. x.byte - 64)))) (omega (arith, parts))

opcode_few : (bytes taken : ℕ) (m : Machine) (op : Opcode) (place : ℕ) (xs : List Placed) → 1 ≤ taken → taken + length xs ≤ bytes → IsFew bytes m.left (opened_front m op place xs)
opcode_few bytes taken m op place xs some parts =
    let run = take (run_length xs) xs in
    let rest = drop (run_length xs) xs in
    elim (nat_lt run_limit (length run)) as (λ b. IsFew bytes m.left (if b then course.refuse (refusal Fault.LongRun place) else closed_front m op place run rest)) [
      | true ↦ tt
      | false ↦ closed_few bytes taken m op place run rest some (omega (arith, parts, ap length (take-append-drop (run_length xs) xs), length-append run rest))
    ]

-- a code of n bytes, with the rest after it
code_few : (bytes n : ℕ) (m : Machine) (c : Code) (place : ℕ) (rest : List Placed) → 1 ≤ n → n + length rest ≤ bytes → AddsFor n (code_rule m.work c) → IsFew bytes m.left (code_front m (kind_of c) place rest)
code_few bytes n m (Code.Op op) place rest some parts adds = opcode_few bytes n m op place rest some parts
code_few bytes n m (Code.Operand word) place rest some parts adds = tt
code_few bytes n m Code.Fill place rest some parts adds = takes_none (omega (arith, parts))
code_few bytes n m Code.Shifted place rest some parts adds = takes_none (omega (arith, parts))
code_few bytes n m (Code.Designated number set) place rest some parts adds = takes_none (omega (arith, parts))
code_few bytes n m (Code.Call name) place rest some parts adds = shown_few bytes m place (body_of m.names name) rest (omega (arith, parts))
code_few bytes n m (Code.DefMacro name show) place rest some parts adds = drawn_few bytes n (record m { mode = in_body name show }) place rest (code_rule m.work (Code.DefMacro name show)) adds parts
code_few bytes n m c place rest some parts adds = drawn_few bytes n m place rest (code_rule m.work c) adds parts

half_few : (n : ℕ) (bytes : List ℕ) → IsPending (Some (half_read bytes)) n
half_few n [] = tt
half_few n (b ∷ bytes) = tt

between_few : (m : Machine) (xs : List Placed) (c : front.Front) → front.front m.sets (bytes_of xs) ≡ c → IsFew (length xs) m.left (front_by m xs c)
between_few m xs front.unfinished is = half_few (length xs) (bytes_of xs)
between_few m xs (front.refused fault i) is = tt
between_few m xs (front.complete c n sets) is =
    let (some, within) = code_length m.sets (bytes_of xs) c n sets is in
    code_few (length xs) n (record m { sets = sets }) c (place_at xs (n - 1)) (drop n xs) some
    (omega (arith, within, length-map xs (λ x. x.byte), length-drop n xs))
    (code_adds m.work m.sets (bytes_of xs) c n sets is)

bound_few : (m : Machine) (name : ℕ) (show : Bool) (n : ℕ) (xs : List Placed) → IsFew (length xs) m.left (bound_front m name show n xs)
bound_few m name false n xs = takes_none (omega (arith, length-drop n xs))
bound_few m name true n xs = shown_few (length xs) (after_body m name (take n (bytes_of xs))) (place_at xs (n + 1)) (take (n + 2) (bytes_of xs)) (drop (n + 2) xs) (omega (arith, length-drop (n + 2) xs))

body_few : (m : Machine) (name : ℕ) (show : Bool) (xs : List Placed) (b : bodies.BodyFront) → IsFew (length xs) m.left (body_front_by m name show xs b)
body_few m name show xs (bodies.ended n) = bound_few m name show n xs
body_few m name show xs _ = tt

mode_few : (mode : Mode) (m : Machine) (xs : List Placed) → IsFew (length xs) m.left (front_in mode m xs)
mode_few between m xs = between_few m xs (front.front m.sets (bytes_of xs)) refl
mode_few (in_body name show) m xs = body_few m name show xs (body_front (store_limit - m.stored) (bytes_of xs))

front_few : (m : Machine) (xs : List Placed) → IsFew (length xs) m.left (stream_front m xs)
unfolding stream_front
front_few m xs = mode_few m.mode m xs

-- entries of an outcome, with what is left of the input and of the budget
record Bounds (before : ℕ) (o : Outcome) : Type 0 where
  takes : Takes before (length o.rest + o.machine.left) o.entries
  pending : IsPending o.unfinished (length o.rest)

joined_cost : (t : State) (es fs : List Entry) → cost (pieces Two t (es ++ fs)) ≡ cost (pieces Two t es) + cost (pieces Two (walk t es) fs)
unfolding pieces walk
joined_cost t [] fs = omega arith
joined_cost t (e ∷ es) fs =
    omega (
      arith,
      cost_append (entry_pieces Two t e) (pieces Two (after t e) (es ++ fs)),
      cost_append (entry_pieces Two t e) (pieces Two (after t e) es),
      joined_cost (after t e) es fs,
    )

takes_both : {m n k : ℕ} {es fs : List Entry} → Takes m n es → Takes n k fs → Takes m k (es ++ fs)
takes_both {es = es} {fs} first further = record {
  count = omega (arith, length-append es fs, first.count, further.count);
  size = λ t. omega (arith, joined_cost t es fs, first.size t, further.size (walk t es));
}

within_few : (fuel : ℕ) (m : Machine) (xs : List Placed) → Bounds (length xs + m.left) (course.outcome_within stream_front fuel m xs)
unfolding course.outcome_within
within_few zero m xs = record { takes = takes_none (omega arith); pending = tt }
within_few (suc fuel) m xs = by (stream_front m xs) (front_few m xs) (within_few fuel)
  where
    by : (f : StreamFront) → IsFew (length xs) m.left f → ((m : Machine) (xs : List Placed) → Bounds (length xs + m.left) (course.outcome_within stream_front fuel m xs)) →
        Bounds (length xs + m.left) (course.outcome_by_front (course.outcome_within stream_front fuel) m xs f)
    by (course.pause u) h next = record { takes = takes_none (omega arith); pending = h }
    by (course.refuse r) h next = record { takes = takes_none (omega arith); pending = tt }
    by (course.act es k ys) h next =
        let further = next k ys in
        record { takes = takes_both h further.takes; pending = further.pending }

begun_few : (budget : ℕ) (p : List ℕ) → Bounds (length p + budget) (begun budget p)
unfolding course.outcome
begun_few budget p =
    let h = within_few (suc (length (placed_from 0 p) + steps_left (start_machine budget))) (start_machine budget) (placed_from 0 p) in
    subst (λ n. Bounds (n + budget) (begun budget p)) (length-placed 0 p) h

-- the end adds the entries of an open run alone

module _ {n : ℕ} (place : ℕ) (o : Outcome) (h : Bounded n o.entries) where
  definition_within : (opened : Option OpenDefinition) → Bounded n (with_definition o place opened).entries
  definition_within None = h
  definition_within (Some opened) = h

  code_within : (u : Option Unfinished) → Bounded n (with_code o place u).entries
  code_within (Some (half_code bytes)) = h
  code_within (Some open_body) = h
  code_within _ = definition_within o.machine.work.state.definition

  end_within : (r : Option Refusal) → Bounded n (with_end o place r).entries
  end_within (Some r) = h
  end_within None = code_within o.unfinished

-- entries are bounded without what is left
whole : {n after : ℕ} {es : List Entry} → Takes n after es → Bounded n es
whole h = record { count = omega (arith, h.count); size = λ t. omega (arith, h.size t) }

run_within : {n : ℕ} (o : Outcome) (u : Option Unfinished) → Takes n (length o.rest + o.machine.left) o.entries → IsPending u (length o.rest) → Bounded n (with_run_by o u).entries
run_within {n} o (Some (open_run op place run)) h few = by (rule o.machine.work op run) (few_for (suc (length run)) _ _ (rule_adds o.machine.work run op) (omega arith))
  where
    by : (r : Result RuleResult DrawFault) → AddsFor (suc (length run)) r → Bounded n (with_drawn o place r).entries
    by (Ok drawn) adds = takes_both h (takes_some adds (omega (arith, few)))
    by (Err fault) adds = whole h
run_within o _ h few = whole h

ended_within : {n : ℕ} (place : ℕ) (o : Outcome) (r : Option Refusal) → Bounds n o → Bounded n (ended_by o place r).entries
ended_within place o (Some r) h = whole h.takes
ended_within place o None h = end_within place (with_run o) (run_within o o.unfinished h.takes h.pending) (with_run o).refusal

means_few : (budget : ℕ) (p : List ℕ) → Bounded (length p + budget) (means budget p).entries
means_few budget p = ended_within (length p) (begun budget p) (begun budget p).refusal (begun_few budget p)

pub entries_are_bounded : EntriesAreBounded
entries_are_bounded budget p = omega (arith, (means_few budget p).count)

pub text_is_bounded : TextIsBounded
text_is_bounded budget p =
    let es = (means budget p).entries in
    omega (arith, (means_few budget p).size start, pieces_few text_end_after_header (pieces Two start es))
