use Rattle.nap_draw.proofs.{Bool, Common.Fits, Common.operands, Components, Coordinates, Definition, Displacement, DrawFault, Drawing, Entry, EqualCurrent, Err, IfErr, IfOk, InMode, List, ManyColours, ManyPoints, MapColour, MayCome, Missing, None, Ok, Opcode, OpenDefinition, OperandLengths, Option, Outcome, Outside, Pen, Result, RuleResult, ShapeKind, ShapeStart, Some, State, Trail, Walks.blink_stays, Walks.left_by, Walks.wait_stays, Walks.walk_stays, WellMade, Work, [], absolute_spans, after, and_then, ap, arc_points, area_of, area_part, arith, at_least_one, at_most_limit, attributes, blink, blink_rule, blinks, circle_closed, colour_of, cond, cons_if_all, definition_ended, definition_ended_by, definition_start, displaced_point, displaced_points, domain_in, domain_rule, draw_cause, drop, entries_result, entry_result, eqb, false, first_and_more, from_pen, is_known, is_some, known_after_reset, last_or, length, length-drop, ltb, map, map_rule, min, moves, moves_of, multi_of, nat_tests, operand_words, option_and_then, option_map, outline, pair_spans, pen_point, pen_result, point_at, points_at, points_limit, points_reached, poly_points, rect_chain_spans, rect_on, refl, reset, reset_rule, rule, rule_result, set_color_rule, set_color_under, shape_end, shape_from, shape_on, shape_result, slice_get, slice_index, span, start_domain, start_size, steps_limit, stream, subst, suc, sym, take, take_all, trail_result, true, unwrap_or, walk, with_drawing, with_known_colour, with_operands, with_pen, with_pen_at, with_pen_moved, ℕ, ◌%◌, ◌++◌, ◌+◌, ◌-◌, ◌/◌, ◌<◌, ◌∙◌, ◌∷◌, ◌≡◌, ◌≢◌, ◌≤◌}
use Rattle.nap_draw.proofs.Runs.{carried_length, carried_rest, mapped_some, more_of, moves_turn, one_at_most, operands-first, operands_none, run_some, words_prefix}

-- Other forms of the results of rules.

-- The points of arcs and polygons, and the rules that draw them.

-- a list that isn't missing has all its parts
pub cons_if_all_some : {A : Type 0} (x : Option A) (next : A → Option (List A)) (l : List A) → cons_if_all x next ≡ Some l → (y : A) × (ys : List A) × (next y ≡ Some ys) × (l ≡ y ∷ ys)
cons_if_all_some x next l h = grind arith

pub reached_length : (p : Coordinates) (ms : List Displacement) (qs : List Coordinates) → points_reached p ms ≡ Some qs → length qs ≡ length ms
unfolding points_reached
reached_length p [] qs is = let e : [] ≡ qs = cc in sym (ap length e)
reached_length p (m ∷ ms) qs is =
    let all = cons_if_all_some (displaced_point p m) (λ q. points_reached q ms) qs is in
    ap length all.3 ∙ ap suc (reached_length all.0 ms all.1 all.2)

pub poly_made : (p : Coordinates) (ms : List Displacement) (ps : List Coordinates) → 0 < length ms → length ms ≤ steps_limit → poly_points p ms ≡ Some ps →
    (2 ≤ length ps) × (length ps ≤ points_limit)
poly_made p ms ps some few is = grind (arith, mapped_some, reached_length)

pub round_length : (p : Coordinates) (qs : List Coordinates) → 0 < length qs → length qs ≤ steps_limit → (3 ≤ length (circle_closed (p ∷ qs))) × (length (circle_closed (p ∷ qs)) ≤ points_limit)
round_length p qs h h2 = grind arith

pub arc_made : (p : Coordinates) (ms : List Displacement) (ps : List Coordinates) → 0 < length ms → length ms ≤ steps_limit → arc_points p ms ≡ Some ps →
    (3 ≤ length ps) × (length ps ≤ points_limit)
arc_made p ms ps some few is = grind (arith, mapped_some, reached_length, round_length)

pub holds_shape : (kind : ShapeKind) (filled : Bool) (d : Drawing) (ps : List Coordinates) → EqualCurrent (attributes (shape_on kind filled d ps)) d
holds_shape kind filled d ps = grind arith

-- a shape through these points is well made
pub shape_made : (kind : ShapeKind) (filled : Bool) (d : Drawing) (p : Coordinates) (ps : List Coordinates) → 0 < length ps → length ps ≤ steps_limit →
    WellMade (shape_on kind filled d (outline kind (p ∷ ps)))
shape_made kind filled d p ps h h2 = grind (arith, round_length)

pub shape_comes : (kind : ShapeKind) (filled : Bool) (d : Drawing) (ps : List Coordinates) (t : State) → MayCome t (shape_on kind filled d ps)
shape_comes kind filled d ps t = grind arith

-- some points have a last one
last_is : (p : Coordinates) (ps : List Coordinates) → (q : Coordinates) × (slice_get (p ∷ ps) (length ps) ≡ Some q)
last_is p [] = (p, refl)
last_is p (q ∷ qs) = last_is q qs

last_there : (p : Coordinates) (ps : List Coordinates) (d : Drawing) (q : Coordinates) →
    with_pen_at (slice_get (p ∷ ps) (length (p ∷ ps) - 1)) d ≡ with_pen (Pen.At (unwrap_or (slice_get (p ∷ ps) (length (p ∷ ps) - 1)) q)) d
last_there p ps d q =
    let n : suc (length ps) - 1 ≡ length ps = omega arith in
    let is = ap (slice_get (p ∷ ps)) n ∙ (last_is p ps).1 in
    rw is refl

-- the state after a shape through these points
pub shape_leaves : (kind : ShapeKind) (filled : Bool) (s : State) (p : Coordinates) (ps : List Coordinates) → InMode s.drawing →
    after s (shape_on kind filled s.drawing (outline kind (p ∷ ps))) ≡ with_pen_moved s (Pen.At (shape_end kind p (outline kind (p ∷ ps))))
shape_leaves ShapeKind.Arc filled s p ps mode =
    left_by s (shape_on ShapeKind.Arc filled s.drawing (circle_closed (p ∷ ps))) (holds_shape ShapeKind.Arc filled s.drawing (circle_closed (p ∷ ps))) mode ∙ ap (λ (d : Drawing). record s { drawing = d; last = None }) (round_there p ps)
  where
    round_there : (p : Coordinates) (ps : List Coordinates) →
        with_pen_at (slice_get (circle_closed (p ∷ ps)) (length (circle_closed (p ∷ ps)) - 1)) s.drawing ≡ with_pen (Pen.At (shape_end ShapeKind.Arc p (circle_closed (p ∷ ps)))) s.drawing
    round_there p [] = last_there p [] s.drawing p
    round_there p (q ∷ []) = last_there p (q ∷ p ∷ []) s.drawing p
    round_there p (q ∷ r ∷ rs) = last_there p (q ∷ r ∷ rs) s.drawing p
shape_leaves ShapeKind.Poly filled s p ps mode = left_by s (shape_on ShapeKind.Poly filled s.drawing (p ∷ ps)) (holds_shape ShapeKind.Poly filled s.drawing (p ∷ ps)) mode

few_ok : (ms : List Displacement) → length ms ≤ steps_limit → at_most_limit ms ≡ Ok ms
few_ok ms few = let test : ltb steps_limit (length ms) ≡ false = grind (arith, nat_tests) in rw test refl

few_not : (ms : List Displacement) → steps_limit < length ms → at_most_limit ms ≡ Err ManyPoints
few_not ms many = let test : ltb steps_limit (length ms) ≡ true = grind (arith, nat_tests) in rw test refl

-- the points of a shape, by those after the first

pub outlined : (kind : ShapeKind) (p : Coordinates) (ms : List Displacement) → displaced_points kind p ms ≡ option_map (λ qs. outline kind (p ∷ qs)) (points_reached p ms)
outlined kind p ms = grind arith

-- the rules of a shape, after their checks

module _ (work : Work) (kind : ShapeKind) (filled : Bool) where
  abbrev on : Drawing → List Coordinates → Entry
  on = shape_on kind filled

  abbrev by_pen : List Displacement → Outcome
  by_pen ms = and_then (pen_point work.state.drawing.pen) (λ p. entry_result work on (displaced_points kind p ms))

  abbrev checked : List Displacement → Outcome
  checked xs = and_then (at_least_one xs) (λ ms. and_then (at_most_limit ms) by_pen)

  pub pen_none : (ms : List Displacement) → length ms ≡ 0 → checked ms ≡ Err Missing
  pen_none ms h = grind arith

  pub pen_many : (ms : List Displacement) → steps_limit < length ms → checked ms ≡ Err ManyPoints
  pen_many ms h = grind (arith, few_not)

  pen_few : (ms : List Displacement) → 0 < length ms → length ms ≤ steps_limit → checked ms ≡ by_pen ms
  pen_few ms h h2 = grind (arith, few_ok)

  pub pen_lost : (ms : List Displacement) (fault : DrawFault) → 0 < length ms → length ms ≤ steps_limit → Err fault ≡ pen_point work.state.drawing.pen → checked ms ≡ Err fault
  pen_lost ms fault some few is = pen_few ms some few ∙ ap (λ r. and_then r (λ p. entry_result work on (displaced_points kind p ms))) (sym is)

  pub pen_goes : (ms : List Displacement) (p : Coordinates) → 0 < length ms → length ms ≤ steps_limit → Ok p ≡ pen_point work.state.drawing.pen → checked ms ≡ shape_result work kind filled p (points_reached p ms)
  pen_goes ms p some few is = grind (arith, pen_few, outlined)

  -- the rules of a shape from the point of its first operand, which is cut off the run

  abbrev from_first : Displacement → List Displacement → Outcome
  from_first m ms = entry_result work on (option_and_then (λ p. displaced_points kind p ms) (point_at m))

  abbrev rest_checked : List Displacement → Outcome
  rest_checked xs = and_then (first_and_more xs) (λ (m, ms). and_then (at_most_limit ms) (from_first m))

  few_first : (xs ms : List Displacement) (m : Displacement) → xs ≡ m ∷ ms → 0 < length ms → rest_checked xs ≡ and_then (at_most_limit ms) (from_first m)
  few_first xs ms m h h2 = grind arith

  none_first : (xs : List Displacement) → length xs ≤ 1 → rest_checked xs ≡ Err Missing
  none_first xs h = grind arith

  module _ (n : ℕ) (run front after : List ℕ) (least : 1 ≤ work.domain.multi) (is : n ≡ min work.domain.multi (length run))
      (first : front ≡ take n run) (rest : after ≡ drop n run) where
    pub point_missing : length (moves_of work after) ≡ 0 → rest_checked (moves_of work run) ≡ Err Missing
    point_missing none = none_first (moves_of work run) (one_at_most work.domain.multi n run front after (omega arith) (omega arith) first rest none)

    cut : 0 < length (moves_of work after) → rest_checked (moves_of work run) ≡ and_then (at_most_limit (moves_of work after)) (from_first (multi_of front))
    cut some = grind (arith, run_some, few_first, moves_turn)

    pub point_many : steps_limit < length (moves_of work after) → rest_checked (moves_of work run) ≡ Err ManyPoints
    point_many many = cut (omega arith) ∙ ap (λ r. and_then r (from_first (multi_of front))) (few_not (moves_of work after) many)

    pub point_few : (o : Option Coordinates) → 0 < length (moves_of work after) → length (moves_of work after) ≤ steps_limit → point_at (multi_of front) ≡ o →
        rest_checked (moves_of work run) ≡ entry_result work on (option_and_then (λ p. displaced_points kind p (moves_of work after)) o)
    point_few o some few at = grind (arith, cut, few_ok)

    pub point_goes : (p : Coordinates) → 0 < length (moves_of work after) → length (moves_of work after) ≤ steps_limit → point_at (multi_of front) ≡ Some p →
        rest_checked (moves_of work run) ≡ shape_result work kind filled p (points_reached p (moves_of work after))
    point_goes p some few at = point_few (Some p) some few at ∙ ap (entry_result work on) (outlined kind p (moves_of work after))

-- Shapes by their start.

-- the operand that the shape starts at is cut off the run
pub record IsCut (start : ShapeStart) (k : ℕ) (run front after : List ℕ) : Type 0 where
  pub size : ℕ
  pub least : 1 ≤ k
  pub is : size ≡ start_size start k (length run)
  pub first : front ≡ take size run
  pub rest : after ≡ drop size run

pub cut_at : (start : ShapeStart) {size k n : ℕ} (run : List ℕ) {front after : List ℕ} → size ≡ k → 1 ≤ size → n ≡ start_size start size (length run) → front ≡ take n run → after ≡ drop n run →
    IsCut start k (operand_words run) (operand_words front) (operand_words after)
cut_at start run same least is first rest = grind (arith, carried_length, words_prefix, carried_rest)

module _ (work : Work) (kind : ShapeKind) (filled : Bool) (run front after : List ℕ) where
  abbrev Cut : ShapeStart → Type 0
  Cut start = IsCut start work.domain.multi run front after

  abbrev Gives : ShapeStart → Outcome → Type 0
  Gives start r = shape_from start work run (shape_on kind filled) (displaced_points kind) ≡ r

  abbrev steps : ℕ
  steps = length (moves_of work after)

  -- nothing is cut off if the shape starts at the pen
  whole : Cut ShapeStart.AtPen → after ≡ run
  whole cut = cut.rest ∙ ap (λ n. drop n run) cut.is

  pub start_missing : (start : ShapeStart) → Cut start → steps ≡ 0 → Gives start (Err Missing)
  start_missing ShapeStart.AtPen cut none = pen_none work kind filled (moves_of work run) (subst (λ (run : List ℕ). length (moves_of work run) ≡ 0) (whole cut) none)
  start_missing ShapeStart.AtOperand cut none = point_missing work kind filled cut.size run front after cut.least cut.is cut.first cut.rest none

  pub start_many : (start : ShapeStart) → Cut start → steps_limit < steps → Gives start (Err ManyPoints)
  start_many ShapeStart.AtPen cut many = pen_many work kind filled (moves_of work run) (subst (λ (run : List ℕ). steps_limit < length (moves_of work run)) (whole cut) many)
  start_many ShapeStart.AtOperand cut many = point_many work kind filled cut.size run front after cut.least cut.is cut.first cut.rest many

  pub at_pen_lost : (start : ShapeStart) → Cut start → 0 < steps → steps ≤ steps_limit →
      (fault : DrawFault) → start ≡ ShapeStart.AtPen → Err fault ≡ pen_point work.state.drawing.pen → Gives start (Err fault)
  at_pen_lost start h h2 h3 fault h4 h5 = grind (arith, pen_lost, whole)

  pub at_pen : (start : ShapeStart) → Cut start → 0 < steps → steps ≤ steps_limit →
      (p : Coordinates) → start ≡ ShapeStart.AtPen → Ok p ≡ pen_point work.state.drawing.pen → Gives start (shape_result work kind filled p (points_reached p (moves_of work after)))
  at_pen start h h2 h3 p h4 h5 = grind (arith, pen_goes, whole)

  pub at_operand_lost : (start : ShapeStart) → Cut start → 0 < steps → steps ≤ steps_limit →
      start ≡ ShapeStart.AtOperand → point_at (multi_of front) ≡ None → Gives start (Err Outside)
  at_operand_lost ShapeStart.AtPen cut some few is none = absurd (cc)
  at_operand_lost ShapeStart.AtOperand cut some few is none = point_few work kind filled cut.size run front after cut.least cut.is cut.first cut.rest None some few none

  pub at_operand : (start : ShapeStart) → Cut start → 0 < steps → steps ≤ steps_limit →
      (p : Coordinates) → start ≡ ShapeStart.AtOperand → point_at (multi_of front) ≡ Some p → Gives start (shape_result work kind filled p (points_reached p (moves_of work after)))
  at_operand ShapeStart.AtPen cut some few p is at = absurd (cc)
  at_operand ShapeStart.AtOperand cut some few p is at = point_goes work kind filled cut.size run front after cut.least cut.is cut.first cut.rest p some few at

-- Where the pen moves without drawing.

-- the pen moves to the last of the points
pub goes_end : (work : Work) (ps : List Coordinates) (d : Drawing) → d ≡ with_pen_at (last_or None ps) work.state.drawing →
    pen_result work (Some ps) ≡ Ok (rule_result (with_drawing work d) [])
goes_end work ps d is = ap (λ (d : Drawing). Ok (rule_result (with_drawing work d) [])) (sym is)

-- the last of a list with one more point is that point
pub end_after : {A : Type 0} (o : Option A) (xs : List A) (x : A) → last_or o (xs ++ x ∷ []) ≡ Some x
unfolding last_or
end_after o [] x = refl
end_after o (y ∷ ys) x = end_after (Some y) ys x

-- no point yet
pub pen_before : (d : Drawing) (pen : Pen) → pen ≡ d.pen → with_pen pen d ≡ with_pen_at (last_or None []) d
unfolding last_or
pen_before d pen is = ap (λ (pen : Pen). with_pen pen d) is

-- one point more
pub pen_after : (d : Drawing) (prefix : List Coordinates) (p : Coordinates) → with_pen (Pen.At p) d ≡ with_pen_at (last_or None (prefix ++ p ∷ [])) d
pen_after d prefix p = ap (λ o. with_pen_at o d) (sym (end_after None prefix p))

-- a run that starts at the pen has an operand
starts_some : (work : Work) (run : List ℕ) (from : Coordinates) →
    ((f : Coordinates → List Displacement → Outcome) → from_pen work run f ≡ f from (moves_of work run)) → moves_of work run ≢ []
starts_some work run from starts none =
    let d : RuleResult = record { entries = []; work = work; clears = false } in
    let missing : from_pen work run (λ p ms. Ok d) ≡ Err Missing =
    ap (λ (ms : List Displacement). and_then (at_least_one ms) (λ ms. and_then (pen_point work.state.drawing.pen) (λ p. Ok d))) none
    in
    absurd (cc (missing, starts (λ p ms. Ok d)))

ends_alike : (p at : Coordinates) (ms : List Displacement) (ps : List Coordinates) → ms ≢ [] → points_reached p ms ≡ Some ps → last_or (Some p) ps ≡ Some at → last_or None ps ≡ Some at
unfolding last_or points_reached
ends_alike p at ms (q ∷ qs) some is end = end
ends_alike p at [] [] some is end = absurd (some refl)
ends_alike p at (m ∷ ms) [] some is end = absurd (cc (cons_if_all_some (displaced_point p m) (λ q. points_reached q ms) [] is).3)

-- the point that all operands reached
pub pen_reached : (work : Work) (run : List ℕ) (from at : Coordinates) (ps : List Coordinates) →
    ((f : Coordinates → List Displacement → Outcome) → from_pen work run f ≡ f from (moves_of work run)) →
    points_reached from (moves_of work run) ≡ Some ps → last_or (Some from) ps ≡ Some at → with_pen (Pen.At at) work.state.drawing ≡ with_pen_at (last_or None ps) work.state.drawing
pen_reached work run from at ps starts is end =
    ap (λ o. with_pen_at o work.state.drawing) (sym (ends_alike from at (moves_of work run) ps (starts_some work run from starts) is end))

-- a run of one operand sets the pen to its point
pub sets_once : (work : Work) (run : List ℕ) (m : Displacement) (o : Option Coordinates) → moves_of work run ≡ m ∷ [] → point_at m ≡ o →
    with_operands work run (λ ms. pen_result work (points_at ms)) ≡ pen_result work (option_map (λ p. p ∷ []) o)
unfolding points_at
sets_once work run m o h h2 = grind arith

-- what is drawn where displacements lead

pub trail_outside : (trail : Trail) (w : Work) (p : Coordinates) → trail_result trail w p None ≡ Err Outside
trail_outside trail w p = grind arith

pub trail_inside : (trail : Trail) (w : Work) (p : Coordinates) (qs : List Coordinates) → (d : RuleResult) × (trail_result trail w p (Some qs) ≡ Ok d)
trail_inside Trail.Points w p qs = (_, refl)
trail_inside Trail.Lines w p qs = (_, refl)

-- A field is refused by the stream alone.

part_stream : (o : Option Coordinates) (m : Displacement) (fault : DrawFault) → area_part o m ≡ Err fault → draw_cause fault ≡ stream
part_stream o m fault is = grind arith

pen_stream : (pen : Pen) (m : Displacement) (fault : DrawFault) → and_then (pen_point pen) (λ p. area_part (Some p) m) ≡ Err fault → draw_cause fault ≡ stream
pen_stream pen m fault h = grind (arith, part_stream)

pub area_stream : (work : Work) (ms : List Displacement) (fault : DrawFault) → area_of work ms ≡ Err fault → draw_cause fault ≡ stream
area_stream work ms fault h = grind (arith, pen_stream, part_stream)

pub point_stream : (pen : Pen) (fault : DrawFault) → pen_point pen ≡ Err fault → draw_cause fault ≡ stream
point_stream pen fault h = grind arith

-- the pen's point, or why there is none
module _ (work : Work) (run : List ℕ) (more : length run ≢ 0) where
  pub started : (r : Result Coordinates DrawFault) → r ≡ pen_point work.state.drawing.pen →
      IfOk r (λ p. (f : Coordinates → List Displacement → Outcome) → from_pen work run f ≡ f p (moves_of work run))
  started r h = grind (arith, more_of)

  pub not_started : (r : Result Coordinates DrawFault) → r ≡ pen_point work.state.drawing.pen →
      IfErr r (λ fault. (draw_cause fault ≡ stream) × ((f : Coordinates → List Displacement → Outcome) → from_pen work run f ≡ Err fault))
  not_started r h = grind (arith, point_stream, more_of)

-- Other forms of rules.

-- pairs of points, if no operand lacks its second

pair_first : (p q : Option Coordinates) (rest : Option (List Coordinates)) →
    cons_if_all (span p q) (λ _. option_map pair_spans rest) ≡ option_map pair_spans (cons_if_all p (λ _. cons_if_all q (λ _. rest)))
unfolding pair_spans
pair_first p q rest = grind arith

pub between_points : (ms : List Displacement) → length ms % 2 ≡ 0 → absolute_spans ms ≡ option_map pair_spans (points_at ms)
unfolding absolute_spans points_at pair_spans
between_points [] even = refl
between_points (m ∷ []) even = absurd (omega arith)
between_points (m ∷ n ∷ ms) even = grind (arith, pair_first, (between_points ms (omega arith)))

-- the row of rectangles, filled or not

pub rect_rule : (work : Work) (filled : Bool) (run : List ℕ) →
    rule work (cond filled Opcode.RectFilled Opcode.RectOutlined) run ≡ from_pen work run (λ p ms. entries_result work (rect_on filled) (rect_chain_spans p ms))
rect_rule work filled run = grind arith

-- The result of DOMAIN.

with_pel : Work → OperandLengths → Option Displacement → Outcome
with_pel work domain pel = Ok (rule_result (with_drawing (record work { domain = domain }) (record work.state.drawing { pel = unwrap_or pel work.state.drawing.pel })) [])

pub domain_given : (work : Work) (run words : List ℕ) (word n : ℕ) (domain : OperandLengths) (pel : Option Displacement) →
    run ≡ word ∷ words → n ≡ word → (n / 32 ≡ 1 → ⊥) → domain ≡ domain_in word → pel ≡ slice_get (moves domain.multi words) 0 →
    domain_rule work run ≡ Ok (rule_result (with_drawing (record work { domain = domain }) (record work.state.drawing { pel = unwrap_or pel work.state.drawing.pel })) [])
unfolding with_pel
domain_given work run words word n domain pel is bits flat has follows = grind (arith, nat_tests, nat_tests, with_pel)

-- The result of ending a definition, by whether one is open.

pub not_ended : (work : Work) (o : Option OpenDefinition) → is_some o ≡ false → definition_ended_by work o ≡ rule_result work []
not_ended work o h = grind arith

-- ending a definition restores the attributes and the operand lengths
abbrev pub back : Work → RuleResult
back work = record {
  entries = Entry.DefEnd ∷ [];
  work = record work { domain = work.saved; state = walk work.state (Entry.DefEnd ∷ []) };
  clears = false;
}

pub is_ended : (work : Work) (o : Option OpenDefinition) → is_some o ≡ true → definition_ended_by work o ≡ back work
is_ended work o h = grind arith

pub with_end : (work : Work) (e start : Entry) → is_some work.state.definition ≡ true → e ≡ start → Entry.DefEnd ∷ e ∷ [] ≡ (definition_ended work).entries ++ start ∷ []
with_end work e start some is = grind (arith, is_ended)

pub ended_closed : (work : Work) (o : Option OpenDefinition) → work.state.definition ≡ o → (definition_ended_by work o).work.state.definition ≡ None
unfolding walk
ended_closed work o h = grind arith

-- another definition may begin after it
pub start_fits : (work : Work) (what : Definition) → WellMade (definition_start what) → Fits (definition_ended work).work.state (definition_start what)
start_fits work what h = grind (arith, ended_closed)

-- a list with one more entry isn't empty
pub one_after : (es : List Entry) (e : Entry) → es ++ e ∷ [] ≢ []
one_after [] e none = cc
one_after (x ∷ es) e none = cc

-- The results of the rules of colours, times and RESET.

-- SET COLOR

pub set_none : (work : Work) (k : ℕ) (run : List ℕ) → length run ≡ 0 → set_color_rule work (operands k run) ≡ Err Missing
set_none work k run none = ap (set_color_rule work) (operands_none k run none)

pub set_many : (work : Work) (k : ℕ) (run : List ℕ) → 1 ≤ k → k < length run → set_color_rule work (operands k run) ≡ Err ManyColours
set_many work k run some many = grind (arith, length-drop, operands-first)

pub set_one : (work : Work) (k : ℕ) (run : List ℕ) → 1 ≤ k → 0 < length run → length run ≤ k →
    set_color_rule work (operands k run) ≡ set_color_under work work.state.drawing.colour (colour_of run)
set_one work k run some more few = grind (arith, length-drop, operands-first, take_all, operands_none)

-- a colour at an address

pub known_colour : (work : Work) (a : ℕ) (grb : Components) → is_known a grb work.state.known ≡ true → map_rule work a grb ≡ Ok (rule_result work [])
known_colour work a grb is = rw is refl

pub new_colour : (work : Work) (a : ℕ) (grb : Components) (known : List MapColour) → is_known a grb work.state.known ≡ false → known ≡ with_known_colour a grb work.state.known →
    map_rule work a grb ≡ Ok (record { entries = Entry.Map a grb ∷ []; work = record work { state = record work.state { last = None; known = known } }; clears = false })
new_colour work a grb known is learns = rw (is, learns) refl

-- WAIT

pub wait_none : (work : Work) (run : List ℕ) → length run ≡ 0 → rule_result work (map Entry.Wait run) ≡ rule_result work []
wait_none work [] none = refl
wait_none work (word ∷ words) none = absurd (omega arith)

pub wait_some : (work : Work) (run : List ℕ) → length run ≢ 0 →
    rule_result work (map Entry.Wait run) ≡ record { entries = map Entry.Wait run; work = record work { state = record work.state { last = None } }; clears = false }
wait_some work [] more = absurd (more refl)
wait_some work (word ∷ words) more =
    let d = work.state.drawing in
    let there = walk_stays (wait_stays d) work.state work.state.last word words in
    ap (λ s. record { entries = map Entry.Wait (word ∷ words); work = record work { state = s }; clears = false }) there

-- BLINK

pub blink_none : (work : Work) (run : List ℕ) → length run ≡ 0 → blink_rule work run ≡ Ok (rule_result work (Entry.BlinkEnd work.state.drawing.colour ∷ []))
blink_none work run none = grind (arith, operands_none)

groups_some : (work : Work) (groups rest : List (List ℕ)) (group : List ℕ) → InMode work.state.drawing → groups ≡ group ∷ rest →
    rule_result work (blinks work.domain.single work.state.drawing.colour groups)
    ≡ record { entries = map (blink work.domain.single work.state.drawing.colour) groups; work = record work { state = record work.state { last = None } }; clears = false }
groups_some work groups rest group mode is =
    let d = work.state.drawing in
    let k = work.domain.single in
    let there = walk_stays (blink_stays d k mode) work.state work.state.last group rest in
    let made : rule_result work (blinks k d.colour (group ∷ rest)) ≡ record { entries = map (blink k d.colour) (group ∷ rest); work = record work { state = record work.state { last = None } }; clears = false }
    = ap (λ s. record { entries = map (blink k d.colour) (group ∷ rest); work = record work { state = s }; clears = false }) there in
    rw is made

pub blink_some : (work : Work) (run : List ℕ) → InMode work.state.drawing → 0 < length run →
    blink_rule work run ≡ Ok (record {
      entries = map (blink work.domain.single work.state.drawing.colour) (operands (work.domain.single + 3) run);
      work = record work { state = record work.state { last = None } };
      clears = false;
    })
blink_some work run mode more = grind (arith, groups_some, operands-first)

-- RESET

pub reset_is : (w : Work) (run : List ℕ) (first second bits : ℕ) (pen : Pen) (domain : OperandLengths) (d : Drawing) (known : List MapColour) → InMode w.state.drawing →
    first ≡ slice_index run 0 → second ≡ slice_index run 1 → pen ≡ w.state.drawing.pen → domain ≡ cond (eqb (first % 2) 1) start_domain w.domain → bits ≡ second →
    d ≡ reset first second w.state.drawing → known ≡ known_after_reset first w.state.known → reset_rule w (slice_index run 0) (slice_index run 1) ≡ Ok (record {
      entries = Entry.Reset first second pen ∷ [];
      work = record w { domain = domain; state = record w.state { drawing = d; last = None; known = known } };
      clears = eqb (bits / 16 % 2) 1;
    })
unfolding walk
reset_is w run first second bits pen domain d known mode one two where_ has reads there learns = grind (arith, left_by)
