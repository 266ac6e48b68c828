use Rattle.nap_draw.proofs.{All, All-append, All-cons, All-drop, All-filter, All-head, All-map, All-nil, All-tail, All-take, All-weaker, AllInRange, Area, AreaInRange, Attributes, Base, BaseInRange, Bool, CharSize, Code, CodeValuesAreInRange, Colour, ColourInRange, Common.operands, Components, Coordinates, Displacement, DrawFault, Drawing, DrawingInRange, DrawnValuesAreInRange, Entry, Err, Hand, HandInRange, HasSixteenBitParts, IfOk, IfSome, InRange, Ink, InkInRange, IsAddress, IsByte, IsCode, IsInRange, IsInSquare, IsMade, IsWord, LastChar, List, MapColour, MapColourInRange, None, Ok, Opcode, OpenDefinition, OpenedInRange, Option, Outcome, Outside, Pen, PenInRange, Result, SizeInRange, Some, Span, State, StateInRange, StepInRange, StepMade, TextInRange, TextLook, TextStep, TextureInRange, Work, [], absolute_spans, addresses, after, and_then, arc_on, arc_points, area_of, area_part, arith, attributes, base_after, blink, blink_rule, blinks, char_on, circle_closed, code_rule, colour_code, colour_of, colour_of_base, cond_both, cons_if_all, corner, cut_operands, definition_after, definition_ended_by, definition_result, displaced_point, displacements_are_unique, domain_in, domain_rule, drop, effect_on_drawing, entries_result, entry_result, eqb, false, field_on, field_rule, first_move, from_pen, hand_of, ink_of, is_known, known_after, last_after, last_or, length, look_result, map, map_rule, moves, moves_of, multi_of, ok_or, option_and_then, option_map, option_or, pen_point, pen_result, point_at, point_entry, points_are_inside, points_at, points_reached, poly_on, poly_points, polyline_spans, rect_chain_spans, rect_on, refl, relative_spans, repeated_chars, reset, restored_drawing, rule, rule_result, select_rule, selected_colour, set_color_rule, set_color_under, shape_from_pen, shape_from_point, single_of, slice_get, slice_index, span, span_by, span_line_entry, start_drawing, start_text, start_texture, subst, suc, take, text_rule, texture_rule, true, unwrap_or, values_are_in_range, walk, with_attributes, with_colour, with_drawing, with_known_colour, with_last, with_pen, with_pen_at, without_address, zero, ℕ, ◌%◌, ◌++◌, ◌+◌, ◌-◌, ◌/◌, ◌∷◌, ◌≡◌}

-- A walk over entries in range, from a state in range, leads to a state in range.

-- the attributes at the start

pub start_texture_ranged : TextureInRange start_texture
start_texture_ranged = record { word = omega arith; mask = tt }

pub start_text_ranged : TextInRange start_text
start_text_ranged = record { first = omega arith; second = omega arith; size = tt }

pub start_drawing_ranged : DrawingInRange start_drawing
start_drawing_ranged = grind (arith, start_texture_ranged, start_text_ranged)

-- the attributes that an entry holds

record AttributesInRange (h : Attributes) : Type 0 where
  pub pen : IfSome h.pen PenInRange
  pub pel : IfSome h.pel IsInRange
  pub colour : IfSome h.colour ColourInRange
  pub texture : IfSome h.texture TextureInRange
  pub text : IfSome h.text TextInRange

attributes_ranged : (e : Entry) → InRange e → AttributesInRange (attributes e)
attributes_ranged e r = grind arith

-- they become current

pub unwrap_ranged : {A : Type 0} (P : A → Type 0) (o : Option A) (x : A) → IfSome o P → P x → P (unwrap_or o x)
unwrap_ranged P o x h h2 = grind arith

base_ranged : (base : Base) (colour : Option Colour) → BaseInRange base → IfSome colour ColourInRange → BaseInRange (base_after base colour)
base_ranged base colour h h2 = grind arith

taking_ranged : (d : Drawing) (h : Attributes) → DrawingInRange d → AttributesInRange h → DrawingInRange (with_attributes d h)
taking_ranged d h r taken = grind (arith, unwrap_ranged, base_ranged)

-- the effects of entries

pub with_pen_ranged : (pen : Pen) (d : Drawing) → PenInRange pen → DrawingInRange d → DrawingInRange (with_pen pen d)
with_pen_ranged pen d there r = record { pen = there; pel = r.pel; base = r.base; colour = r.colour; texture = r.texture; text = r.text }

pub with_pen_at_ranged : (o : Option Coordinates) (d : Drawing) → IfSome o IsInSquare → DrawingInRange d → DrawingInRange (with_pen_at o d)
with_pen_at_ranged o d h h2 = grind (arith, with_pen_ranged)

pub with_colour_ranged : (colour : Colour) (d : Drawing) → ColourInRange colour → DrawingInRange d → DrawingInRange (with_colour colour d)
with_colour_ranged colour d new r = record { pen = r.pen; pel = r.pel; base = r.base; colour = new; texture = r.texture; text = r.text }

pub at_ranged : {A : Type 0} (P : A → Type 0) (xs : List A) (i : ℕ) → All P xs → IfSome (slice_get xs i) P
at_ranged P [] i all = tt
at_ranged P (x ∷ xs) zero all = All-head P x xs all
at_ranged P (x ∷ xs) (suc i) all = at_ranged P xs i (All-tail P x xs all)

reset_ranged : (first second : ℕ) (d : Drawing) → DrawingInRange d → DrawingInRange (reset first second d)
reset_ranged first second d r = record {
  pen = tt;
  pel = cond_both (eqb (first % 2) 1) _ _ IsInRange (λ _. start_drawing_ranged.pel) (λ _. r.pel);
  base = cond_both (eqb (colour_code first) 1) _ _ BaseInRange (λ _. tt) (λ _. r.base);
  colour =
      cond_both (eqb (colour_code first) 1) _ _ ColourInRange (λ _. tt) (λ _.
      cond_both (eqb (colour_code first) 2) _ _ ColourInRange (λ _. tt) (λ _.
      cond_both (eqb (colour_code first) 3) _ _ ColourInRange (λ _. tt) (λ _. r.colour)));
  texture = cond_both (eqb (second / 8 % 2) 1) _ _ TextureInRange (λ _. start_texture_ranged) (λ _. r.texture);
  text = cond_both (eqb (second % 2) 1) _ _ TextInRange (λ _. start_text_ranged) (λ _. r.text);
}

saved_ranged : (o : Option OpenDefinition) (d : Drawing) → IfSome o OpenedInRange → DrawingInRange d → DrawingInRange (restored_drawing o d)
saved_ranged o d h h2 = grind arith

drawn_ranged : (o : Option OpenDefinition) (d : Drawing) (e : Entry) → IfSome o OpenedInRange → DrawingInRange d → InRange e → DrawingInRange (effect_on_drawing o d e)
drawn_ranged o d (Entry.Point at pel colour) saved r new = with_pen_ranged (Pen.At at) d new.0 r
drawn_ranged o d (Entry.Line from to ink) saved r new = with_pen_ranged (Pen.At to) d new.1 r
drawn_ranged o d (Entry.Arc filled points ink) saved r new =
    with_pen_at_ranged (slice_get points (length points - 1)) d (at_ranged IsInSquare points (length points - 1) new.0) r
drawn_ranged o d (Entry.Rect filled from to ink) saved r new = with_pen_ranged (Pen.At (corner from to)) d (new.1.0, new.0.1) r
drawn_ranged o d (Entry.Poly filled points ink) saved r new = with_pen_at_ranged (slice_get points 0) d (at_ranged IsInSquare points 0 new.0) r
drawn_ranged o d (Entry.Char set code hand) saved r new = with_pen_ranged Pen.After d tt r
drawn_ranged o d (Entry.TextMove step hand) saved r new = with_pen_ranged Pen.After d tt r
drawn_ranged o d (Entry.ToEol hand) saved r new = with_pen_ranged Pen.After d tt r
drawn_ranged o d (Entry.Clear pen) saved r new = with_pen_ranged Pen.After d tt r
drawn_ranged o d (Entry.Field area pen) saved r new = with_pen_ranged Pen.After d tt r
drawn_ranged o d (Entry.Reset first second pen) saved r new = reset_ranged first second d r
drawn_ranged o d (Entry.Map addr grb) saved r new = with_colour_ranged (Colour.Front addr) d new.0 r
drawn_ranged o d (Entry.GlyphStart code) saved r new = with_pen_ranged Pen.Start d tt r
drawn_ranged o d (Entry.MaskStart mask) saved r new = with_pen_ranged Pen.Start d tt r
drawn_ranged o d Entry.DefEnd saved r new = saved_ranged o d saved r
drawn_ranged o d _ saved r new = r

definition_ranged : (o : Option OpenDefinition) (d : Drawing) (e : Entry) → IfSome o OpenedInRange → DrawingInRange d → InRange e → IfSome (definition_after o d e) OpenedInRange
definition_ranged o d e h h2 h3 = grind arith

last_code_ranged : (e : Entry) → InRange e → IfSome (last_after e) (λ (last : LastChar). IsByte last.code)
last_code_ranged e h = grind arith

pub setting_ranged : (addr : ℕ) (grb : Components) (known : List MapColour) → IsAddress addr → HasSixteenBitParts grb → All MapColourInRange known →
    All MapColourInRange (with_known_colour addr grb known)
setting_ranged addr grb known there parts all =
    All-cons MapColourInRange (record { addr = addr; grb = grb }) (take 15 (without_address addr known)) (there, parts)
    (All-take MapColourInRange 15 (without_address addr known) (All-filter _ MapColourInRange known all))

known_ranged : (known : List MapColour) (e : Entry) → InRange e → All MapColourInRange known → All MapColourInRange (known_after known e)
known_ranged known (Entry.Map addr grb) new all = setting_ranged addr grb known new.0 new.1 all
known_ranged known (Entry.Reset first second pen) new all =
    cond_both (eqb (colour_code first) 0) _ _ (All MapColourInRange) (λ _. all) (λ _. All-nil MapColourInRange)
known_ranged known _ new all = all

pub after_ranged : (s : State) (e : Entry) → StateInRange s → InRange e → StateInRange (after s e)
after_ranged s e r new =
    let taken = taking_ranged s.drawing (attributes e) r.drawing (attributes_ranged e new) in
    record {
      drawing = drawn_ranged s.definition (with_attributes s.drawing (attributes e)) e r.definition taken new;
      definition = definition_ranged s.definition (with_attributes s.drawing (attributes e)) e r.definition taken new;
      last = last_code_ranged e new;
      known = known_ranged s.known e new r.known;
    }

pub walk_ranged : (s : State) (es : List Entry) → StateInRange s → AllInRange es → StateInRange (walk s es)
unfolding walk
walk_ranged s [] r all = r
walk_ranged s (e ∷ es) r all = walk_ranged (after s e) es (after_ranged s e r (All-head InRange e es all)) (All-tail InRange e es all)

-- The results of rules are in range.

-- the words of operands

cut_ranged : (k lacking : ℕ) (operand words : List ℕ) → All IsWord operand → All IsWord words → All (All IsWord) (cut_operands k lacking operand words)
unfolding cut_operands
cut_ranged k lacking operand [] front all = All-cons (All IsWord) operand [] front (All-nil (All IsWord))
cut_ranged k zero operand (word ∷ words) front all = grind (arith, All-cons, All-head, All-nil, All-tail, (cut_ranged k (k - 1) (word ∷ []) words (All-cons IsWord word [] (All-head IsWord word words all) (All-nil IsWord)) (All-tail IsWord word words all)))
cut_ranged k (suc lacking) operand (word ∷ words) front all =
    cut_ranged k lacking (operand ++ word ∷ []) words
    (All-append IsWord operand (word ∷ []) front (All-cons IsWord word [] (All-head IsWord word words all) (All-nil IsWord))) (All-tail IsWord word words all)

operands_ranged : (k : ℕ) (run : List ℕ) → All IsWord run → All (All IsWord) (operands k run)
unfolding operands
operands_ranged k [] all = All-nil (All IsWord)
operands_ranged k (word ∷ words) all =
    cut_ranged k (k - 1) (word ∷ []) words (All-cons IsWord word [] (All-head IsWord word words all) (All-nil IsWord)) (All-tail IsWord word words all)

moves_ranged : (k : ℕ) (run : List ℕ) → All IsWord run → All IsInRange (moves k run)
moves_ranged k run all =
    All-map IsInRange multi_of (operands k run)
    (All-weaker (All IsWord) (λ words. IsInRange (multi_of words)) (λ words word. (values_are_in_range words word).0) (operands k run) (operands_ranged k run all))

addresses_ranged : (k : ℕ) (run : List ℕ) → All IsWord run → All IsAddress (addresses k run)
addresses_ranged k run all =
    All-map IsAddress single_of (operands k run)
    (All-weaker (All IsWord) (λ words. IsAddress (single_of words)) (λ words word. (values_are_in_range words word).1) (operands k run) (operands_ranged k run all))

word_ranged : (run : List ℕ) (i : ℕ) → All IsWord run → IsWord (slice_index run i)
word_ranged [] i all = omega arith
word_ranged (word ∷ words) zero all = All-head IsWord word words all
word_ranged (word ∷ words) (suc i) all = word_ranged words i (All-tail IsWord word words all)

-- the points that operands reach

point_at_ranged : (m : Displacement) → IfSome (point_at m) IsInSquare
point_at_ranged m = at (point_at m) refl
  where
    at : (o : Option Coordinates) → point_at m ≡ o → IfSome o IsInSquare
    at None is = tt
    at (Some p) is = (points_are_inside m p is).0

moved_ranged : (p : Coordinates) (m : Displacement) → IfSome (displaced_point p m) IsInSquare
moved_ranged p m = at (displaced_point p m) refl
  where
    at : (o : Option Coordinates) → displaced_point p m ≡ o → IfSome o IsInSquare
    at None is = tt
    at (Some q) is = (displacements_are_unique p q m is).0

module _ {A : Type 0} (P : A → Type 0) where
  one_more : (x : A) (o : Option (List A)) → P x → IfSome o (All P) → IfSome (option_map (λ xs. x ∷ xs) o) (All P)
  one_more x o h h2 = grind (arith, All-cons)

  one_and_rest : (o : Option A) (next : A → Option (List A)) → IfSome o P → ((x : A) → P x → IfSome (next x) (All P)) → IfSome (cons_if_all o next) (All P)
  one_and_rest None next first rest = tt
  one_and_rest (Some x) next first rest = one_more x (next x) first (rest x first)

points_at_ranged : (ms : List Displacement) → IfSome (points_at ms) (All IsInSquare)
unfolding points_at
points_at_ranged [] = All-nil IsInSquare
points_at_ranged (m ∷ ms) = one_and_rest IsInSquare (point_at m) (λ _. points_at ms) (point_at_ranged m) (λ _ _. points_at_ranged ms)

reached_ranged : (p : Coordinates) (ms : List Displacement) → IfSome (points_reached p ms) (All IsInSquare)
unfolding points_reached
reached_ranged p [] = All-nil IsInSquare
reached_ranged p (m ∷ ms) = one_and_rest IsInSquare (displaced_point p m) (λ q. points_reached q ms) (moved_ranged p m) (λ q _. reached_ranged q ms)

abbrev SpanInRange : Span → Type 0
SpanInRange s = IsInSquare s.from × IsInSquare s.to

joined_ranged : (p : Coordinates) (qs : List Coordinates) → IsInSquare p → All IsInSquare qs → All SpanInRange (polyline_spans p qs)
unfolding polyline_spans
joined_ranged p [] from all = All-nil SpanInRange
joined_ranged p (q ∷ qs) from all = grind (arith, All-cons, All-head, All-tail, (joined_ranged q qs (All-head IsInSquare q qs all) (All-tail IsInSquare q qs all)))

lines_ranged : (p : Coordinates) (o : Option (List Coordinates)) → IsInSquare p → IfSome o (All IsInSquare) → IfSome (option_map (polyline_spans p) o) (All SpanInRange)
lines_ranged p o h h2 = grind (arith, joined_ranged)

span_ranged : (p q : Option Coordinates) → IfSome p IsInSquare → IfSome q IsInSquare → IfSome (span p q) SpanInRange
span_ranged p q h h2 = grind arith

span_by_ranged : (o : Option Coordinates) (m : Displacement) → IfSome o IsInSquare → IfSome (span_by o m) SpanInRange
span_by_ranged None m from = tt
span_by_ranged (Some p) m from = span_ranged (Some p) (displaced_point p m) from (moved_ranged p m)

between_ranged : (ms : List Displacement) → IfSome (absolute_spans ms) (All SpanInRange)
unfolding absolute_spans
between_ranged [] = All-nil SpanInRange
between_ranged (m ∷ []) = tt
between_ranged (m ∷ n ∷ ms) =
    one_and_rest SpanInRange (span (point_at m) (point_at n)) (λ _. absolute_spans ms)
    (span_ranged (point_at m) (point_at n) (point_at_ranged m) (point_at_ranged n)) (λ _ _. between_ranged ms)

away_ranged : (ms : List Displacement) → IfSome (relative_spans ms) (All SpanInRange)
unfolding relative_spans
away_ranged [] = All-nil SpanInRange
away_ranged (m ∷ []) = tt
away_ranged (m ∷ n ∷ ms) =
    one_and_rest SpanInRange (span_by (point_at m) n) (λ _. relative_spans ms) (span_by_ranged (point_at m) n (point_at_ranged m)) (λ _ _. away_ranged ms)

across_ranged : (p : Coordinates) (ms : List Displacement) → IsInSquare p → IfSome (rect_chain_spans p ms) (All SpanInRange)
unfolding rect_chain_spans
across_ranged p [] from = All-nil SpanInRange
across_ranged p (m ∷ ms) from =
    one_and_rest SpanInRange (span_by (Some p) m) (λ s. rect_chain_spans (corner s.from s.to) ms) (span_by_ranged (Some p) m from)
    (λ s there. across_ranged (corner s.from s.to) ms (there.1.0, there.0.1))

round_ranged : (ps : List Coordinates) → All IsInSquare ps → All IsInSquare (circle_closed ps)
round_ranged ps h = grind (arith, All-append, All-take)

poly_ranged : (p : Coordinates) (ms : List Displacement) → IsInSquare p → IfSome (poly_points p ms) (All IsInSquare)
poly_ranged p ms from = one_more IsInSquare p (points_reached p ms) from (reached_ranged p ms)

arc_ranged : (p : Coordinates) (ms : List Displacement) → IsInSquare p → IfSome (arc_points p ms) (All IsInSquare)
arc_ranged p ms from = at (points_reached p ms) (reached_ranged p ms)
  where
    at : (o : Option (List Coordinates)) → IfSome o (All IsInSquare) → IfSome (option_map (λ qs. circle_closed (p ∷ qs)) o) (All IsInSquare)
    at None all = tt
    at (Some qs) all = round_ranged (p ∷ qs) (All-cons IsInSquare p qs from all)

end_ranged : (o : Option Coordinates) (ps : List Coordinates) → IfSome o IsInSquare → All IsInSquare ps → IfSome (last_or o ps) IsInSquare
unfolding last_or
end_ranged o [] from all = from
end_ranged o (p ∷ ps) from all = end_ranged (Some p) ps (All-head IsInSquare p ps all) (All-tail IsInSquare p ps all)

-- the results of rules

abbrev pub Ranged : Outcome → Type 0
Ranged by = IfOk by (λ d. AllInRange d.entries × StateInRange d.work.state)

each_ranged : {A : Type 0} (P : A → Type 0) (by : Result A DrawFault) (next : A → Outcome) → IfOk by P → ((x : A) → P x → Ranged (next x)) →
    Ranged (and_then by next)
each_ranged P (Ok x) next all each = each x all
each_ranged P (Err fault) next all each = tt

any_ranged : {A : Type 0} (by : Result A DrawFault) (next : A → Outcome) → ((x : A) → Ranged (next x)) → Ranged (and_then by next)
any_ranged (Ok x) next each = each x
any_ranged (Err fault) next each = tt

pen_point_ranged : (pen : Pen) → PenInRange pen → IfOk (pen_point pen) IsInSquare
pen_point_ranged pen h = grind arith

ink_ranged : (d : Drawing) → DrawingInRange d → InkInRange (ink_of d)
ink_ranged d r = record { pel = r.pel; colour = r.colour; texture = r.texture }

-- the attributes change, and nothing is drawn
pub silent_ranged : (work : Work) (d : Drawing) → StateInRange work.state → DrawingInRange d → Ranged (Ok (rule_result (with_drawing work d) []))
unfolding walk
silent_ranged work d r new = (All-nil InRange, record { drawing = new; definition = r.definition; last = r.last; known = r.known })

-- so do the text's attributes
looks_ranged : (work : Work) (r : StateInRange work.state) (look : TextLook) → TextInRange look → Ranged (look_result work look)
looks_ranged work r look text = grind (arith, silent_ranged)

module _ (work : Work) (r : StateInRange work.state) where
  pub list_ranged : (es : List Entry) → AllInRange es → Ranged (Ok (rule_result work es))
  list_ranged es all = (all, walk_ranged work.state es r all)

  pub one_ranged : (e : Entry) → InRange e → Ranged (Ok (rule_result work (e ∷ [])))
  one_ranged e new = list_ranged (e ∷ []) (All-cons InRange e [] new (All-nil InRange))

  module _ {A : Type 0} (P : A → Type 0) (entry : Drawing → A → Entry) (new : (x : A) → P x → InRange (entry work.state.drawing x)) where
    draws_ranged : (o : Option (List A)) → IfSome o (All P) → Ranged (entries_result work entry o)
    draws_ranged None all = tt
    draws_ranged (Some xs) all =
        list_ranged (map (entry work.state.drawing) xs)
        (All-map InRange (entry work.state.drawing) xs (All-weaker P (λ x. InRange (entry work.state.drawing x)) new xs all))

    draws_one_ranged : (o : Option A) → IfSome o P → Ranged (entry_result work entry o)
    draws_one_ranged o h = grind (arith, one_ranged)

  goes_ranged : (o : Option (List Coordinates)) → IfSome o (All IsInSquare) → Ranged (pen_result work o)
  goes_ranged o h = grind (arith, silent_ranged, with_pen_at_ranged, end_ranged)

  points_ranged : (o : Option (List Coordinates)) → IfSome o (All IsInSquare) → Ranged (entries_result work point_entry o)
  points_ranged o all = draws_ranged IsInSquare point_entry (λ p inside. (inside, r.drawing.pel, r.drawing.colour)) o all

  strokes_ranged : (o : Option (List Span)) → IfSome o (All SpanInRange) → Ranged (entries_result work span_line_entry o)
  strokes_ranged o all = draws_ranged SpanInRange span_line_entry (λ s there. (there.0, there.1, ink_ranged work.state.drawing r.drawing)) o all

  rects_ranged : (filled : Bool) (o : Option (List Span)) → IfSome o (All SpanInRange) → Ranged (entries_result work (rect_on filled) o)
  rects_ranged filled o all = draws_ranged SpanInRange (rect_on filled) (λ s there. (there.0, there.1, ink_ranged work.state.drawing r.drawing)) o all

  -- the kinds of operands

  pen_ranged : (f : Coordinates → Outcome) → ((p : Coordinates) → IsInSquare p → Ranged (f p)) → Ranged (and_then (pen_point work.state.drawing.pen) f)
  pen_ranged f each = each_ranged IsInSquare (pen_point work.state.drawing.pen) f (pen_point_ranged work.state.drawing.pen r.drawing.pen) each

  from_pen_ranged : (run : List ℕ) (f : Coordinates → List Displacement → Outcome) →
      ((p : Coordinates) (ms : List Displacement) → IsInSquare p → Ranged (f p ms)) → Ranged (from_pen work run f)
  from_pen_ranged run f each = grind (arith, any_ranged, pen_ranged)

  module _ (entry : Drawing → List Coordinates → Entry) (points : Coordinates → List Displacement → Option (List Coordinates))
      (new : (ps : List Coordinates) → All IsInSquare ps → InRange (entry work.state.drawing ps))
      (inside : (p : Coordinates) (ms : List Displacement) → IsInSquare p → IfSome (points p ms) (All IsInSquare)) where
    shape_ranged : (p : Coordinates) (ms : List Displacement) → IsInSquare p → Ranged (entry_result work entry (points p ms))
    shape_ranged p ms from = draws_one_ranged (All IsInSquare) entry new (points p ms) (inside p ms from)

    shape_from_pen_ranged : (run : List ℕ) → Ranged (shape_from_pen work run entry points)
    shape_from_pen_ranged run = grind (arith, any_ranged, pen_ranged, shape_ranged)

    shape_at_ranged : (o : Option Coordinates) (ms : List Displacement) → IfSome o IsInSquare →
        Ranged (entry_result work entry (option_and_then (λ p. points p ms) o))
    shape_at_ranged o ms h = grind (arith, shape_ranged)

    shape_from_point_ranged : (run : List ℕ) → Ranged (shape_from_point work run entry points)
    shape_from_point_ranged run = grind (arith, any_ranged, shape_at_ranged, point_at_ranged)

  arc_new : (filled : Bool) (ps : List Coordinates) → All IsInSquare ps → InRange (arc_on filled work.state.drawing ps)
  arc_new filled ps all = (all, ink_ranged work.state.drawing r.drawing)

  poly_new : (filled : Bool) (ps : List Coordinates) → All IsInSquare ps → InRange (poly_on filled work.state.drawing ps)
  poly_new filled ps all = (all, ink_ranged work.state.drawing r.drawing)

  -- the other opcodes

  with_pel_ranged : (pel : Displacement) → IsInRange pel → DrawingInRange (record work.state.drawing { pel = pel })
  with_pel_ranged pel new = grind arith

  first_move_ranged : (k : ℕ) (run : List ℕ) → All IsWord run → IfSome (slice_get (moves k run) 0) IsInRange
  first_move_ranged k run all = at_ranged IsInRange (moves k run) 0 (moves_ranged k run all)

  domain_ranged : (run : List ℕ) → All IsWord run → Ranged (domain_rule work run)
  domain_ranged [] all = tt
  domain_ranged (word ∷ words) all =
      let pel = slice_get (moves (domain_in word).multi words) 0 in
      let new = with_pel_ranged (unwrap_or pel work.state.drawing.pel)
      (unwrap_ranged IsInRange pel work.state.drawing.pel (first_move_ranged (domain_in word).multi words (All-tail IsWord word words all)) r.drawing.pel) in
      cond_both (eqb (word / 32) 1) _ _ Ranged (λ _. tt) (λ _. silent_ranged work _ r new)

  area_ranged : (o : Option Coordinates) (m : Displacement) → IfSome o IsInSquare → IfOk (area_part o m) AreaInRange
  area_ranged o m from = at (span_by o m) (span_by_ranged o m from)
    where
      at : (s : Option Span) → IfSome s SpanInRange → IfOk (ok_or (option_map (λ s. Area.Part s.from s.to) s) Outside) AreaInRange
      at None there = tt
      at (Some s) there = there

  field_ranged : (ms : List Displacement) → Ranged (field_rule work ms)
  field_ranged ms =
      each_ranged AreaInRange (area_of work ms) (λ area. entry_result work field_on (Some area)) (at ms)
      (λ area new. draws_one_ranged AreaInRange field_on (λ area there. (there, r.drawing.pen)) (Some area) new)
    where
      from_pen_area : (by : Result Coordinates DrawFault) (m : Displacement) → IfOk by IsInSquare → IfOk (and_then by (λ p. area_part (Some p) m)) AreaInRange
      from_pen_area (Ok p) m from = area_ranged (Some p) m from
      from_pen_area (Err fault) m from = tt

      at : (ms : List Displacement) → IfOk (area_of work ms) AreaInRange
      at [] = tt
      at (m ∷ []) = from_pen_area (pen_point work.state.drawing.pen) m (pen_point_ranged work.state.drawing.pen r.drawing.pen)
      at (m ∷ n ∷ ms) = area_ranged (point_at m) n (point_at_ranged m)

  size_ranged : (o : Option Displacement) (size : CharSize) → IfSome o IsInRange → SizeInRange size → SizeInRange (unwrap_or (option_map CharSize.Given o) size)
  size_ranged o size h h2 = grind arith

  text_ranged : (run : List ℕ) → All IsWord run → Ranged (text_rule work run)
  text_ranged run all =
      let look = work.state.drawing.text in
      looks_ranged work r _ (record {
        first = unwrap_ranged IsWord (slice_get run 0) look.first (at_ranged IsWord run 0 all) r.drawing.text.first;
        second = unwrap_ranged IsWord (slice_get run 1) look.second (at_ranged IsWord run 1 all) r.drawing.text.second;
        size = size_ranged (first_move work (drop 2 run)) look.size (first_move_ranged work.domain.multi (drop 2 run) (All-drop IsWord 2 run all)) r.drawing.text.size;
      })

  mask_ranged : (new old : Option Displacement) → IfSome new IsInRange → IfSome old IsInRange → IfSome (option_or new old) IsInRange
  mask_ranged new old h h2 = grind arith

  texture_ranged : (run : List ℕ) → All IsWord run → Ranged (texture_rule work run)
  texture_ranged run all =
      let texture = work.state.drawing.texture in
      silent_ranged work _ r (record {
        pen = r.drawing.pen;
        pel = r.drawing.pel;
        base = r.drawing.base;
        colour = r.drawing.colour;
        texture = record {
          word = unwrap_ranged IsWord (slice_get run 0) texture.word (at_ranged IsWord run 0 all) r.drawing.texture.word;
          mask = mask_ranged (first_move work (drop 1 run)) texture.mask (first_move_ranged work.domain.multi (drop 1 run) (All-drop IsWord 1 run all)) r.drawing.texture.mask;
        };
        text = r.drawing.text;
      })

  base_colour_ranged : (base : Base) → BaseInRange base → ColourInRange (colour_of_base base)
  base_colour_ranged base h = grind arith

  selected_ranged : (chosen : List ℕ) → All IsAddress chosen → ColourInRange (selected_colour work.state.drawing.base chosen)
  selected_ranged [] all = base_colour_ranged work.state.drawing.base r.drawing.base
  selected_ranged (a ∷ []) all = All-head IsAddress a [] all
  selected_ranged (a ∷ b ∷ more) all = (All-head IsAddress a (b ∷ more) all, All-head IsAddress b more (All-tail IsAddress a (b ∷ more) all))

  select_ranged : (run : List ℕ) → All IsWord run → Ranged (select_rule work run)
  select_ranged run all = grind (arith, silent_ranged, with_colour_ranged, selected_ranged, addresses_ranged)

  maps_ranged : (a : ℕ) (grb : Components) → IsAddress a → HasSixteenBitParts grb → Ranged (map_rule work a grb)
  maps_ranged a grb address parts = by (is_known a grb work.state.known) refl
    where
      by : (known : Bool) → is_known a grb work.state.known ≡ known → Ranged (map_rule work a grb)
      by true is = rw is (silent_ranged work work.state.drawing r r.drawing)
      by false is = rw is (
        All-cons InRange (Entry.Map a grb) [] (address, parts) (All-nil InRange),
        record { drawing = r.drawing; definition = r.definition; last = tt; known = setting_ranged a grb work.state.known address parts r.known },
      )

  direct_ranged : (grb : Components) → HasSixteenBitParts grb →
      Ranged (Ok (rule_result (with_drawing work (record work.state.drawing { base = Base.Direct grb; colour = Colour.Direct grb })) []))
  direct_ranged grb parts = grind (arith, silent_ranged)

  colours_as_ranged : (colour : Colour) (grb : Components) → ColourInRange colour → HasSixteenBitParts grb → Ranged (set_color_under work colour grb)
  colours_as_ranged colour grb h h2 = grind (arith, direct_ranged, maps_ranged)

  set_color_ranged : (xs : List (List ℕ)) → All (All IsWord) xs → Ranged (set_color_rule work xs)
  set_color_ranged [] all = tt
  set_color_ranged (operand ∷ []) all =
      colours_as_ranged work.state.drawing.colour (colour_of operand) r.drawing.colour (values_are_in_range operand (All-head (All IsWord) operand [] all)).2
  set_color_ranged (operand ∷ other ∷ more) all = tt

  blink_one_ranged : (k : ℕ) (group : List ℕ) → All IsWord group → InRange (blink k work.state.drawing.colour group)
  blink_one_ranged k group all =
      let times = All-drop IsWord k group all in (
        (values_are_in_range (take k group) (All-take IsWord k group all)).1,
        word_ranged (drop k group) 0 times,
        word_ranged (drop k group) 1 times,
        word_ranged (drop k group) 2 times,
        r.drawing.colour,
      )

  blinks_ranged : (k : ℕ) (groups : List (List ℕ)) → All (All IsWord) groups → AllInRange (blinks k work.state.drawing.colour groups)
  blinks_ranged k [] all = All-cons InRange (Entry.BlinkEnd work.state.drawing.colour) [] r.drawing.colour (All-nil InRange)
  blinks_ranged k (group ∷ groups) all =
      All-map InRange (blink k work.state.drawing.colour) (group ∷ groups)
      (All-weaker (All IsWord) (λ group. InRange (blink k work.state.drawing.colour group)) (blink_one_ranged k) (group ∷ groups) all)

  blink_ranged : (run : List ℕ) → All IsWord run → Ranged (blink_rule work run)
  blink_ranged run all =
      let k = work.domain.single in
      list_ranged (blinks k work.state.drawing.colour (operands (k + 3) run)) (blinks_ranged k (operands (k + 3) run) (operands_ranged (k + 3) run all))

  rule_ranged : (op : Opcode) (run : List ℕ) → All IsWord run → Ranged (rule work op run)
  rule_ranged Opcode.Reset run all = one_ranged (Entry.Reset (slice_index run 0) (slice_index run 1) work.state.drawing.pen) (word_ranged run 0 all, word_ranged run 1 all, r.drawing.pen)
  rule_ranged Opcode.Domain run all = domain_ranged run all
  rule_ranged Opcode.Text run all = text_ranged run all
  rule_ranged Opcode.Texture run all = texture_ranged run all
  rule_ranged Opcode.PointSetAbs run all = any_ranged _ _ (λ ms. goes_ranged (points_at ms) (points_at_ranged ms))
  rule_ranged Opcode.PointSetRel run all = from_pen_ranged run _ (λ p ms _. goes_ranged (points_reached p ms) (reached_ranged p ms))
  rule_ranged Opcode.PointAbs run all = any_ranged _ _ (λ ms. points_ranged (points_at ms) (points_at_ranged ms))
  rule_ranged Opcode.PointRel run all = from_pen_ranged run _ (λ p ms _. points_ranged (points_reached p ms) (reached_ranged p ms))
  rule_ranged Opcode.LineAbs run all = from_pen_ranged run _ (λ p ms from. strokes_ranged _ (lines_ranged p (points_at ms) from (points_at_ranged ms)))
  rule_ranged Opcode.LineRel run all = from_pen_ranged run _ (λ p ms from. strokes_ranged _ (lines_ranged p (points_reached p ms) from (reached_ranged p ms)))
  rule_ranged Opcode.SetLineAbs run all = any_ranged _ _ (λ ms. strokes_ranged (absolute_spans ms) (between_ranged ms))
  rule_ranged Opcode.SetLineRel run all = any_ranged _ _ (λ ms. strokes_ranged (relative_spans ms) (away_ranged ms))
  rule_ranged Opcode.ArcOutlined run all = shape_from_pen_ranged (arc_on false) arc_points (arc_new false) arc_ranged run
  rule_ranged Opcode.ArcFilled run all = shape_from_pen_ranged (arc_on true) arc_points (arc_new true) arc_ranged run
  rule_ranged Opcode.SetArcOutlined run all = shape_from_point_ranged (arc_on false) arc_points (arc_new false) arc_ranged run
  rule_ranged Opcode.SetArcFilled run all = shape_from_point_ranged (arc_on true) arc_points (arc_new true) arc_ranged run
  rule_ranged Opcode.RectOutlined run all = from_pen_ranged run _ (λ p ms from. rects_ranged false (rect_chain_spans p ms) (across_ranged p ms from))
  rule_ranged Opcode.RectFilled run all = from_pen_ranged run _ (λ p ms from. rects_ranged true (rect_chain_spans p ms) (across_ranged p ms from))
  rule_ranged Opcode.SetRectOutlined run all = any_ranged _ _ (λ ms. rects_ranged false (relative_spans ms) (away_ranged ms))
  rule_ranged Opcode.SetRectFilled run all = any_ranged _ _ (λ ms. rects_ranged true (relative_spans ms) (away_ranged ms))
  rule_ranged Opcode.PolyOutlined run all = shape_from_pen_ranged (poly_on false) poly_points (poly_new false) poly_ranged run
  rule_ranged Opcode.PolyFilled run all = shape_from_pen_ranged (poly_on true) poly_points (poly_new true) poly_ranged run
  rule_ranged Opcode.SetPolyOutlined run all = shape_from_point_ranged (poly_on false) poly_points (poly_new false) poly_ranged run
  rule_ranged Opcode.SetPolyFilled run all = shape_from_point_ranged (poly_on true) poly_points (poly_new true) poly_ranged run
  rule_ranged Opcode.Field run all = field_ranged (moves_of work run)
  rule_ranged Opcode.SetColor run all = set_color_ranged (operands work.domain.multi run) (operands_ranged work.domain.multi run all)
  rule_ranged Opcode.Wait run all = list_ranged (map Entry.Wait run) (All-map InRange Entry.Wait run all)
  rule_ranged Opcode.SelectColor run all = select_ranged run all
  rule_ranged Opcode.Blink run all = blink_ranged run all
  rule_ranged _ run all = list_ranged [] (All-nil InRange)

pub drawn_values_are_in_range : DrawnValuesAreInRange
drawn_values_are_in_range work op run d is r all = subst Ranged is (rule_ranged work r op run all)

-- The results of the rules of characters and controls are in range.

byte : (code : ℕ) → IsCode code → IsByte code
byte code made = omega (arith, made.1)

step_ranged : (step : TextStep) → StepMade step → StepInRange step
step_ranged step h = grind (arith, byte)

hand_ranged : (s : State) → StateInRange s → HandInRange (hand_of s.drawing)
hand_ranged s r = record { pen = r.drawing.pen; colour = r.drawing.colour; text = r.drawing.text }

copies_ranged : (s : State) (last : LastChar) (n : ℕ) → StateInRange s → IsByte last.code → AllInRange (repeated_chars s last n)
unfolding repeated_chars
copies_ranged s last zero r code = All-nil InRange
copies_ranged s last (suc n) r code =
    let e = char_on s.drawing last in
    let here : InRange e = (code, hand_ranged s r) in
    All-cons InRange e (repeated_chars (after s e) last n) here (copies_ranged (after s e) last n (after_ranged s e r here) code)

module _ (work : Work) (r : StateInRange work.state) where
  last_ranged : (o : Option LastChar) (next : LastChar → Outcome) → IfSome o (λ last. IsByte last.code) → ((last : LastChar) → IsByte last.code → Ranged (next last)) →
      Ranged (with_last o next)
  last_ranged None next code each = tt
  last_ranged (Some last) next code each = each last code

  flags_ranged : (reverse underline wrap scroll : Bool) → Ranged (look_result work (record work.state.drawing.text { reverse = reverse; underline = underline; wrap = wrap; scroll = scroll }))
  flags_ranged reverse underline wrap scroll = looks_ranged work r _ (record { first = r.drawing.text.first; second = r.drawing.text.second; size = r.drawing.text.size })

  ended_ranged : (o : Option OpenDefinition) → Ranged (Ok (definition_ended_by work o))
  ended_ranged o = grind (arith, list_ranged, All-nil, one_ranged)

  opens_ranged : (e : Entry) → InRange e → Ranged (definition_result work e)
  opens_ranged e here = grind (arith, ended_ranged, All-cons, All-nil, All-append, walk_ranged)

  code_ranged : (code : Code) → IsMade code → Ranged (code_rule work code)
  code_ranged (Code.Char set code) made = one_ranged work r _ (byte code made, hand_ranged work.state r)
  code_ranged (Code.Step step) made = one_ranged work r _ (step_ranged step made, hand_ranged work.state r)
  code_ranged Code.Clear made = one_ranged work r (Entry.Clear work.state.drawing.pen) r.drawing.pen
  code_ranged Code.Bell made = one_ranged work r Entry.Bell tt
  code_ranged (Code.Repeat count) made = last_ranged work.state.last _ r.last (λ last code. list_ranged work r _ (copies_ranged work.state last count r code))
  code_ranged Code.ToEol made = last_ranged work.state.last _ r.last (λ last code. one_ranged work r (Entry.ToEol (hand_of work.state.drawing)) (hand_ranged work.state r))
  code_ranged (Code.BlinkMark on) made = one_ranged work r (Entry.BlinkMark on work.state.drawing.colour) r.drawing.colour
  code_ranged (Code.Cursor kind) made = one_ranged work r (Entry.Cursor kind) tt
  code_ranged (Code.Named size) made = looks_ranged work r _ (record { first = r.drawing.text.first; second = r.drawing.text.second; size = tt })
  code_ranged (Code.Reverse on) made = let look = work.state.drawing.text in flags_ranged on look.underline look.wrap look.scroll
  code_ranged (Code.Underline on) made = let look = work.state.drawing.text in flags_ranged look.reverse on look.wrap look.scroll
  code_ranged (Code.Wrap on) made = let look = work.state.drawing.text in flags_ranged look.reverse look.underline on look.scroll
  code_ranged (Code.Scroll on) made = let look = work.state.drawing.text in flags_ranged look.reverse look.underline look.wrap on
  code_ranged (Code.DefGlyph code) made = opens_ranged (Entry.GlyphStart code) (byte code made)
  code_ranged (Code.DefMask mask) made = opens_ranged (Entry.MaskStart mask) tt
  code_ranged (Code.DefMacro name show) made = ended_ranged work.state.definition
  code_ranged Code.End made = ended_ranged work.state.definition
  code_ranged _ made = list_ranged work r [] (All-nil InRange)

pub code_values_are_in_range : CodeValuesAreInRange
code_values_are_in_range work code d is made r = subst Ranged is (code_ranged work r code made)
