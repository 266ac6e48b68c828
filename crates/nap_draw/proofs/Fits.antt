use Rattle.nap_draw.proofs.{Agrees, AllFit, Base, Bool, Code, CodeFits, Colour, ColourAgrees, Common.operands, Components, Coordinates, Definition, Displacement, DrawFault, Drawing, Entry, EqualCurrent, Err, InMode, IsMade, IsSome, LastChar, List, MaskFits, MayCome, MayFollow, ModeZeroIsBase, None, Ok, Opcode, OpenDefinition, Option, Outcome, Pen, Result, RuleFits, RuleResult, ShapeKind, Some, State, StatesAgree, TextLook, Texture, TextureFits, WellMade, Work, [], absolute_spans, after, agreeing_fits, and_then, area_of, arith, at_least_one, at_most_limit, attributes, blink, blinks, code_rule, colour_of_base, cond, definition_ended, definition_ended_by, definition_opened, definition_start, displaced_points, domain_in, domain_rule, entries_result, entry_result, eqb, false, field_on, field_rule, first_and_more, fits_join, hand_attributes, hand_of, is_known, last_or, length, map, map_rule, moves_of, nat_tests, no_attributes, one_entry_result, option_and_then, option_map, option_or, pen_point, pen_result, point_at, points_at, points_reached, polyline_spans, rect_chain_spans, refl, relative_spans, repeated_chars, reset_rule, rule, rule_result, selected_colour, set_color_rule, set_color_under, shape_from_pen, shape_from_point, shape_on, steps_limit, subst, sym, true, walk, walks_join, with_colour, with_domain, with_drawing, with_last, with_map_colour, with_pen_at, with_pen_moved_to, ℕ, ◌++◌, ◌+◌, ◌/◌, ◌<◌, ◌∷◌, ◌≡◌, ◌≤◌}
use Rattle.nap_draw.proofs.Walks.{Lands, Stays, blink_stays, copies_fit, last_is_code, line_lands, one, point_lands, rect_lands, stays_fit, wait_stays}
use Rattle.nap_draw.proofs.Results.{arc_made, ended_closed, holds_shape, poly_made, shape_comes}

-- The entries of a rule's result fit.

values_agree : (s : State) (d : Drawing) (shown : State) → StatesAgree s shown → Agrees d shown.drawing → StatesAgree (record s { drawing = d }) shown
values_agree s d shown a new = record { drawing = new; definition = a.definition; last = a.last; known = a.known; made = a.made }

pel_agrees : (s : State) (pel : Displacement) (shown : State) → StatesAgree s shown → StatesAgree (record s { drawing = record s.drawing { pel = pel } }) shown
pel_agrees s pel shown a = grind (arith, values_agree)

pen_agrees : (s : State) (p : Option Coordinates) (shown : State) → StatesAgree s shown → StatesAgree (record s { drawing = with_pen_at p s.drawing }) shown
pen_agrees s p shown h = grind (arith, values_agree)

module _ {A : Type 0} {entry : Drawing → A → Entry} {at : A → Coordinates} (by : Lands entry at) where
  holds_now : (s : State) (o : Option A) (x : A) → EqualCurrent (attributes (entry s.drawing x)) (with_pen_moved_to s (option_map at o)).drawing
  holds_now s None x = by.holds s.drawing.pen s.drawing x
  holds_now s (Some y) x = by.holds (Pen.At (at y)) s.drawing x

  in_mode : (s : State) (o : Option A) (shown : State) → StatesAgree (with_pen_moved_to s (option_map at o)) shown → InMode s.drawing
  in_mode s o shown h = grind arith

  pub all_fit : (s : State) (o : Option A) (xs : List A) (shown : State) → StatesAgree (with_pen_moved_to s (option_map at o)) shown →
      AllFit shown (map (entry s.drawing) xs) × StatesAgree (walk (with_pen_moved_to s (option_map at o)) (map (entry s.drawing) xs)) (walk shown (map (entry s.drawing) xs))
  unfolding AllFit walk
  all_fit s o [] shown a = (tt, a)
  all_fit s o (x ∷ xs) shown a =
      let e = entry s.drawing x in
      let t = with_pen_moved_to s (option_map at o) in
      let here = agreeing_fits t shown e a (holds_now s o x) (by.made s.drawing x) (by.comes t s.drawing x) in
      let there : after t e ≡ with_pen_moved_to s (Some (at x)) = one by s o x (in_mode s o shown a) in
      let then = all_fit s (Some x) xs (after shown e) (subst (λ (u : State). StatesAgree u (after shown e)) there here.1) in
      ((here.0, then.0), subst (λ (u : State). StatesAgree (walk u (map (entry s.drawing) xs)) (walk (after shown e) (map (entry s.drawing) xs))) (sym there) then.1)

text_agrees : (s : State) (look : TextLook) (shown : State) → StatesAgree s shown → StatesAgree (record s { drawing = record s.drawing { text = look } }) shown
text_agrees s look shown a = grind (arith, values_agree)

mask_agrees : (t : Texture) (mask : Option Displacement) (shown : Texture) → TextureFits shown (Some t) → MaskFits shown (option_or mask t.mask)
mask_agrees t mask shown h = grind arith

texture_agrees : (s : State) (word : ℕ) (mask : Option Displacement) (shown : State) → StatesAgree s shown →
    StatesAgree (record s { drawing = record s.drawing { texture = record { word = word; mask = option_or mask s.drawing.texture.mask } } }) shown
texture_agrees s word mask shown a = grind (arith, values_agree, mask_agrees)

base_mode : (base : Base) → ModeZeroIsBase base (colour_of_base base)
base_mode base = grind arith

base_agrees : (base : Base) (shown : Colour) → ColourAgrees (colour_of_base base) shown
base_agrees base shown = grind arith

select_agrees : (s : State) (addresses : List ℕ) (shown : State) → StatesAgree s shown → StatesAgree (record s { drawing = with_colour (selected_colour s.drawing.base addresses) s.drawing }) shown
select_agrees s addresses shown h = grind (arith, values_agree, base_agrees, base_mode)

direct_agrees : (s : State) (grb : Components) (shown : State) → StatesAgree s shown →
    StatesAgree (record s { drawing = record s.drawing { base = Base.Direct grb; colour = Colour.Direct grb } }) shown
direct_agrees s grb shown a = grind (arith, values_agree)

-- a colour of the colour map, which agrees with any colour that the entries left
abbrev ColourIsMapped : Colour → Type 0
ColourIsMapped (Colour.Front a) = Unit {0}
ColourIsMapped (Colour.Pair a b) = Unit {0}
ColourIsMapped _ = ⊥

mapped_agrees : (colour shown : Colour) → ColourIsMapped colour → ColourAgrees colour shown
mapped_agrees colour shown h = grind arith

hand_holds : (d : Drawing) → EqualCurrent (hand_attributes (hand_of d)) d
hand_holds d = grind arith

nothing_holds : (d : Drawing) → EqualCurrent no_attributes d
nothing_holds d = grind arith

end_follows : (s : State) (opened : OpenDefinition) → s.definition ≡ Some opened → MayFollow s Entry.DefEnd
end_follows s opened is = record { holds = nothing_holds s.drawing; made = tt; comes = subst IsSome (sym is) refl }

-- the result of a rule on this work
module _ (work : Work) where
  -- from agreeing states the entries fit one after another, and the states agree again
  abbrev Fitting : RuleResult → Type 0
  Fitting d = (shown : State) → StatesAgree work.state shown → AllFit shown d.entries × StatesAgree d.work.state (walk shown d.entries)

  abbrev IsFitting : Outcome → Type 0
  IsFitting (Ok d) = Fitting d
  IsFitting (Err fault) = Unit {0}

  each_fits : {A : Type 0} (r : Result A DrawFault) (f : A → Outcome) → ((x : A) → IsFitting (f x)) → IsFitting (and_then r f)
  each_fits (Ok x) f each = each x
  each_fits (Err fault) f each = tt

  cond_fits : (b : Bool) (x y : Outcome) → IsFitting x → IsFitting y → IsFitting (cond b x y)
  cond_fits b x y h h2 = grind arith

  -- nothing is put, and the pen or the pel changes
  silent_fits : (w : Work) → ((shown : State) → StatesAgree work.state shown → StatesAgree w.state shown) → Fitting (rule_result w [])
  unfolding AllFit walk
  silent_fits w agrees shown a = (tt, agrees shown a)

  attribute_fits : (d : Drawing) → ((shown : State) → StatesAgree work.state shown → StatesAgree (record work.state { drawing = d }) shown) → Fitting (rule_result (with_drawing work d) [])
  attribute_fits d = silent_fits (with_drawing work d)

  draws_fit : {A : Type 0} {entry : Drawing → A → Entry} {at : A → Coordinates} → Lands entry at → (xs : Option (List A)) → IsFitting (entries_result work entry xs)
  draws_fit by None = tt
  draws_fit by (Some xs) = λ shown a. all_fit by work.state None xs shown a

  goes_fits : (ps : Option (List Coordinates)) → IsFitting (pen_result work ps)
  goes_fits None = tt
  goes_fits (Some ps) =
      silent_fits (with_drawing work (with_pen_at (last_or None ps) work.state.drawing)) (pen_agrees work.state (last_or None ps))

  domain_fits : (run : List ℕ) → IsFitting (domain_rule work run)
  domain_fits [] = tt
  domain_fits (word ∷ words) =
      cond_fits (eqb (word / 32) 1) _ (Ok (rule_result (with_domain work (domain_in word) words) [])) tt
      (silent_fits (with_domain work (domain_in word) words) (pel_agrees work.state _))

  pen_fits : (run : List ℕ) (f : Coordinates → List Displacement → Outcome) →
      ((p : Coordinates) (ms : List Displacement) → IsFitting (f p ms)) →
      IsFitting (and_then (at_least_one (moves_of work run)) (λ ms. and_then (pen_point work.state.drawing.pen) (λ p. f p ms)))
  pen_fits run f each = each_fits (at_least_one (moves_of work run)) _ (λ ms. each_fits (pen_point work.state.drawing.pen) (λ p. f p ms) (λ p. each p ms))

  -- one entry that holds current attributes
  single_fits : (e : Entry) → EqualCurrent (attributes e) work.state.drawing → WellMade e → MayCome work.state e → Fitting (rule_result work (e ∷ []))
  unfolding AllFit walk
  single_fits e holds made comes shown a =
      let fits = agreeing_fits work.state shown e a holds made comes in ((fits.0, tt), fits.1)

  -- the rest of the rule gets a list that isn't empty
  some_fit : (xs : List Displacement) (f : List Displacement → Outcome) → ((ms : List Displacement) → 0 < length ms → IsFitting (f ms)) →
      IsFitting (and_then (at_least_one xs) f)
  some_fit [] f each = tt
  some_fit (x ∷ xs) f each = each (x ∷ xs) (omega arith)

  -- the rest of the rule gets a list that isn't too long
  few_fit : (ms : List Displacement) (f : List Displacement → Outcome) → (length ms ≤ steps_limit → IsFitting (f ms)) →
      IsFitting (and_then (at_most_limit ms) f)
  few_fit ms f each = grind (arith, nat_tests, nat_tests)

  one_fits : {A : Type 0} (entry : Drawing → A → Entry) (o : Option A) →
      ((x : A) → o ≡ Some x → Fitting (rule_result work (entry work.state.drawing x ∷ []))) → IsFitting (entry_result work entry o)
  one_fits entry None fits = tt
  one_fits entry (Some x) fits = fits x refl

  shape_is_made : (kind : ShapeKind) (filled : Bool) (d : Drawing) (p : Coordinates) (ms : List Displacement) (ps : List Coordinates) → 0 < length ms → length ms ≤ steps_limit →
      displaced_points kind p ms ≡ Some ps → WellMade (shape_on kind filled d ps)
  shape_is_made kind filled d p ms ps h h2 h3 = grind (arith, arc_made, poly_made)

  module _ (kind : ShapeKind) (filled : Bool) where
    shape_fits : (p : Coordinates) (ms : List Displacement) → 0 < length ms → length ms ≤ steps_limit → IsFitting (entry_result work (shape_on kind filled) (displaced_points kind p ms))
    shape_fits p ms some few =
        let d = work.state.drawing in
        one_fits (shape_on kind filled) (displaced_points kind p ms) (λ ps is.
        single_fits (shape_on kind filled d ps) (holds_shape kind filled d ps) (shape_is_made kind filled d p ms ps some few is) (shape_comes kind filled d ps work.state))

    shape_pen_fits : (run : List ℕ) → IsFitting (shape_from_pen work run (shape_on kind filled) (displaced_points kind))
    shape_pen_fits run = grind (arith, some_fit, few_fit, each_fits, shape_fits)

    point_fits : (o : Option Coordinates) (ms : List Displacement) → 0 < length ms → length ms ≤ steps_limit →
        IsFitting (entry_result work (shape_on kind filled) (option_and_then (λ p. displaced_points kind p ms) o))
    point_fits o ms h h2 = grind (arith, shape_fits)

    first_fits : (xs : List Displacement) →
        IsFitting (and_then (first_and_more xs) (λ (m, ms). and_then (at_most_limit ms) (λ ms. entry_result work (shape_on kind filled) (option_and_then (λ p. displaced_points kind p ms) (point_at m)))))
    first_fits xs = grind (arith, few_fit, point_fits)

    shape_point_fits : (run : List ℕ) → IsFitting (shape_from_point work run (shape_on kind filled) (displaced_points kind))
    shape_point_fits run = first_fits (moves_of work run)

  field_fits : (ms : List Displacement) → IsFitting (field_rule work ms)
  field_fits ms = each_fits (area_of work ms) _ (λ area. one_fits field_on (Some area) (λ a is.
      single_fits (field_on work.state.drawing a) (grind arith) tt tt))

  stay_fits : {A : Type 0} (entry : A → Entry) → (InMode work.state.drawing → Stays work.state.drawing entry) → (xs : List A) →
      Fitting (rule_result work (map entry xs))
  stay_fits entry stays xs shown a = stays_fit (stays a.drawing.mode) work.state work.state.last xs shown a

  blink_fits : (k : ℕ) (groups : List (List ℕ)) → Fitting (rule_result work (blinks k work.state.drawing.colour groups))
  blink_fits k [] = single_fits (Entry.BlinkEnd work.state.drawing.colour) (grind arith) tt tt
  blink_fits k (group ∷ groups) = stay_fits (blink k work.state.drawing.colour) (blink_stays work.state.drawing k) (group ∷ groups)

  reset_fits : (first second : ℕ) → IsFitting (reset_rule work first second)
  reset_fits first second = single_fits _ (grind arith) tt tt

  new_fits : (a : ℕ) (grb : Components) → ColourIsMapped work.state.drawing.colour → is_known a grb work.state.known ≡ false →
      IsFitting (Ok (record { entries = Entry.Map a grb ∷ []; work = record work { state = with_map_colour work.state a grb }; clears = false }))
  unfolding AllFit walk
  new_fits a grb chosen new shown agrees = grind (arith, mapped_agrees)

  map_fits : (a : ℕ) (grb : Components) → ColourIsMapped work.state.drawing.colour → IsFitting (map_rule work a grb)
  map_fits a grb chosen = by (is_known a grb work.state.known) refl
    where
      by : (known : Bool) → is_known a grb work.state.known ≡ known → IsFitting (map_rule work a grb)
      by true is = rw is (silent_fits work (λ shown agrees. agrees))
      by false is = rw is (new_fits a grb chosen is)

  colours_fit : (colour : Colour) (grb : Components) → work.state.drawing.colour ≡ colour → IsFitting (set_color_under work colour grb)
  colours_fit (Colour.Own origin) grb is = attribute_fits _ (direct_agrees work.state grb)
  colours_fit (Colour.Direct old) grb is = attribute_fits _ (direct_agrees work.state grb)
  colours_fit (Colour.Front a) grb is = map_fits a grb (subst ColourIsMapped (sym is) tt)
  colours_fit (Colour.Pair a b) grb is = map_fits a grb (subst ColourIsMapped (sym is) tt)
  colours_fit (Colour.ByReset preset) grb is = tt

  set_color_fits : (operands : List (List ℕ)) → IsFitting (set_color_rule work operands)
  set_color_fits operands = grind (arith, colours_fit)

  rule_is_fitting : (op : Opcode) (run : List ℕ) → IsFitting (rule work op run)
  rule_is_fitting Opcode.Domain run = domain_fits run
  rule_is_fitting Opcode.PointSetAbs run = each_fits _ _ (λ ms. goes_fits (points_at ms))
  rule_is_fitting Opcode.PointSetRel run = pen_fits run _ (λ p ms. goes_fits (points_reached p ms))
  rule_is_fitting Opcode.PointAbs run = each_fits _ _ (λ ms. draws_fit point_lands (points_at ms))
  rule_is_fitting Opcode.PointRel run = pen_fits run _ (λ p ms. draws_fit point_lands (points_reached p ms))
  rule_is_fitting Opcode.LineAbs run = pen_fits run _ (λ p ms. draws_fit line_lands (option_map (polyline_spans p) (points_at ms)))
  rule_is_fitting Opcode.LineRel run = pen_fits run _ (λ p ms. draws_fit line_lands (option_map (polyline_spans p) (points_reached p ms)))
  rule_is_fitting Opcode.SetLineAbs run = each_fits _ _ (λ ms. draws_fit line_lands (absolute_spans ms))
  rule_is_fitting Opcode.SetLineRel run = each_fits _ _ (λ ms. draws_fit line_lands (relative_spans ms))
  rule_is_fitting Opcode.ArcOutlined run = shape_pen_fits ShapeKind.Arc false run
  rule_is_fitting Opcode.ArcFilled run = shape_pen_fits ShapeKind.Arc true run
  rule_is_fitting Opcode.SetArcOutlined run = shape_point_fits ShapeKind.Arc false run
  rule_is_fitting Opcode.SetArcFilled run = shape_point_fits ShapeKind.Arc true run
  rule_is_fitting Opcode.RectOutlined run = pen_fits run _ (λ p ms. draws_fit (rect_lands false) (rect_chain_spans p ms))
  rule_is_fitting Opcode.RectFilled run = pen_fits run _ (λ p ms. draws_fit (rect_lands true) (rect_chain_spans p ms))
  rule_is_fitting Opcode.SetRectOutlined run = each_fits _ _ (λ ms. draws_fit (rect_lands false) (relative_spans ms))
  rule_is_fitting Opcode.SetRectFilled run = each_fits _ _ (λ ms. draws_fit (rect_lands true) (relative_spans ms))
  rule_is_fitting Opcode.PolyOutlined run = shape_pen_fits ShapeKind.Poly false run
  rule_is_fitting Opcode.PolyFilled run = shape_pen_fits ShapeKind.Poly true run
  rule_is_fitting Opcode.SetPolyOutlined run = shape_point_fits ShapeKind.Poly false run
  rule_is_fitting Opcode.SetPolyFilled run = shape_point_fits ShapeKind.Poly true run
  rule_is_fitting Opcode.Field run = field_fits (moves_of work run)
  rule_is_fitting Opcode.Reset run = reset_fits _ _
  rule_is_fitting Opcode.Text run = attribute_fits _ (text_agrees work.state _)
  rule_is_fitting Opcode.Texture run = attribute_fits _ (texture_agrees work.state _ _)
  rule_is_fitting Opcode.SelectColor run = attribute_fits _ (select_agrees work.state _)
  rule_is_fitting Opcode.SetColor run = set_color_fits (operands work.domain.multi run)
  rule_is_fitting Opcode.Wait run = stay_fits Entry.Wait (λ _. wait_stays work.state.drawing) run
  rule_is_fitting Opcode.Blink run = blink_fits work.domain.single (operands (work.domain.single + 3) run)
  rule_is_fitting _ run = silent_fits work (λ shown agrees. agrees)

  -- a character or a control

  last_fits : (o : Option LastChar) (next : LastChar → Outcome) → work.state.last ≡ o → ((last : LastChar) → work.state.last ≡ Some last → IsFitting (next last)) →
      IsFitting (with_last o next)
  last_fits None next is each = tt
  last_fits (Some last) next is each = each last is

  copies_are_fitting : (n : ℕ) (last : LastChar) → work.state.last ≡ Some last → Fitting (rule_result work (repeated_chars work.state last n))
  copies_are_fitting n last is shown a = copies_fit last work.state shown n a (last_is_code work.state shown last a is)

  entry_fits : (e : Entry) → MayFollow work.state e → IsFitting (one_entry_result work e)
  entry_fits e follows = single_fits e follows.holds follows.made follows.comes

  -- the open definition ends

  ended_fits : (o : Option OpenDefinition) → work.state.definition ≡ o → Fitting (definition_ended_by work o)
  unfolding AllFit walk
  ended_fits None is shown a = (tt, a)
  ended_fits (Some opened) is shown a =
      let follows = end_follows work.state opened is in
      let fits = agreeing_fits work.state shown Entry.DefEnd a follows.holds follows.made follows.comes in ((fits.0, tt), fits.1)

  -- another definition begins

  start_follows : (what : Definition) → WellMade (definition_start what) → MayFollow (definition_ended work).work.state (definition_start what)
  start_follows what h = grind (arith, nothing_holds, ended_closed)

  pub opened_fits : (what : Definition) → WellMade (definition_start what) → (shown : State) → StatesAgree work.state shown →
      AllFit shown ((definition_ended work).entries ++ definition_start what ∷ []) × StatesAgree (definition_opened (definition_ended work) (definition_start what)).work.state (walk shown ((definition_ended work).entries ++ definition_start what ∷ []))
  unfolding AllFit walk
  opened_fits what made shown a = grind (arith, ended_fits, start_follows, agreeing_fits, fits_join, walks_join)

  code_is_fitting : (code : Code) → IsMade code → IsFitting (code_rule work code)
  code_is_fitting (Code.Char set code) made = entry_fits _ (grind (arith, hand_holds))
  code_is_fitting (Code.Step step) made = entry_fits _ (grind (arith, hand_holds))
  code_is_fitting Code.Clear made = entry_fits _ (grind arith)
  code_is_fitting Code.Bell made = entry_fits _ (grind (arith, nothing_holds))
  code_is_fitting (Code.Repeat count) made = last_fits work.state.last _ refl (copies_are_fitting count)
  code_is_fitting Code.ToEol made =
      last_fits work.state.last _ refl (λ last is. entry_fits _ (record { holds = hand_holds work.state.drawing; made = tt; comes = subst IsSome (sym is) refl }))
  code_is_fitting (Code.BlinkMark on) made = entry_fits _ (grind arith)
  code_is_fitting (Code.Cursor kind) made = entry_fits _ (grind (arith, nothing_holds))
  code_is_fitting (Code.Named size) made = attribute_fits _ (text_agrees work.state _)
  code_is_fitting (Code.Reverse on) made = attribute_fits _ (text_agrees work.state _)
  code_is_fitting (Code.Underline on) made = attribute_fits _ (text_agrees work.state _)
  code_is_fitting (Code.Wrap on) made = attribute_fits _ (text_agrees work.state _)
  code_is_fitting (Code.Scroll on) made = attribute_fits _ (text_agrees work.state _)
  code_is_fitting (Code.DefGlyph code) made = opened_fits (Definition.Glyph code) made
  code_is_fitting (Code.DefMask mask) made = opened_fits (Definition.Mask mask) tt
  code_is_fitting (Code.DefMacro name show) made = ended_fits work.state.definition refl
  code_is_fitting Code.End made = ended_fits work.state.definition refl
  code_is_fitting _ made = silent_fits work (λ shown agrees. agrees)

pub rule_fits : RuleFits
rule_fits work op run shown d is agrees = subst (IsFitting work) is (rule_is_fitting work op run) shown agrees

pub code_fits : CodeFits
code_fits work code shown d is made agrees = subst (IsFitting work) is (code_is_fitting work code made) shown agrees
