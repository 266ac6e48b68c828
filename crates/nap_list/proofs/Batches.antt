use Rattle.nap_list.proofs.{AgreeingFits, Agrees, AreCurrent, Attributes, AttributesFit, Base, BaseAgrees, Batch, BatchIsCurrent, Bool, CharSet, Code, Colour, ColourAgrees, ColourFits, Coordinates, CurrentAttributesChangeNothing, DefinitionsAgree, Drawing, EachIsCurrent, Entry, EqualCurrent, Hand, IfSome, Ink, IsCode, IsCodeInRange, IsSome, LastChar, List, MapColour, MayCome, ModeZeroIsBase, None, OpenDefinition, Option, Pen, PenFits, Shape, ShapeKind, Some, StartAgrees, State, StatesAgree, StepMade, TextEntriesAreWellMade, TextLeaves, TextStep, Texture, TextureFits, WellMade, [], after, ap, arith, attributes, base_after, batch_entries, code_ranges, colour_code, cond, definition_after, drop, drop-drop, drop-nil, effect_on_drawing, entry_of_shape, false, format_effector, format_effector_front, get_or, hand_of, ink_attributes, ink_of, known_after, last_after, last_point, length, length-drop, line_entry, lines_rest, map, outline, point_entry, points_rest, polyline_entries, refl, reset, restored_drawing, shape_end, shape_on, shape_points, slice_get, start, start_sets, suc, sym, take, text_entries_in, text_entry, text_entry_as, text_entry_on, true, unwrap_or, walk, with_attributes, with_pen, with_pen_and_last, with_pen_at, zero, ℕ, ⊤, ◌%◌, ◌++◌, ◌+◌, ◌-◌, ◌/◌, ◌<◌, ◌==◌, ◌∙◌, ◌∷◌, ◌≡◌}
use Rattle.nap_list.specs.declared.attribute.Pen.TheVariants.{After}

-- What attributes, entries, batches and shapes leave of a state.

-- attributes equal to those of an agreeing state fit

pen_fits : (w : Option Pen) (pen shown : Pen) → IfSome w (λ p. p ≡ pen) → PenFits shown (Some pen) → PenFits shown w
pen_fits = grind arith

-- this colour fits if it is in use in an agreeing state
colour_at : (d shown : Drawing) (colour : Colour) → BaseAgrees d.base shown.base → ColourAgrees colour shown.colour → ModeZeroIsBase d.base colour → ColourFits shown (Some colour)
colour_at = grind arith

colour_fits : (w : Option Colour) (d shown : Drawing) → IfSome w (λ c. c ≡ d.colour) → Agrees d shown → ColourFits shown w
colour_fits w d shown is h = grind (arith, colour_at d shown d.colour)

texture_fits : (w : Option Texture) (t shown : Texture) → IfSome w (λ u. u ≡ t) → TextureFits shown (Some t) → TextureFits shown w
texture_fits = grind arith

equal_current_fits : (h : Attributes) (d shown : Drawing) → EqualCurrent h d → Agrees d shown → AttributesFit shown h
equal_current_fits h d shown holds agrees = search (pen_fits h.pen d.pen, colour_fits h.colour d, texture_fits h.texture d.texture)

-- states that agree still agree after they take the same attributes

pen_taken : (w : Option Pen) (pen shown : Pen) → PenFits shown (Some pen) → PenFits (unwrap_or w shown) (Some (unwrap_or w pen))
pen_taken = grind arith

texture_taken : (w : Option Texture) (t shown : Texture) → TextureFits shown (Some t) → TextureFits (unwrap_or w shown) (Some (unwrap_or w t))
texture_taken = grind arith

colour_taken : (w : Option Colour) (colour shown : Colour) → ColourAgrees colour shown → ColourAgrees (unwrap_or w colour) (unwrap_or w shown)
colour_taken = grind arith

base_taken : (w : Option Colour) (base shown : Base) → BaseAgrees base shown → BaseAgrees (base_after base w) (base_after shown w)
base_taken = grind arith

mode_taken : (w : Option Colour) (base : Base) (colour : Colour) → IfSome w (λ c. c ≡ colour) → ModeZeroIsBase base colour → ModeZeroIsBase (base_after base w) (unwrap_or w colour)
mode_taken = grind arith

taken_agree : (h : Attributes) (d shown : Drawing) → EqualCurrent h d → Agrees d shown → Agrees (with_attributes d h) (with_attributes shown h)
taken_agree h d shown holds agrees = search (pen_taken, base_taken, colour_taken, mode_taken, texture_taken)

-- states that agree still agree after the effect of an entry

cond_agree : {A B : Type 0} (P : A → B → Type 0) (b : Bool) {x y : A} {u v : B} → P x u → P y v → P (cond b x y) (cond b u v)
cond_agree P true p q = p
cond_agree P false p q = q

module _ (d shown : Drawing) (h : Agrees d shown) where
  pen_set_at : (p : Option Coordinates) → Agrees (with_pen_at p d) (with_pen_at p shown)
  pen_set_at = grind arith

  reset_agree : (first second : ℕ) → Agrees (reset first second d) (reset first second shown)
  reset_agree first second =
      let in_mode : Base → Colour → Type 0 = λ b c. ModeZeroIsBase d.base c in
      let code = colour_code first in
      record {
        pen = refl;
        base = cond_agree BaseAgrees (code == 1) refl h.base;
        colour = cond_agree ColourAgrees (code == 1) tt (cond_agree ColourAgrees (code == 2) refl (cond_agree ColourAgrees (code == 3) refl h.colour));
        mode = cond_agree ModeZeroIsBase (code == 1) refl (cond_agree in_mode (code == 2) {x = d.base} {y = d.base} tt (cond_agree in_mode (code == 3) {x = d.base} {y = d.base} tt h.mode));
        texture = cond_agree (λ (t u : Texture). TextureFits u (Some t)) (second / 8 % 2 == 1) refl h.texture;
      }

  module _ (o p : Option OpenDefinition) (defs : DefinitionsAgree o p) where
    saved_agree : Agrees (restored_drawing o d) (restored_drawing p shown)
    saved_agree = grind arith

    drawn_agree : (e : Entry) → Agrees (effect_on_drawing o d e) (effect_on_drawing p shown e)
    drawn_agree (Entry.Arc filled points ink) = pen_set_at (slice_get points (length points - 1))
    drawn_agree (Entry.Poly filled points ink) = pen_set_at (slice_get points 0)
    drawn_agree (Entry.Reset first second pen) = reset_agree first second
    drawn_agree Entry.DefEnd = saved_agree
    drawn_agree _ = search

    definition_agrees : (e : Entry) → DefinitionsAgree (definition_after o d e) (definition_after p shown e)
    definition_agrees = grind arith

none_agrees : (o p : Option OpenDefinition) → DefinitionsAgree o p → o ≡ None → p ≡ None
none_agrees = grind arith

some_agrees : (o p : Option OpenDefinition) → DefinitionsAgree o p → IsSome o → IsSome p
some_agrees = grind arith

comes_too : (s shown : State) (e : Entry) → StatesAgree s shown → MayCome s e → MayCome shown e
comes_too = grind (arith, none_agrees, some_agrees)

last_made : (e : Entry) → WellMade e → IfSome (last_after e) (λ (last : LastChar). IsCode last.code)
last_made = grind arith

pub agreeing_fits : AgreeingFits
agreeing_fits s shown e agree holds made comes =
    let taken = taken_agree (attributes e) s.drawing shown.drawing holds agree.drawing in
    let known = ap (λ (known : List MapColour). known_after known e) agree.known in
    search (equal_current_fits (attributes e) s.drawing, comes_too s, drawn_agree, definition_agrees, last_made)

-- the state at the start agrees with itself
pub start_agrees : StartAgrees
start_agrees = search

is_unwrapped : {A : Type 0} (w : Option A) (a : A) → IfSome w (λ b. b ≡ a) → unwrap_or w a ≡ a
is_unwrapped = grind arith

base_stays : (w : Option Colour) (d : Drawing) → IfSome w (λ c. c ≡ d.colour) → ModeZeroIsBase d.base d.colour → base_after d.base w ≡ d.base
base_stays = grind arith

-- taking attributes that are all current changes nothing

pub current_changes_nothing : (h : Attributes) (d : Drawing) → AreCurrent h d → with_attributes d h ≡ d
current_changes_nothing h d current =
    let holds = current.holds in
    rw (
      is_unwrapped h.pen d.pen holds.pen,
      is_unwrapped h.pel d.pel holds.pel,
      current.base,
      is_unwrapped h.colour d.colour holds.colour,
      is_unwrapped h.texture d.texture holds.texture,
      is_unwrapped h.text d.text holds.text,
    )

pub taking_nothing : CurrentAttributesChangeNothing
taking_nothing h d holds mode = current_changes_nothing h d (record { holds = holds; base = base_stays h.colour d holds.colour mode })

-- The entries of a batch: after the first, each holds the current attributes, and leaves another pen and another last
-- character.

-- a direct colour that an entry held is current afterwards
colour_stays : (base : Base) (colour : Colour) → base_after (base_after base (Some colour)) (Some colour) ≡ base_after base (Some colour)
colour_stays = grind arith

-- after the first entry, the attributes of the second are current
abbrev Next : Entry → Entry → Type 0
Next e x = (s : State) → AreCurrent (attributes x) (after s e).drawing

-- entries of one kind: the first is one of these, and the attributes of each further one are current after the one
-- before
Chain : (Entry → Type 0) → List Entry → Type 0
Chain First [] = ⊤
Chain First (e ∷ es) = First e × ((s : State) → after s e ≡ with_pen_and_last s e (with_attributes s.drawing (attributes e))) × Chain (Next e) es

points_chain : (First : Entry → Type 0) (d : Drawing) → ((p : Coordinates) → First (point_entry d p)) → (points : List Coordinates) → Chain First (map (point_entry d) points)
unfolding Chain
points_chain First d first [] = tt
points_chain First d first (p ∷ ps) =
    (first p, λ s. refl, points_chain (Next (point_entry d p)) d (search colour_stays) ps)

lines_chain : (First : Entry → Type 0) (d : Drawing) (from : Coordinates) → ((p : Coordinates) → First (line_entry d from p)) → (points : List Coordinates) → Chain First (polyline_entries d from points)
unfolding Chain polyline_entries
lines_chain First d from first [] = tt
lines_chain First d from first (p ∷ ps) =
    (first p, λ s. refl, lines_chain (Next (line_entry d from p)) d p (search colour_stays) ps)

-- the hand that follows an entry of a text
abbrev next_hand : Hand → Hand
next_hand hand = record hand { pen = After }

-- a character or a move after another
next_typed : (set : CharSet) (hand : Hand) (a b : ℕ) → Next (text_entry set hand a) (text_entry set (next_hand hand) b)
next_typed set hand a b s = by (format_effector a) (format_effector b)
  where
    by : (first second : Option TextStep) → AreCurrent (attributes (text_entry_as second set (next_hand hand) b)) (after s (text_entry_as first set hand a)).drawing
    by None None = search colour_stays
    by (Some step) None = search colour_stays
    by _ _ = search colour_stays

-- the state after one entry of a text
typed_marks : (set : CharSet) (hand : Hand) (code : ℕ) (s : State) → after s (text_entry set hand code) ≡ with_pen_and_last s (text_entry set hand code) (with_attributes s.drawing (attributes (text_entry set hand code)))
typed_marks = grind arith

-- the entry of a byte of a text is well made: a move of one byte has no bytes of its own
step_made : (step : TextStep) → IsCodeInRange (Code.Step step) → StepMade step
step_made (TextStep.Aps a b) range = ((range.0.0, omega (arith, range.0.1)), (range.1.0, omega (arith, range.1.1)))
step_made _ range = tt

pub typed_made : TextEntriesAreWellMade
typed_made set hand code byte = by (format_effector code) refl
  where
    by : (step : Option TextStep) → format_effector code ≡ step → WellMade (text_entry_as step set hand code)
    by (Some step) is = step_made step (code_ranges start_sets (code ∷ []) (Code.Step step) 1 start_sets ((format_effector_front code step is).1 start_sets))
    by None is = byte is

text_chain : (First : Entry → Type 0) (set : CharSet) (hand : Hand) → ((code : ℕ) → First (text_entry set hand code)) → (codes : List ℕ) → Chain First (text_entries_in set hand codes)
unfolding Chain text_entries_in
text_chain First set hand first [] = tt
text_chain First set hand first (c ∷ cs) = (first c, typed_marks set hand c, text_chain (Next (text_entry set hand c)) set (next_hand hand) (next_typed set hand c) cs)

batch_chain : (b : Batch) → Chain (λ e. ⊤) (batch_entries b)
batch_chain (Batch.Points points d) = points_chain (λ e. ⊤) d.now (λ p. tt) points.now
batch_chain (Batch.Lines from points d) = lines_chain (λ e. ⊤) d.now from (λ p. tt) points.now
batch_chain (Batch.Text set codes pen d) = text_chain (λ e. ⊤) set (record (hand_of d.now) { pen = pen }) (λ c. tt) codes.now

-- the attributes of each entry are current when it comes, if those of the first are
chain_is_current : (s : State) (First : Entry → Type 0) (es : List Entry) → ((e : Entry) → First e → AreCurrent (attributes e) s.drawing) → Chain First es → EachIsCurrent s es
unfolding Chain EachIsCurrent
chain_is_current s First [] first chain = tt
chain_is_current s First (e ∷ es) first chain = (first e chain.0, chain_is_current (after s e) (Next e) es (λ x next. next s) chain.2)

pub batch_is_current : BatchIsCurrent
unfolding Chain
batch_is_current b s e es is = chain_is_current (after s e) (Next e) es (λ x next. next s) (rw is at (batch_chain b)).2

-- if the attributes of each entry are current, a number of entries leaves the pen and the last character of the last
-- one, and changes nothing else
chain_passes : (s : State) (First : Entry → Type 0) (es : List Entry) (m n : ℕ) (x : Entry) (xs : List Entry) → Chain First es → EachIsCurrent s (drop m es) → drop n (drop m es) ≡ x ∷ xs →
    walk s (take (suc n) (drop m es)) ≡ with_pen_and_last s x s.drawing
unfolding Chain EachIsCurrent walk
chain_passes s First [] m n x xs chain all_current is = cc (ap (drop n) (drop-nil {A = Entry} m), drop-nil {A = Entry} n)
chain_passes s First (e ∷ es) (suc m) n x xs chain all_current is = chain_passes s (Next e) es m n x xs chain.2 all_current is
chain_passes s First (e ∷ es) zero zero x xs chain all_current is =
    let same : e ≡ x = cc in
    rw (← same) (chain.1 s ∙ ap (with_pen_and_last s e) (current_changes_nothing (attributes e) s.drawing all_current.0))
chain_passes s First (e ∷ es) zero (suc n) x xs chain all_current is =
    chain_passes (after s e) (Next e) es zero n x xs chain.2 all_current.1 is ∙ ap (λ (t : State). with_pen_and_last t x t.drawing) (chain.1 s ∙ ap (with_pen_and_last s e) (current_changes_nothing (attributes e) s.drawing all_current.0))

-- entries that move the pen to this one, and change nothing else of the drawing or the open definition
abbrev pub MovePen : State → Pen → List Entry → Type 0
MovePen s pen list = ((walk s list).drawing ≡ with_pen pen s.drawing) × ((walk s list).definition ≡ s.definition)

-- the pen that the last of these entries leaves is all that changes, beside the last character
module _ (b : Batch) (m : ℕ) where
  abbrev rest : List Entry
  rest = drop m (batch_entries b)

  pub batch_moves : (s : State) (pen : Pen) (n count : ℕ) → m + n < length (batch_entries b) → EachIsCurrent s rest → suc n ≡ count →
      ((x : Entry) (xs : List Entry) → drop (m + n) (batch_entries b) ≡ x ∷ xs → pen ≡ (after start x).drawing.pen) → MovePen s pen (take count rest)
  batch_moves s pen n count less all_current size leaves = by (drop (m + n) (batch_entries b)) refl
    where
      by : (others : List Entry) → drop (m + n) (batch_entries b) ≡ others → MovePen s pen (take count rest)
      by [] is = absurd (omega (arith, less, ap length is, length-drop (m + n) (batch_entries b)))
      by (x ∷ xs) is =
          let all : walk s (take count rest) ≡ with_pen_and_last s x s.drawing =
          rw (← size) (chain_passes s (λ e. ⊤) (batch_entries b) m n x xs (batch_chain b) all_current (drop-drop n m (batch_entries b) ∙ is)) in
          (ap (λ (t : State). t.drawing) all ∙ ap (λ (p : Pen). with_pen p s.drawing) (sym (leaves x xs is)), ap (λ (t : State). t.definition) all)

-- the last entry of a text leaves the same state after another entry as with the first attributes
pub text_leaves : TextLeaves
unfolding walk text_entries_in
text_leaves s set hand codes front last is = ap (λ (cs : List ℕ). walk s (text_entries_in set hand cs)) is ∙ along s hand front
  where
    again : (s : State) (hand : Hand) (c : ℕ) (first second : Option TextStep) → AreCurrent (attributes (text_entry_as second set (next_hand hand) last)) (after s (text_entry_as first set hand c)).drawing →
        after (after s (text_entry_as first set hand c)) (text_entry_as second set (next_hand hand) last) ≡ after s (text_entry_as second set hand last)
    again s hand c None None current = ap (with_pen_and_last (after s (Entry.Char set c hand)) (Entry.Char set last (next_hand hand))) (current_changes_nothing _ _ current)
    again s hand c (Some step) None current = ap (with_pen_and_last (after s (Entry.TextMove step hand)) (Entry.Char set last (next_hand hand))) (current_changes_nothing _ _ current)
    again s hand c first second current = ap (with_pen_and_last (after s (text_entry_as first set hand c)) (text_entry_as second set (next_hand hand) last)) (current_changes_nothing _ _ current)

    along : (s : State) (hand : Hand) (front : List ℕ) → walk s (text_entries_in set hand (front ++ last ∷ [])) ≡ after s (text_entry set hand last)
    along s hand [] = refl
    along s hand (c ∷ cs) =
        along (after s (text_entry set hand c)) (next_hand hand) cs ∙ again s hand c (format_effector c) (format_effector last) (next_typed set hand c last s)

-- the entry at an index, and those after it

follows : {A : Type 0} {x : A} (xs list : List A) (n : ℕ) → drop n list ≡ x ∷ xs → drop n list ≡ x ∷ drop (n + 1) list
follows {x} xs list n is = is ∙ ap (λ l. x ∷ l) (sym (ap (drop 1) is) ∙ drop-drop 1 n list)

pub points_at : {b : Batch} {points : _} {d : _} {p : Coordinates} {ps : List Coordinates} (n : ℕ) → b ≡ Batch.Points points d → drop n points.now ≡ p ∷ ps →
    drop n (batch_entries b) ≡ point_entry d.now p ∷ drop (n + 1) (batch_entries b)
points_at {b} {points} {d} {ps} n is cut =
    follows (map (point_entry d.now) ps) (batch_entries b) n (rw is (sym (points_rest d.now points.now n) ∙ ap (map (point_entry d.now)) cut))

pub lines_at : {b : Batch} {from : _} {points : _} {d : _} {p : Coordinates} {ps : List Coordinates} (n : ℕ) → b ≡ Batch.Lines from points d → drop n points.now ≡ p ∷ ps →
    drop n (batch_entries b) ≡ line_entry d.now (last_point from (take n points.now)) p ∷ drop (n + 1) (batch_entries b)
unfolding polyline_entries
lines_at {b} {from} {points} {d} {p} {ps} n is cut =
    follows (polyline_entries d.now p ps) (batch_entries b) n (rw is (sym (lines_rest d.now from points.now n) ∙ ap (polyline_entries d.now (last_point from (take n points.now))) cut))

pub text_at : {b : Batch} {set : _} {codes : _} {first : Pen} {d : _} {n : ℕ} {pen : Pen} {c : ℕ} {cs : List ℕ} → b ≡ Batch.Text set codes first d →
    (n ≡ 0 → pen ≡ first) → (0 < n → pen ≡ After) → drop n codes.now ≡ c ∷ cs → drop n (batch_entries b) ≡ text_entry_on d.now pen set c ∷ drop (n + 1) (batch_entries b)
unfolding text_entries_in
text_at {b} {set} {codes} {first} {d} {n} {pen} {c} {cs} is front later cut =
    follows (text_entries_in set (next_hand (hand_of d.now)) cs) (batch_entries b) n (rw is (at (record (hand_of d.now) { pen = first }) codes.now n front later cut))
  where
    at : (hand : Hand) (codes : List ℕ) (n : ℕ) → (n ≡ 0 → pen ≡ hand.pen) → (0 < n → pen ≡ After) → drop n codes ≡ c ∷ cs →
        drop n (text_entries_in set hand codes) ≡ text_entry set (record hand { pen = pen }) c ∷ text_entries_in set (next_hand hand) cs
    at hand codes zero front later cut = rw (cut, front refl)
    at hand [] (suc n) front later cut = cc
    at hand (a ∷ rest) (suc n) front later cut = let on = later (omega arith) in at (next_hand hand) rest n (λ _. on) (λ _. on) cut

-- the pen that the first entry of a list leaves
pub same_pen : {list : List Entry} {x e : Entry} {xs es : List Entry} → list ≡ x ∷ xs → list ≡ e ∷ es → (after start x).drawing.pen ≡ (after start e).drawing.pen
same_pen {x = x} {e = e} first second =
    let same : x ≡ e = cc in
    ap (λ (e : Entry). (after start e).drawing.pen) same

-- an entry of a text leaves the pen unknown

typed_pen : (set : CharSet) (hand : Hand) (code : ℕ) → After ≡ (after start (text_entry set hand code)).drawing.pen
typed_pen = grind arith

pub text_pen : {b : Batch} {set : _} {codes : _} {first : Pen} {d : _} {e : Entry} {es : List Entry} (n : ℕ) → b ≡ Batch.Text set codes first d → drop n (batch_entries b) ≡ e ∷ es →
    After ≡ (after start e).drawing.pen
unfolding text_entries_in
text_pen {set = set} {codes} {first} {d} {e} {es} n is cut = at (record (hand_of d.now) { pen = first }) codes.now n (rw is at cut)
  where
    at : (hand : Hand) (codes : List ℕ) (n : ℕ) → drop n (text_entries_in set hand codes) ≡ e ∷ es → After ≡ (after start e).drawing.pen
    at hand [] n cut = cc (cut, drop-nil {A = Entry} n)
    at hand (c ∷ cs) zero cut =
        let same : text_entry set hand c ≡ e = cc in
        typed_pen set hand c ∙ ap (λ (x : Entry). (after start x).drawing.pen) same
    at hand (c ∷ cs) (suc n) cut = at (next_hand hand) cs n cut

-- where a line begins

pub last_of_prefix : (p : Coordinates) (points : List Coordinates) (i n : ℕ) (z : Coordinates) → i ≡ suc n → n < length points → last_point p (take i points) ≡ get_or points n z
unfolding last_point
last_of_prefix p [] i n z is less = absurd (omega arith)
last_of_prefix p (q ∷ qs) i zero z is less = rw is
last_of_prefix p (q ∷ qs) i (suc n) z is less = rw is (last_of_prefix q qs (suc n) n z refl (omega arith))

-- The drawing and the open definition that are kept beside a state.

-- these are the state's drawing and its open definition
abbrev pub AreOf : State → Drawing → Option OpenDefinition → Type 0
AreOf s d o = (s.drawing ≡ d) × (s.definition ≡ o)

-- after entries that move the pen, or none

pub part_moved : {t : State} {d : Drawing} {o : Option OpenDefinition} (s : State) (pen : Pen) (list : List Entry) → AreOf s d o → t ≡ walk s list →
    MovePen s pen list → AreOf t (with_pen pen d) o
part_moved s pen list are is moves = rw is (moves.0 ∙ ap (with_pen pen) are.0, moves.1 ∙ are.1)

pub none_moved : {t : State} {d : Drawing} {o : Option OpenDefinition} {count : ℕ} (s : State) (list : List Entry) → AreOf s d o → t ≡ walk s (take count list) → count ≡ 0 → AreOf t d o
unfolding walk
none_moved s list are is none = rw (is, none) are

-- the pen at a point that is there
pen_there : (w : Option Coordinates) (p : Coordinates) (d : Drawing) → IsSome w → with_pen_at w d ≡ with_pen (Pen.At (unwrap_or w p)) d
pen_there = grind arith

last_there : (p : Coordinates) (qs : List Coordinates) → IsSome (slice_get (p ∷ qs) (length qs))
last_there p [] = refl
last_there p (q ∷ qs) = last_there q qs

-- after a shape
module _ (s : State) (shape : Shape) where
  abbrev inked : Drawing → Drawing
  inked d = with_attributes d (ink_attributes (ink_of shape.drawing.now))

  shape_drawn : (after s (entry_of_shape shape)).drawing ≡ with_pen (Pen.At (shape_end shape.kind shape.from (shape_points shape))) (inked s.drawing)
  shape_drawn = by shape.kind shape.others.now
    where
      by : (kind : ShapeKind) (others : List Coordinates) →
          (after s (shape_on kind shape.filled shape.drawing.now (outline kind (shape.from ∷ others)))).drawing
          ≡ with_pen (Pen.At (shape_end kind shape.from (outline kind (shape.from ∷ others)))) (inked s.drawing)
      by ShapeKind.Poly others = refl
      by ShapeKind.Arc [] = refl
      by ShapeKind.Arc (q ∷ []) = refl
      by ShapeKind.Arc (q ∷ r ∷ rest) =
          let points = shape.from ∷ q ∷ r ∷ rest in
          let last : length points - 1 ≡ length (q ∷ r ∷ rest) = omega arith in
          pen_there (slice_get points (length points - 1)) shape.from (inked s.drawing) (rw last (last_there shape.from (q ∷ r ∷ rest)))

  shape_kept : (after s (entry_of_shape shape)).definition ≡ s.definition
  shape_kept = grind arith

  pub shape_stepped : {t : State} {d x : Drawing} {o : Option OpenDefinition} {ink : Ink} {end : Coordinates} → AreOf s d o → t ≡ after s (entry_of_shape shape) →
      ink ≡ ink_of shape.drawing.now → x ≡ with_attributes d (ink_attributes ink) → end ≡ shape_end shape.kind shape.from (shape_points shape) → AreOf t (with_pen (Pen.At end) x) o
  shape_stepped are is ink_is taken ends = rw (is, ends, taken, ink_is)
      (shape_drawn ∙ ap (λ d. with_pen (Pen.At (shape_end shape.kind shape.from (shape_points shape))) (inked d)) are.0, shape_kept ∙ are.1)
