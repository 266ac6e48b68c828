use Rattle.nap_draw.proofs.{All, All-head, All-replicate, All-tail, AllFit, Bool, CharSet, Code, Colour, Common.operands, Coordinates, Drawing, Entry, EqualCurrent, Figure, IfSome, InMode, IsCode, IsTextByte, LastChar, List, MayCome, None, Ok, Option, Outcome, Pen, Runs.IsChunk, Runs.byte_operands_chunk, Some, State, StatesAgree, TextByteRule, WellMade, Work, [], add-one, after, agreeing_fits, ap, arith, attributes, blink, char_on, code_rule, corner, definition_after, drawn_text, drop, drop-cons, drop_min, effect_on_drawing, entries_result, false, figure_end, figure_entry, format_effector, format_effector_front, get_or, hand_of, known_after, last_after, last_char_of_text, last_or, length, map, min, operand_words, option_map, point_entry, rect_on, refl, repeated_chars, replicate, replicate_next, rule_result, single_of, slice_get, span_line_entry, subst, suc, sym, take, take-replicate, take_min, taking_nothing, text_entries_in, text_entry, text_leaves, typed_made, walk, with_pen, with_pen_moved_to, zero, ℕ, ◌%◌, ◌++◌, ◌+◌, ◌-◌, ◌<◌, ◌∙◌, ◌∷◌, ◌≡◌, ◌≢◌}

-- The states that the entries of a rule lead to.

-- The points that entries which only move the pen lead to.

-- entries of one shape that only move the pen, each to a point of its own
pub record Lands {A : Type 0} (entry : Drawing → A → Entry) (at : A → Coordinates) : Type 0 where
  pub keeps : (pen : Pen) (d : Drawing) → entry (with_pen pen d) ≡ entry d
  pub lands : (s : State) (x : A) → InMode s.drawing → after s (entry s.drawing x) ≡ with_pen_moved_to s (Some (at x))
  pub holds : (pen : Pen) (d : Drawing) (x : A) → EqualCurrent (attributes (entry d x)) (with_pen pen d)
  pub made : (d : Drawing) (x : A) → WellMade (entry d x)
  pub comes : (s : State) (d : Drawing) (x : A) → MayCome s (entry d x)

module _ {A : Type 0} {entry : Drawing → A → Entry} {at : A → Coordinates} (by : Lands entry at) where
  pub one : (s : State) (o : Option A) (x : A) → InMode s.drawing →
      after (with_pen_moved_to s (option_map at o)) (entry s.drawing x) ≡ with_pen_moved_to s (Some (at x))
  one s None x mode = by.lands s x mode
  one s (Some y) x mode =
      let t = with_pen_moved_to s (Some (at y)) in
      ap (λ (f : A → Entry). after t (f x)) (sym (by.keeps t.drawing.pen s.drawing)) ∙ by.lands t x mode

  walk_from : (s : State) (o : Option A) (xs : List A) → InMode s.drawing →
      walk (with_pen_moved_to s (option_map at o)) (map (entry s.drawing) xs) ≡ with_pen_moved_to s (option_map at (last_or o xs))
  unfolding walk last_or
  walk_from s o [] mode = refl
  walk_from s o (x ∷ xs) mode = ap (λ t. walk t (map (entry s.drawing) xs)) (one s o x mode) ∙ walk_from s (Some x) xs mode

  -- the point that such entries lead to
  pub draws_end : (work : Work) (xs : List A) (p : Option Coordinates) → InMode work.state.drawing → p ≡ option_map at (last_or None xs) →
      entries_result work entry (Some xs) ≡ Ok (record { entries = map (entry work.state.drawing) xs; work = record work { state = with_pen_moved_to work.state p }; clears = false })
  draws_end work xs p mode to =
      let all : State → Outcome = λ s. Ok (record { entries = map (entry work.state.drawing) xs; work = record work { state = s }; clears = false }) in
      ap all (walk_from work.state None xs mode ∙ ap (with_pen_moved_to work.state) (sym to))

-- the state after an entry that holds current attributes
pub left_by : (s : State) (e : Entry) → EqualCurrent (attributes e) s.drawing → InMode s.drawing →
    after s e ≡ record { drawing = effect_on_drawing s.definition s.drawing e; definition = definition_after s.definition s.drawing e; last = last_after e; known = known_after s.known e }
left_by s e holds mode = grind (arith, taking_nothing)

-- the pen moves to each point
pub point_lands : Lands point_entry (λ p. p)
point_lands = grind (arith, left_by)

-- the pen moves to the end of each line
pub line_lands : Lands span_line_entry (λ s. s.to)
line_lands = grind (arith, left_by)

-- the pen moves to the corner beside the start
pub rect_lands : (filled : Bool) → Lands (rect_on filled) (λ s. corner s.from s.to)
rect_lands filled = grind (arith, left_by)

pub stroke_lands : (figure : Figure) → Lands (figure_entry figure) (figure_end figure)
stroke_lands figure = grind (arith, line_lands, rect_lands)

pub itself : {A : Type 0} (o : Option A) → o ≡ option_map (λ x. x) o
itself o = grind arith

-- the last of them
end_last : {A : Type 0} (o : Option A) (x : A) (xs : List A) → last_or o (x ∷ xs) ≡ slice_get (x ∷ xs) (length xs)
unfolding last_or
end_last o x [] = refl
end_last o x (y ∷ ys) = end_last (Some x) y ys

pub end_is_last : {A : Type 0} (xs : List A) (p : Option A) → p ≡ slice_get xs (length xs - 1) → p ≡ last_or None xs
unfolding last_or
end_is_last [] p is = is
end_is_last (x ∷ xs) p is = let n : suc (length xs) - 1 ≡ length xs = omega arith in is ∙ (ap (slice_get (x ∷ xs)) n ∙ sym (end_last None x xs))

-- Entries that leave the attributes as they are.

-- the state with these attributes, and with this last character
abbrev at : Drawing → State → Option LastChar → State
at d s last = record s { drawing = d; last = last }

-- entries that leave the attributes as they are
pub record Stays {A : Type 0} (d : Drawing) (entry : A → Entry) : Type 0 where
  pub stays : (x : A) (s : State) (last : Option LastChar) → after (at d s last) (entry x) ≡ at d s None
  pub holds : (x : A) → EqualCurrent (attributes (entry x)) d
  pub made : (x : A) → WellMade (entry x)
  pub comes : (x : A) (s : State) → MayCome s (entry x)

module _ {A : Type 0} {d : Drawing} {entry : A → Entry} (by : Stays d entry) where
  pub walk_stays : (s : State) (last : Option LastChar) (x : A) (xs : List A) → walk (at d s last) (map entry (x ∷ xs)) ≡ at d s None
  unfolding walk
  walk_stays s last x [] = by.stays x s last
  walk_stays s last x (y ∷ ys) = ap (λ t. walk t (map entry (y ∷ ys))) (by.stays x s last) ∙ walk_stays s None y ys

  pub stays_fit : (s : State) (last : Option LastChar) (xs : List A) (shown : State) → StatesAgree (at d s last) shown →
      AllFit shown (map entry xs) × StatesAgree (walk (at d s last) (map entry xs)) (walk shown (map entry xs))
  unfolding AllFit walk
  stays_fit s last [] shown a = (tt, a)
  stays_fit s last (x ∷ xs) shown a =
      let e = entry x in
      let here = agreeing_fits (at d s last) shown e a (by.holds x) (by.made x) (by.comes x (at d s last)) in
      let there = by.stays x s last in
      let then = stays_fit s None xs (after shown e) (subst (λ (t : State). StatesAgree t (after shown e)) there here.1) in
      ((here.0, then.0), subst (λ (t : State). StatesAgree (walk t (map entry xs)) (walk (after shown e) (map entry xs))) (sym there) then.1)

pub wait_stays : (d : Drawing) → Stays d Entry.Wait
wait_stays d = grind arith

pub blink_stays : (d : Drawing) (k : ℕ) → InMode d → Stays d (blink k d.colour)
blink_stays d k mode = grind (arith, left_by)

-- a blink of its parts
pub blink_made : (k m : ℕ) (colour : Colour) (group address times : List ℕ) (a on off delay : ℕ) → m ≡ min k (length group) → address ≡ take m group → times ≡ drop m group →
    a ≡ single_of address → on ≡ get_or times 0 0 → off ≡ get_or times 1 0 → delay ≡ get_or times 2 0 → Entry.Blink a on off delay colour ≡ blink k colour group
blink_made k m colour group address times a on off delay part front back at one two three = grind (arith, take_min, drop_min)

-- the first pause of what is left
pub pause_left : (run : List ℕ) (i word : ℕ) → i < length run → word ≡ get_or run i 0 % 64 →
    map Entry.Wait (operand_words (drop i run)) ≡ Entry.Wait word ∷ map Entry.Wait (operand_words (drop (i + 1) run))
pause_left run i word inside made =
    let front : drop i run ≡ get_or run i 0 ∷ drop (i + 1) run = rw add-one (drop-cons run i 0 inside) in
    ap (λ (left : List ℕ). map Entry.Wait (operand_words left)) front ∙ ap (λ (word : ℕ). Entry.Wait word ∷ map Entry.Wait (operand_words (drop (i + 1) run))) (sym made)

-- the first blink of what is left
pub blink_left : (k : ℕ) {size : ℕ} (colour : Colour) {left : List ℕ} (group rest : List ℕ) {e : Entry} → size ≡ k + 3 → IsChunk size left group rest →
    e ≡ blink k colour (operand_words group) → map (blink k colour) (operands (k + 3) (operand_words left)) ≡ e ∷ map (blink k colour) (operands (k + 3) (operand_words rest))
blink_left k colour group rest is chunk made = grind (arith, byte_operands_chunk, chunk.0, chunk.1, chunk.2)

-- Texts, and characters repeated.

-- The state after the characters of a text and the moves among them.

-- the rule of a byte's code puts its entry
pub typed_rule : TextByteRule
typed_rule work set code = grind arith

-- the entry holds current attributes, and may come anywhere
typed_may : (s : State) (set : CharSet) (code : ℕ) → EqualCurrent (attributes (text_entry set (hand_of s.drawing) code)) s.drawing × MayCome s (text_entry set (hand_of s.drawing) code)
typed_may s set code = grind arith

after_byte : State → CharSet → ℕ → State
after_byte s set code = record s { drawing = with_pen Pen.After s.drawing; last = last_char_of_text set code }

-- the state after the entry
typed_left : (s : State) (set : CharSet) (code : ℕ) → InMode s.drawing →
    after s (text_entry set (hand_of s.drawing) code) ≡ record s { drawing = with_pen Pen.After s.drawing; last = last_char_of_text set code }
typed_left s set code mode = grind (arith, typed_may, left_by)

pub text_is : (s : State) (set : CharSet) (codes : List ℕ) → InMode s.drawing → drawn_text s set codes ≡ text_entries_in set (hand_of s.drawing) codes
unfolding drawn_text text_entries_in after_byte
text_is s set [] mode = refl
text_is s set (code ∷ codes) mode = grind (arith, typed_left, after_byte, (text_is (after_byte s set code) set codes mode))

pub text_left : (s : State) (set : CharSet) (codes front : List ℕ) (code : ℕ) (last : Option LastChar) → InMode s.drawing → codes ≡ front ++ code ∷ [] →
    last ≡ last_char_of_text set code → walk s (drawn_text s set codes) ≡ record s { drawing = with_pen Pen.After s.drawing; last = last }
text_left s set codes front code last mode is leaves =
    ap (walk s) (text_is s set codes mode) ∙ (text_leaves s set (hand_of s.drawing) codes front code is ∙ rw leaves (typed_left s set code mode))

pub text_fits : (s shown : State) (set : CharSet) (codes : List ℕ) → StatesAgree s shown → All IsTextByte codes →
    AllFit shown (drawn_text s set codes) × StatesAgree (walk s (drawn_text s set codes)) (walk shown (drawn_text s set codes))
unfolding drawn_text walk AllFit
text_fits s shown set [] agrees made = (tt, agrees)
text_fits s shown set (code ∷ codes) agrees made =
    let hand = hand_of s.drawing in
    let e = text_entry set hand code in
    let here = agreeing_fits s shown e agrees (typed_may s set code).0 (typed_made set hand code (made 0 code (omega arith))) (typed_may s set code).1 in
    let then = text_fits (after s e) (after shown e) set codes here.1 (λ k d less. made (suc k) d (omega arith)) in
    ((here.0, then.0), then.1)

pub text_none : (s : State) (set : CharSet) (codes : List ℕ) → codes ≡ [] → walk s (drawn_text s set codes) ≡ s
unfolding drawn_text walk
text_none s set codes is = ap (λ (codes : List ℕ). walk s (drawn_text s set codes)) is

-- the state after a text agrees with the one that its entries lead to
pub text_agrees : (s shown there left : State) (set : CharSet) (codes : List ℕ) → StatesAgree s shown → All IsTextByte codes → there ≡ walk shown (text_entries_in set (hand_of s.drawing) codes) →
    walk s (drawn_text s set codes) ≡ left → StatesAgree left there
text_agrees s shown there left set codes agrees made leads is =
    rw (leads ∙ ap (walk shown) (sym (text_is s set codes agrees.drawing.mode))) (subst (λ (t : State). StatesAgree t (walk shown (drawn_text s set codes))) is (text_fits s shown set codes agrees made).1)

pub no_codes : (codes : List ℕ) → length codes ≡ 0 → codes ≡ []
no_codes [] none = refl
no_codes (code ∷ codes) none = absurd (omega arith)

pub last_typed : (front : List ℕ) (code : ℕ) → All IsTextByte (front ++ code ∷ []) → IsTextByte code
last_typed [] code all = All-head IsTextByte code [] all
last_typed (x ∷ front) code all = last_typed front code (All-tail IsTextByte x (front ++ code ∷ []) all)

-- What a character leaves, once or repeated.

-- the last character is a code
pub last_is_code : (s shown : State) (last : LastChar) → StatesAgree s shown → s.last ≡ Some last → IsCode last.code
last_is_code s shown last agrees is = subst (λ (o : Option LastChar). IfSome o (λ (last : LastChar). IsCode last.code)) (sym agrees.last ∙ is) agrees.made

-- a code of a character is no move
code_stays : (code : ℕ) → IsCode code → format_effector code ≡ None
code_stays code made = grind (arith, format_effector_front)

module _ (last : LastChar) where
  pub char_holds : (s : State) → EqualCurrent (attributes (char_on s.drawing last)) s.drawing
  char_holds s = grind arith

  pub char_left : (s : State) → InMode s.drawing → after s (char_on s.drawing last) ≡ record s { drawing = with_pen Pen.After s.drawing; last = Some last }
  char_left s mode = left_by s (char_on s.drawing last) (char_holds s) mode

  -- a copy is what a text makes of the code
  copy_is : (d : Drawing) → IsCode last.code → text_entry last.set (hand_of d) last.code ≡ char_on d last
  copy_is d made = rw (code_stays last.code made) refl

  -- the copies are a text of that code alone
  copies_are : (s : State) (n : ℕ) → IsCode last.code → repeated_chars s last n ≡ drawn_text s last.set (replicate n last.code)
  unfolding repeated_chars drawn_text
  copies_are s zero made = refl
  copies_are s (suc n) made =
      let e = char_on s.drawing last in
      rw (copy_is s.drawing made) (ap (λ (list : List Entry). e ∷ list) (copies_are (after s e) n made))

  pub copies_many : (s : State) (n : ℕ) → length (repeated_chars s last n) ≡ n
  unfolding repeated_chars
  copies_many s zero = refl
  copies_many s (suc n) = ap suc (copies_many (after s (char_on s.drawing last)) n)

  -- they leave what the first leaves
  pub copies_leave : (s shown : State) (n : ℕ) → InMode s.drawing → IsCode last.code → 0 < n →
      walk shown (repeated_chars s last n) ≡ after shown (char_on s.drawing last)
  copies_leave s shown zero mode made some = absurd (omega arith)
  copies_leave s shown (suc n) mode made some =
      let codes = replicate (suc n) last.code in
      let ends : codes ≡ replicate n last.code ++ last.code ∷ [] = (let more : suc n ≡ n + 1 = omega arith in ap (λ k. replicate k last.code) more) ∙ replicate_next n last.code in
      ap (walk shown) (copies_are s (suc n) made ∙ text_is s last.set codes mode)
      ∙ (text_leaves shown last.set (hand_of s.drawing) codes (replicate n last.code) last.code ends ∙ ap (after shown) (copy_is s.drawing made))

  copies_typed : (n : ℕ) → IsCode last.code → All IsTextByte (replicate n last.code)
  copies_typed n made = All-replicate IsTextByte n last.code (λ _. made)

  pub copies_fit : (s shown : State) (n : ℕ) → StatesAgree s shown → IsCode last.code →
      AllFit shown (repeated_chars s last n) × StatesAgree (walk s (repeated_chars s last n)) (walk shown (repeated_chars s last n))
  copies_fit s shown n agrees made = rw (copies_are s n made) (text_fits s shown last.set (replicate n last.code) agrees (copies_typed n made))

  copies_some : (s : State) (n : ℕ) → 0 < n → drawn_text s last.set (replicate n last.code) ≢ []
  unfolding drawn_text
  copies_some s zero some none = omega arith
  copies_some s (suc n) some none = cc

  -- the code as often as it is repeated at most, and a prefix of these

  module _ (n count : ℕ) (same : count ≡ n) (few : n < 64) where
    prefix_is : take count (replicate 63 last.code) ≡ replicate n last.code
    prefix_is = rw same (take-replicate n 63 last.code (omega (arith, few)))

    pub prefix_typed : IsCode last.code → All IsTextByte (take count (replicate 63 last.code))
    prefix_typed made = rw prefix_is (copies_typed n made)

    pub prefix_some : (s : State) → 0 < n → drawn_text s last.set (take count (replicate 63 last.code)) ≢ []
    prefix_some s some = rw prefix_is (copies_some s n some)

    -- the rule of REPEAT, if the last entry is a character
    pub repeat_is : (work : Work) → work.state.last ≡ Some last → IsCode last.code →
        code_rule work (Code.Repeat n) ≡ Ok (rule_result work (drawn_text work.state last.set (take count (replicate 63 last.code))))
    repeat_is work is made = grind (arith, prefix_is, copies_are)
