-- Characters after text, one after another, and their lines.

use Rattle.nap_make.proofs.{All, All-head, All-map, All-tail, All-weaker, AllFit, CharLine, CharSet, Colour, ColourFits, Drawing, Entry, Fits, FollowsChar, Hand, IsCode, IsProper, List, None, Pen, Some, State, [], after, ap, append_assoc, arith, base_after, code_line, code_lines, code_text, drop, flat_map_more, format_effector, format_effector_front, hand_of, length, line, Common.lines, map, refl, subst, sym, take, text_entries, text_entries_in, text_entry_as, text_leaves, walk, ℕ, ◌++◌, ◌∙◌, ◌∷◌, ◌≡◌, ◌≢◌}

-- the attributes of a character after text
abbrev pub text_hand : Drawing → Hand
text_hand d = record (hand_of d) { pen = Pen.After }

-- a code is no format effector
plain_code : (code : ℕ) → IsCode code → format_effector code ≡ None
plain_code code is_code = grind (arith, format_effector_front)

-- a colour that fits does so again
colour_again : (colour : Colour) (d t : Drawing) → t.base ≡ base_after d.base (Some colour) → t.colour ≡ colour → ColourFits d (Some colour) → ColourFits t (Some colour)
colour_again colour d t is fits h = grind arith

module _ (set : CharSet) (d : Drawing) where
  abbrev char : ℕ → Entry
  char code = Entry.Char set code (text_hand d)

  chars_are : (codes : List ℕ) → All IsCode codes → text_entries d Pen.After set codes ≡ map char codes
  unfolding text_entries_in
  chars_are [] all = refl
  chars_are (code ∷ codes) all = grind (arith, plain_code, All-head, All-tail, chars_are codes (All-tail IsCode code codes all))

  pub no_text : (codes : List ℕ) → length codes ≡ 0 → text_entries d Pen.After set codes ≡ []
  unfolding text_entries_in
  no_text [] none = refl
  no_text (code ∷ codes) none = absurd (omega (arith, none))

  next_fits : (s : State) (code next : ℕ) → Fits s (char code) → IsCode next → Fits (after s (char code)) (char next)
  next_fits s code next fits is_code = grind (arith, colour_again)

  chars_fit : (s : State) (code : ℕ) (codes : List ℕ) → Fits s (char code) → All IsCode codes → AllFit (after s (char code)) (map char codes)
  unfolding AllFit
  chars_fit s code [] fits all = tt
  chars_fit s code (next ∷ codes) fits all =
      let here = next_fits s code next fits (All-head IsCode next codes all) in
      (here, chars_fit (after s (char code)) next codes here (All-tail IsCode next codes all))

  -- characters open no definition and end none
  chars_define : (s : State) (codes : List ℕ) → (walk s (map char codes)).definition ≡ s.definition
  unfolding walk
  chars_define s [] = refl
  chars_define s (code ∷ codes) = chars_define (after s (char code)) codes

  chars_unended : (codes : List ℕ) → All IsCode codes → All (λ e. e ≢ Entry.DefEnd) (map char codes)
  chars_unended codes all = All-map (λ e. e ≢ Entry.DefEnd) char codes (All-weaker IsCode (λ code. char code ≢ Entry.DefEnd) (λ code is_code is. let bad : ⊥ = cc in bad) codes all)

  chars_proper : (code : ℕ) (codes : List ℕ) → IsProper (char code) → All IsCode codes → All IsProper (map char codes)
  chars_proper code codes proper all =
      All-map IsProper char codes
      (All-weaker IsCode (λ next. IsProper (char next)) (λ next is_code. record { in_range = (omega (arith, is_code.1), proper.in_range.1); well_made = is_code }) codes all)

  lines_of_chars : (l : CharLine) (codes : List ℕ) → ((code : ℕ) → line (char code) ≡ l.front.now ++ (code_text code ++ l.back.now)) → lines (map char codes) ≡ code_lines l codes
  lines_of_chars l [] parts = refl
  lines_of_chars l (code ∷ codes) parts =
      ap (λ xs. (xs ++ 10 ∷ []) ++ lines (map char codes)) (parts code)
      ∙ ap (◌++ lines (map char codes)) (append_assoc l.front.now (code_text code ++ l.back.now) (10 ∷ []))
      ∙ ap (code_line l code ++◌) (lines_of_chars l codes parts)

-- After a character.

module _ {l : CharLine} {s : State} (follows : FollowsChar l s) where
  its_hand : follows.line_is.hand ≡ text_hand s.drawing
  its_hand = grind arith

  its_entry : follows.entry ≡ char l.set s.drawing follows.line_is.code
  its_entry = follows.line_is.entry_is ∙ ap (Entry.Char l.set follows.line_is.code) its_hand

  its_fit : Fits follows.before (char l.set s.drawing follows.line_is.code)
  its_fit = subst (Fits follows.before) its_entry follows.fits

  its_state : after follows.before (char l.set s.drawing follows.line_is.code) ≡ s
  its_state = sym (follows.state ∙ ap (after follows.before) its_entry)

  pub text_fits : (codes : List ℕ) → All IsCode codes → AllFit s (text_entries s.drawing Pen.After l.set codes)
  text_fits codes all = grind (arith, chars_are, its_state, chars_fit, its_fit)

  pub last_fits : (code : ℕ) → IsCode code → Fits s (char l.set s.drawing code)
  last_fits code is_code = subst (λ t. Fits t (char l.set s.drawing code)) its_state (next_fits l.set s.drawing follows.before follows.line_is.code code its_fit is_code)

  pub text_proper : (codes : List ℕ) → All IsCode codes → All IsProper (text_entries s.drawing Pen.After l.set codes)
  text_proper codes all =
      subst (All IsProper) (sym (chars_are l.set s.drawing codes all))
      (chars_proper l.set s.drawing follows.line_is.code codes (subst IsProper its_entry follows.proper) all)

  pub text_unended : (codes : List ℕ) → All IsCode codes → All (λ e. e ≢ Entry.DefEnd) (text_entries s.drawing Pen.After l.set codes)
  text_unended codes all = subst (All (λ e. e ≢ Entry.DefEnd)) (sym (chars_are l.set s.drawing codes all)) (chars_unended l.set s.drawing codes all)

  pub text_defines : (codes : List ℕ) → All IsCode codes → (walk s (text_entries s.drawing Pen.After l.set codes)).definition ≡ s.definition
  text_defines codes all = ap (λ es. (walk s es).definition) (chars_are l.set s.drawing codes all) ∙ chars_define l.set s.drawing s codes

  pub text_lines : (codes : List ℕ) → All IsCode codes → lines (text_entries s.drawing Pen.After l.set codes) ≡ code_lines l codes
  text_lines codes all = grind (arith, chars_are, lines_of_chars, its_hand)

  -- the state after a text is that after its last character
  pub text_left : (codes front : List ℕ) (last : ℕ) → codes ≡ front ++ last ∷ [] → IsCode last → after s (char l.set s.drawing last) ≡ walk s (text_entries s.drawing Pen.After l.set codes)
  text_left codes front last is is_code =
      sym (text_leaves s l.set (text_hand s.drawing) codes front last is ∙ ap (λ step. after s (text_entry_as step l.set (text_hand s.drawing) last)) (plain_code last is_code))

-- One more line.

pub one_line : (l : CharLine) (code : ℕ) (bytes digits others others2 others3 more : List ℕ) → bytes ≡ l.front.now ++ others → digits ≡ take 2 others → others2 ≡ drop 2 others → digits ≡ code_text code →
    others2 ≡ l.back.now ++ others3 → others3 ≡ 10 ∷ more → bytes ≡ code_line l code ++ more
one_line l code bytes digits others others2 others3 more is first second written back end = grind (arith, append_assoc)

pub codes_more : (l : CharLine) (bytes codes rest more : List ℕ) (code : ℕ) → bytes ≡ code_lines l codes ++ rest → rest ≡ code_line l code ++ more → bytes ≡ code_lines l (codes ++ code ∷ []) ++ more
codes_more l bytes codes rest more code is next =
    is ∙ ap (code_lines l codes ++◌) next ∙ sym (append_assoc (code_lines l codes) (code_line l code) more)
    ∙ ap (◌++ more) (flat_map_more (code_line l) [] codes code)

pub last_code : (codes front : List ℕ) (last : ℕ) → codes ≡ front ++ last ∷ [] → All IsCode codes → IsCode last
last_code codes front last is all = by front (subst (All IsCode) is all)
  where
    by : (front : List ℕ) → All IsCode (front ++ last ∷ []) → IsCode last
    by [] all = All-head IsCode last [] all
    by (code ∷ front) all = by front (All-tail IsCode code (front ++ last ∷ []) all)
