-- The prelude: commands that make the attributes of an entry current. What is current needs none.

use Rattle.nap_canon.proofs.{All, All-append, All-cons, All-nil, AllFit, AppendsCommands, AreCurrent, Attributes, AttributesFit, AttributesInRange, Base, Bool, CharSize, Colour, ColourFits, ColourInRange, Command, Components, Coordinates, Decides-int_eq, Displacement, Drawing, Entry, Fits, Flag, HasSixteenBitParts, IfSome, Ink, IsAddress, IsInRange, IsInSquare, IsWord, List, MaskFits, ModeZeroIsBase, None, OpenDefinition, Option, Origin, Pen, PenFits, PenInRange, Pending, PreludeLeads, Preset, SizeInRange, Some, State, TextInRange, TextLook, Texture, TextureFits, TextureInRange, [], after, ap, append-nil, append_assoc, arith, attributes, base_after, base_commands, colour_code, colour_of_base, colour_only, colour_prelude, cond, definition_after, effect, effect_on_drawing, effects, false, flag_commands, given_size_commands, ink_attributes, length, look_with_flag, mask_commands, named_size_commands, nat_tests, pel_prelude, pen_only, pen_prelude, pieces_bytes, point_attributes, prelude, refl, restored_drawing, same_base, same_colour, same_flag, same_move, same_pen, same_size, same_texture, slice_get, start, subst, sym, text_end_after, text_prelude, texture_prelude, true, unless, unwrap_or, walk, with_attributes, with_pen_at, words_commands, ℕ, ⊤, ◌&&◌, ◌++◌, ◌-◌, ◌==◌, ◌∙◌, ◌∷◌, ◌≡◌}

-- Values that pass a test of equality are equal.

pub move_is : (a b : Displacement) → same_move a b ≡ true → a ≡ b
move_is a b e = grind (arith, nat_tests, Decides-int_eq)

pub pen_is : (a b : Pen) → same_pen a b ≡ true → a ≡ b
pen_is a b e = grind (arith, nat_tests)

pub colour_is : (a b : Colour) → same_colour a b ≡ true → a ≡ b
colour_is a b e = grind (arith, nat_tests)

pub base_is : (a b : Base) → same_base a b ≡ true → a ≡ b
base_is a b e = grind (arith, nat_tests)

pub size_is : (a b : CharSize) → same_size a b ≡ true → a ≡ b
size_is a b e = grind (arith, nat_tests, Decides-int_eq)

pub texture_is : (a b : Texture) → same_texture a b ≡ true → a ≡ b
texture_is a b e = grind (arith, nat_tests, Decides-int_eq)

pub flag_is : (a b : Bool) → same_flag a b ≡ true → a ≡ b
flag_is a b e = grind arith

-- Commands that lead from some attributes to others.

abbrev pub CommandInRange : Command → Type 0
CommandInRange (Command.point_set p) = IsInSquare p
CommandInRange (Command.pel m) = IsInRange m
CommandInRange (Command.select_front a) = IsAddress a
CommandInRange (Command.select_pair a b) = IsAddress a × IsAddress b
CommandInRange (Command.set_color grb) = HasSixteenBitParts grb
CommandInRange (Command.texture word) = IsWord word
CommandInRange (Command.texture_mask word m) = IsWord word × IsInRange m
CommandInRange (Command.text first second) = IsWord first × IsWord second
CommandInRange (Command.text_size first second m) = IsWord first × IsWord second × IsInRange m
CommandInRange _ = ⊤

-- a colour of mode 0, which SET COLOR sets
abbrev pub IsModeZero : Colour → Type 0
IsModeZero (Colour.Own origin) = ⊤
IsModeZero (Colour.Direct grb) = ⊤
IsModeZero _ = ⊥

-- The command has its effect on these attributes.
abbrev pub Takes : Command → Drawing → Type 0
Takes (Command.set_color grb) d = IsModeZero d.colour
Takes _ d = ⊤

-- each command of a list has its effect, after those before it
abbrev pub AllTake : List Command → Drawing → Type 0
AllTake [] d = ⊤
AllTake (c ∷ cs) d = Takes c d × AllTake cs (effect c d)

-- The commands lead from the attributes d to the attributes e. If R holds, their operands are in range.
pub record Leads (R : Type 0) (cs : List Command) (d e : Drawing) : Type 0 where
  pub there : effects cs d ≡ e
  pub takes : AllTake cs d
  pub inside : R → All CommandInRange cs

effects-append : (xs ys : List Command) (d : Drawing) → effects (xs ++ ys) d ≡ effects ys (effects xs d)
effects-append [] ys d = refl
effects-append (x ∷ xs) ys d = effects-append xs ys (effect x d)

take_after : (xs ys : List Command) (d : Drawing) → AllTake xs d → AllTake ys (effects xs d) → AllTake (xs ++ ys) d
take_after [] ys d first second = second
take_after (x ∷ xs) ys d first second = (first.0, take_after xs ys (effect x d) first.1 second)

module _ (R : Type 0) where
  pub none_leads : (d e : Drawing) → d ≡ e → Leads R [] d e
  none_leads d e is = record { there = is; takes = tt; inside = λ r. All-nil CommandInRange }

  pub one_leads : (c : Command) (d e : Drawing) → effect c d ≡ e → Takes c d → (R → CommandInRange c) → Leads R (c ∷ []) d e
  one_leads c d e is takes inside = record { there = is; takes = (takes, tt); inside = λ r. All-cons CommandInRange c [] (inside r) (All-nil CommandInRange) }

  pub both_leads : (xs ys : List Command) (d e f : Drawing) → Leads R xs d e → Leads R ys e f → Leads R (xs ++ ys) d f
  both_leads xs ys d e f first second = record {
    there = effects-append xs ys d ∙ ap (effects ys) first.there ∙ second.there;
    takes = take_after xs ys d first.takes (subst (AllTake ys) (sym first.there) second.takes);
    inside = λ r. All-append CommandInRange xs ys (first.inside r) (second.inside r);
  }

  pub unless_leads : (same : Bool) (xs : List Command) (d e : Drawing) → (same ≡ true → d ≡ e) → Leads R xs d e → Leads R (unless same xs) d e
  unless_leads same xs d e h h2 = grind (arith, none_leads)

-- The prelude makes the attributes of an entry current. Its commands are in range if these are.

abbrev colours_at : Base → Colour → Drawing → Drawing
colours_at base colour d = record d { base = base; colour = colour }

abbrev textured : ℕ → Option Displacement → Drawing → Drawing
textured word mask d = record d { texture = record { word = word; mask = mask } }

abbrev looking : TextLook → Drawing → Drawing
looking t d = record d { text = t }

-- the size after a given one, if there is one, is set
abbrev given_or : CharSize → CharSize → CharSize
given_or old (CharSize.Given m) = CharSize.Given m
given_or old (CharSize.Named size) = old

-- a flag of the text attributes
abbrev flag_of : Flag → TextLook → Bool
flag_of Flag.Reverse t = t.reverse
flag_of Flag.Underline t = t.underline
flag_of Flag.Wrap t = t.wrap
flag_of Flag.Scroll t = t.scroll

flag_kept : (f : Flag) (t : TextLook) → look_with_flag f (flag_of f t) t ≡ t
flag_kept f t = grind arith

module _ (R : Type 0) where
  pen_leads : (d : Drawing) (w : Option Pen) → PenFits d.pen w → (R → IfSome w PenInRange) → Leads R (pen_prelude d.pen w) d (record d { pen = unwrap_or w d.pen })
  unfolding pen_prelude
  pen_leads d w h h2 = grind (arith, none_leads, unless_leads, pen_is, one_leads)

  pel_leads : (d : Drawing) (w : Option Displacement) → (R → IfSome w IsInRange) → Leads R (pel_prelude d.pel w) d (record d { pel = unwrap_or w d.pel })
  unfolding pel_prelude
  pel_leads d w h = grind (arith, none_leads, unless_leads, move_is, one_leads)

  -- the colour

  mode_leads : (d : Drawing) (base : Base) (old : Colour) → ModeZeroIsBase base old → Leads R (base_commands old) (colours_at base old d) (colours_at base (colour_of_base base) d)
  mode_leads d base old h = grind (arith, none_leads, one_leads)

  paints : (d : Drawing) (base : Base) (grb : Components) → (R → HasSixteenBitParts grb) →
      Leads R (Command.set_color grb ∷ []) (colours_at base (colour_of_base base) d) (colours_at (Base.Direct grb) (Colour.Direct grb) d)
  paints d base grb h = grind (arith, one_leads)

  module _ (d : Drawing) (base : Base) (old : Colour) (h : ModeZeroIsBase base old) where
    abbrev from : Drawing
    from = colours_at base old d

    pub colour_leads : (w : Option Colour) → ColourFits from w → (R → IfSome w ColourInRange) →
        Leads R (colour_prelude base old w) from (colours_at (base_after base w) (unwrap_or w old) d)
    unfolding colour_prelude
    colour_leads None fits inside = none_leads R from from refl
    colour_leads (Some (Colour.Own origin)) fits inside = grind (arith, unless_leads, colour_is, one_leads)
    colour_leads (Some (Colour.Direct grb)) fits inside = grind (arith, unless_leads, colour_is, both_leads, mode_leads, base_is, paints)
    colour_leads (Some (Colour.Front a)) fits inside = grind (arith, unless_leads, colour_is, one_leads)
    colour_leads (Some (Colour.Pair a b)) fits inside = grind (arith, unless_leads, colour_is, one_leads)
    colour_leads (Some (Colour.ByReset preset)) fits inside = grind (arith, unless_leads, none_leads)

  -- the texture

  mask_leads : (d : Drawing) (was word : ℕ) (old new : Option Displacement) → MaskFits (record { word = was; mask = old }) new → (R → IsWord word) → (R → IfSome new IsInRange) →
      Leads R (mask_commands word old new) (textured was old d) (textured word new d)
  mask_leads d was word old new h h2 h3 = grind (arith, one_leads, move_is)

  texture_leads : (d : Drawing) (w : Option Texture) → TextureFits d.texture w → (R → IfSome w TextureInRange) →
      Leads R (texture_prelude d.texture w) d (record d { texture = unwrap_or w d.texture })
  unfolding texture_prelude
  texture_leads d None fits inside = none_leads R d d refl
  texture_leads d (Some t) fits inside =
      unless_leads R (same_texture d.texture t) (mask_commands t.word d.texture.mask t.mask) d (record d { texture = t })
      (λ e. ap (λ (x : Texture). record d { texture = x }) (texture_is d.texture t e))
      (mask_leads d d.texture.word t.word d.texture.mask t.mask fits (λ r. (inside r).word) (λ r. (inside r).mask))

  -- the text attributes

  words_leads : (d : Drawing) (old t : TextLook) → (R → IsWord t.first × IsWord t.second) → Leads R (words_commands old t) (looking old d) (looking (record old { first = t.first; second = t.second }) d)
  words_leads d old t inside = grind (arith, nat_tests, unless_leads, one_leads)

  given_leads : (d : Drawing) (old t : TextLook) (size : CharSize) → (R → IsWord t.first × IsWord t.second) → (R → SizeInRange size) →
      Leads R (given_size_commands old t size) (looking old d) (looking (record old { first = t.first; second = t.second; size = given_or old.size size }) d)
  given_leads d old t (CharSize.Named size) words inside = words_leads d old t words
  given_leads d old t (CharSize.Given m) words inside = at (same_size old.size (CharSize.Given m)) refl
    where
      at : (b : Bool) → same_size old.size (CharSize.Given m) ≡ b →
          Leads R (cond b (words_commands old t) (Command.text_size t.first t.second m ∷ [])) (looking old d)
          (looking (record old { first = t.first; second = t.second; size = CharSize.Given m }) d)
      at true e =
          subst (λ (s : CharSize). Leads R (words_commands old t) (looking old d) (looking (record old { first = t.first; second = t.second; size = s }) d))
          (size_is old.size (CharSize.Given m) e) (words_leads d old t words)
      at false e = one_leads R (Command.text_size t.first t.second m) _ _ refl tt (λ r. ((words r).0, (words r).1, inside r))

  named_leads : (d : Drawing) (t : TextLook) (old size : CharSize) → t.size ≡ given_or old size → Leads R (named_size_commands old size) (looking t d) (looking (record t { size = size }) d)
  named_leads d t old size h = grind (arith, none_leads, unless_leads, size_is, one_leads)

  flag_leads : (d : Drawing) (f : Flag) (t : TextLook) (on : Bool) → Leads R (flag_commands f (flag_of f t) on) (looking t d) (looking (look_with_flag f on t) d)
  flag_leads d f t on = grind (arith, unless_leads, flag_kept, flag_is, one_leads)

  text_leads : (d : Drawing) (w : Option TextLook) → (R → IfSome w TextInRange) → Leads R (text_prelude d.text w) d (record d { text = unwrap_or w d.text })
  unfolding text_prelude
  text_leads d None inside = none_leads R d d refl
  text_leads d (Some t) inside =
      let o = d.text in
      let t1 : TextLook = record o { first = t.first; second = t.second; size = given_or o.size t.size } in
      let t2 : TextLook = record t1 { size = t.size } in
      let t3 : TextLook = record t2 { reverse = t.reverse } in
      let t4 : TextLook = record t3 { underline = t.underline } in
      let t5 : TextLook = record t4 { wrap = t.wrap } in
      both_leads R (given_size_commands o t t.size) _ d (looking t1 d) _ (given_leads d o t t.size (λ r. ((inside r).first, (inside r).second)) (λ r. (inside r).size))
      (both_leads R (named_size_commands o.size t.size) _ (looking t1 d) (looking t2 d) _ (named_leads d t1 o.size t.size refl)
      (both_leads R (flag_commands Flag.Reverse o.reverse t.reverse) _ (looking t2 d) (looking t3 d) _ (flag_leads d Flag.Reverse t2 t.reverse)
      (both_leads R (flag_commands Flag.Underline o.underline t.underline) _ (looking t3 d) (looking t4 d) _ (flag_leads d Flag.Underline t3 t.underline)
      (both_leads R (flag_commands Flag.Wrap o.wrap t.wrap) _ (looking t4 d) (looking t5 d) _ (flag_leads d Flag.Wrap t4 t.wrap)
      (flag_leads d Flag.Scroll t5 t.scroll)))))

-- all attributes of an entry
pub prelude_sets : (d : Drawing) (h : Attributes) → ModeZeroIsBase d.base d.colour → AttributesFit d h → Leads (AttributesInRange h) (prelude d h) d (with_attributes d h)
unfolding prelude
prelude_sets d h mode fits =
    let R : Type 0 = AttributesInRange h in
    let d1 : Drawing = record d { pen = unwrap_or h.pen d.pen } in
    let d2 : Drawing = record d1 { pel = unwrap_or h.pel d.pel } in
    let d3 : Drawing = record d2 { base = base_after d.base h.colour; colour = unwrap_or h.colour d.colour } in
    let d4 : Drawing = record d3 { texture = unwrap_or h.texture d.texture } in
    both_leads R (pen_prelude d.pen h.pen) _ d d1 _ (pen_leads R d h.pen fits.pen (λ r. r.pen))
    (both_leads R (pel_prelude d.pel h.pel) _ d1 d2 _ (pel_leads R d1 h.pel (λ r. r.pel))
    (both_leads R (colour_prelude d.base d.colour h.colour) _ d2 d3 _ (colour_leads R d2 d.base d.colour mode h.colour fits.colour (λ r. r.colour))
    (both_leads R (texture_prelude d.texture h.texture) _ d3 d4 _ (texture_leads R d3 h.texture fits.texture (λ r. r.texture))
    (text_leads R d4 h.text (λ r. r.text)))))

-- The prelude for the attributes of each kind of entry.

pub prelude_of_point : (d : Drawing) (pel : Displacement) (colour : Colour) → prelude d (point_attributes pel colour) ≡ pel_prelude d.pel (Some pel) ++ colour_prelude d.base d.colour (Some colour)
unfolding prelude pen_prelude texture_prelude text_prelude
prelude_of_point d pel colour = ap (λ (cs : List Command). pel_prelude d.pel (Some pel) ++ cs) (append-nil (colour_prelude d.base d.colour (Some colour)))

pub prelude_of_ink : (d : Drawing) (ink : Ink) → prelude d (point_attributes ink.pel ink.colour) ++ texture_prelude d.texture (Some ink.texture) ≡ prelude d (ink_attributes ink)
unfolding prelude pen_prelude text_prelude
prelude_of_ink d ink = grind (arith, prelude_of_point, append_assoc, append-nil)

pub prelude_of_colour : (d : Drawing) (colour : Colour) → colour_prelude d.base d.colour (Some colour) ≡ prelude d (colour_only colour)
unfolding prelude pen_prelude pel_prelude texture_prelude text_prelude
prelude_of_colour d colour = sym (append-nil (colour_prelude d.base d.colour (Some colour)))

pub prelude_of_pen : (d : Drawing) (pen : Pen) → pen_prelude d.pen (Some pen) ≡ prelude d (pen_only pen)
unfolding prelude pel_prelude colour_prelude texture_prelude text_prelude
prelude_of_pen d pen = sym (append-nil (pen_prelude d.pen (Some pen)))

-- The prelude sets nothing that is current.

-- equal values pass their test

move_same : (a : Displacement) → same_move a a ≡ true
move_same a = grind (arith, nat_tests, Decides-int_eq)

pen_same : (a : Pen) → same_pen a a ≡ true
pen_same a = grind (arith, nat_tests)

colour_same : (a : Colour) → same_colour a a ≡ true
colour_same a = grind (arith, nat_tests)

size_same : (a : CharSize) → same_size a a ≡ true
size_same a = grind (arith, nat_tests, Decides-int_eq)

texture_same : (a : Texture) → same_texture a a ≡ true
texture_same a = grind (arith, nat_tests, Decides-int_eq)

flag_same : (a : Bool) → same_flag a a ≡ true
flag_same a = grind arith

numbers_same : (a b : ℕ) → (a == a && b == b) ≡ true
numbers_same a b = grind (arith, nat_tests)

-- each attribute

pen_is_current : (old : Pen) (w : Option Pen) → IfSome w (λ pen. pen ≡ old) → pen_prelude old w ≡ []
unfolding pen_prelude
pen_is_current old w h = grind (arith, pen_same)

pel_is_current : (old : Displacement) (w : Option Displacement) → IfSome w (λ pel. pel ≡ old) → pel_prelude old w ≡ []
unfolding pel_prelude
pel_is_current old w h = grind (arith, move_same)

colour_is_current : (base : Base) (old : Colour) (w : Option Colour) → IfSome w (λ colour. colour ≡ old) → colour_prelude base old w ≡ []
unfolding colour_prelude
colour_is_current base old w h = grind (arith, colour_same)

texture_is_current : (old : Texture) (w : Option Texture) → IfSome w (λ texture. texture ≡ old) → texture_prelude old w ≡ []
unfolding texture_prelude
texture_is_current old w h = grind (arith, texture_same)

given_is_current : (t : TextLook) (size : CharSize) → t.size ≡ size → given_size_commands t t size ≡ []
given_is_current t size h = grind (arith, numbers_same, size_same)

named_is_current : (size : CharSize) → named_size_commands size size ≡ []
named_is_current size = grind (arith, size_same)

pub look_is_current : (old : TextLook) (w : Option TextLook) → IfSome w (λ text. text ≡ old) → text_prelude old w ≡ []
unfolding text_prelude
look_is_current old w h = grind (arith, given_is_current, named_is_current, flag_same)

-- the prelude is empty if all attributes of an entry are current
pub nothing_to_set : (h : Attributes) (d : Drawing) → AreCurrent h d → prelude d h ≡ []
unfolding prelude
nothing_to_set h d is = grind (arith, pen_is_current, pel_is_current, colour_is_current, texture_is_current, look_is_current)

-- so nothing is appended

pub none_appended : (commands : List Command) {r : Pending} → commands ≡ [] → AppendsCommands commands r r
unfolding pieces_bytes text_end_after
none_appended commands {r} is = subst (λ (cs : List Command). AppendsCommands cs r r) (sym is) (record { appended = sym (append-nil r.bytes); text_end = refl })

pub nothing_appended : (h : Attributes) (d : Drawing) {r : Pending} → AreCurrent h d → AppendsCommands (prelude d h) r r
nothing_appended h d is = none_appended (prelude d h) (nothing_to_set h d is)

-- The base is the colour of mode 0, after every walk of entries that fit.

abbrev SavedInMode : Option OpenDefinition → Type 0
SavedInMode None = ⊤
SavedInMode (Some opened) = ModeZeroIsBase opened.saved.base opened.saved.colour

-- of the current attributes, and of those that a definition saved
pub record IsInMode (s : State) : Type 0 where
  pub drawing : ModeZeroIsBase s.drawing.base s.drawing.colour
  pub definition : SavedInMode s.definition

taking_in_mode : (d : Drawing) (w : Option Colour) → ModeZeroIsBase d.base d.colour → ColourFits d w → ModeZeroIsBase (base_after d.base w) (unwrap_or w d.colour)
taking_in_mode d w h h2 = grind arith

reset_in_mode : (a b c : Bool) (base : Base) (colour : Colour) → ModeZeroIsBase base colour →
    ModeZeroIsBase (cond a (Base.Own Origin.AfterReset) base)
    (cond a (Colour.Own Origin.AfterReset) (cond b (Colour.ByReset Preset.Two) (cond c (Colour.ByReset Preset.Three) colour)))
reset_in_mode a b c base colour h = grind arith

pen_in_mode : (p : Option Coordinates) (d : Drawing) → ModeZeroIsBase d.base d.colour → ModeZeroIsBase (with_pen_at p d).base (with_pen_at p d).colour
pen_in_mode p d h = grind arith

saved_in_mode : (o : Option OpenDefinition) (d : Drawing) → SavedInMode o → ModeZeroIsBase d.base d.colour → ModeZeroIsBase (restored_drawing o d).base (restored_drawing o d).colour
saved_in_mode o d h h2 = grind arith

drawn_in_mode : (o : Option OpenDefinition) (d : Drawing) (e : Entry) → SavedInMode o → ModeZeroIsBase d.base d.colour → ModeZeroIsBase (effect_on_drawing o d e).base (effect_on_drawing o d e).colour
drawn_in_mode o d (Entry.Arc filled points ink) s h = pen_in_mode (slice_get points (length points - 1)) d h
drawn_in_mode o d (Entry.Poly filled points ink) s h = pen_in_mode (slice_get points 0) d h
drawn_in_mode o d (Entry.Reset first second pen) s h = reset_in_mode (colour_code first == 1) (colour_code first == 2) (colour_code first == 3) d.base d.colour h
drawn_in_mode o d (Entry.Map addr grb) s h = tt
drawn_in_mode o d Entry.DefEnd s h = saved_in_mode o d s h
drawn_in_mode o d e s h = h

definition_in_mode : (o : Option OpenDefinition) (d : Drawing) (e : Entry) → SavedInMode o → ModeZeroIsBase d.base d.colour → SavedInMode (definition_after o d e)
definition_in_mode o d e h h2 = grind arith

pub in_mode_after : (s : State) (e : Entry) → IsInMode s → Fits s e → IsInMode (after s e)
in_mode_after s e h fits = grind (arith, taking_in_mode, drawn_in_mode, definition_in_mode)

in_mode_along : (s : State) (es : List Entry) → IsInMode s → AllFit s es → IsInMode (walk s es)
unfolding walk AllFit
in_mode_along s [] h all = h
in_mode_along s (e ∷ es) h all = in_mode_along (after s e) es (in_mode_after s e h all.0) all.1

pub start_in_mode : IsInMode start
start_in_mode = record { drawing = refl; definition = tt }

pub prelude_leads : PreludeLeads
prelude_leads es e all fits = (prelude_sets (walk start es).drawing (attributes e) (in_mode_along start es start_in_mode all).drawing fits.values).there
