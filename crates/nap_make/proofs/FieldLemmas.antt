-- Entries by the fields of their lines: the kind, the points and the values of a row.

use Rattle.nap_make.proofs.{All, All-head, All-tail, Area, BothFit, CharSet, Colour, Coordinates, CursorKind, Displacement, Entry, Fields, FitsSort, Hand, HandInRange, HasFields, HasPoints, InRange, InSort, Ink, InkInRange, IsByte, IsChosen, IsFirstWrong, IsInSquare, IsNameAlone, IsPlainStep, IsProper, IsWord, IsWrong, Kind, List, Mask, None, Option, Pen, Some, Sort, SplitsAtByte, TextLook, TextStep, Texture, Value, WellMade, WritesNone, [], ap, append_assoc, append_cancel_left, arith, bytes_eq, code_text, codes, colour_field, colour_text, cond, cursor_text, decimal, drop, drop-cons, false, field_text, fields_before, fields_line, fields_of, fields_text, get_or, grb_text, hand_text, ink_text, inl, inr, kind_row, least_points, length, length-append, line, line_from, line_name, look_field, look_text, mask_text, move_text, pair_text, pel_field, pen_field, pen_text, point_text, points_before, points_limit, points_text, refl, set_text, step_text, subst, suc, sym, take, take-append-drop, take_more, texture_field, texture_text, true, with_word, ℕ, ◌++◌, ◌+◌, ◌<◌, ◌↔◌, ◌∙◌, ◌∷◌, ◌≡◌, ◌≢◌, ◌≤◌, ◌⊎◌}
use Rattle.nap_make.proofs.ValueLemmas.{EachAbove, IsVisible, Spells, above, apart_below, both_spell, code_visible, colour_visible, cut_text, from_right, grb_visible, key_spells, look_visible, move_visible, no_cut, number_visible, one_cut, pen_visible, point_visible, texture_visible}

-- The fields of an entry's line.

points_spaced : (points : List Coordinates) (last : List ℕ) → points_text points ++ codes " " ++ last ≡ 32 ∷ points_before points last
points_spaced [] last = refl
points_spaced (p ∷ points) last = grind (arith, append_assoc, points_spaced points last)

abbrev ink_line : Ink → List ℕ
ink_line i = pel_field i.pel ++ 32 ∷ (colour_field i.colour ++ 32 ∷ texture_field i.texture)

abbrev hand_line : Hand → List ℕ
hand_line h = pen_field h.pen ++ 32 ∷ (colour_field h.colour ++ 32 ∷ look_field h.text)

ink_is : (i : Ink) → ink_text i ≡ ink_line i
ink_is i = ap (codes "pel=" ++◌) (from_right (move_text i.pel) (codes " colour=") (colour_text i.colour) (codes " texture=") (texture_text i.texture))

hand_is : (h : Hand) → hand_text h ≡ hand_line h
hand_is h = ap (codes "pen=" ++◌) (from_right (pen_text h.pen) (codes " colour=") (colour_text h.colour) (codes " text=") (look_text h.text))

shape_is : (points : List Coordinates) (i : Ink) → points_text points ++ codes " " ++ ink_text i ≡ 32 ∷ points_before points (ink_line i)
shape_is points i = points_spaced points (ink_text i) ∙ ap (λ s. 32 ∷ points_before points s) (ink_is i)

stretch_is : (a b : List ℕ) (i : Ink) → a ++ codes " " ++ b ++ codes " " ++ ink_text i ≡ a ++ 32 ∷ (b ++ 32 ∷ ink_line i)
stretch_is a b i = from_right a (codes " ") b (codes " ") (ink_text i) ∙ ap (λ s. a ++ 32 ∷ (b ++ 32 ∷ s)) (ink_is i)

letter_is : (a b : List ℕ) (h : Hand) → a ++ codes " " ++ b ++ codes " " ++ hand_text h ≡ a ++ 32 ∷ (b ++ 32 ∷ hand_line h)
letter_is a b h = from_right a (codes " ") b (codes " ") (hand_text h) ∙ ap (λ s. a ++ 32 ∷ (b ++ 32 ∷ s)) (hand_is h)

step_is : (a : List ℕ) (h : Hand) → a ++ codes " " ++ hand_text h ≡ a ++ 32 ∷ hand_line h
step_is a h = append_assoc a (codes " ") (hand_text h) ∙ ap (λ s. a ++ 32 ∷ s) (hand_is h)

position_is : (a b c : List ℕ) → codes "APS " ++ a ++ codes " " ++ b ++ codes " " ++ c ≡ codes "APS " ++ (a ++ 32 ∷ (b ++ 32 ∷ c))
position_is a b c = simp append_assoc

blink_is : (a b c d e : List ℕ) → a ++ codes " " ++ b ++ codes "," ++ c ++ codes "," ++ d ++ codes " colour=" ++ e ≡ a ++ 32 ∷ ((b ++ 44 ∷ (c ++ 44 ∷ d)) ++ 32 ∷ (codes "colour=" ++ e))
blink_is a b c d e = simp append_assoc

-- an entry's line, or a property of one that is a name alone
abbrev pub LineIs : Entry → Option Fields → Type 0
LineIs e None = IsNameAlone (line e)
LineIs e (Some f) = line e ≡ fields_line f

pub line_is : (e : Entry) → LineIs e (fields_of e)
line_is (Entry.Point at pel colour) = ap (codes "POINT " ++◌) (from_right (point_text at) (codes " pel=") (move_text pel) (codes " colour=") (colour_text colour))
line_is (Entry.Line from to ink) = ap (codes "LINE " ++◌) (stretch_is (point_text from) (point_text to) ink)
line_is (Entry.Arc true points ink) = ap (codes "ARC-FILLED" ++◌) (shape_is points ink)
line_is (Entry.Arc false points ink) = ap (codes "ARC-OUTLINED" ++◌) (shape_is points ink)
line_is (Entry.Rect true from to ink) = ap (codes "RECT-FILLED " ++◌) (stretch_is (point_text from) (point_text to) ink)
line_is (Entry.Rect false from to ink) = ap (codes "RECT-OUTLINED " ++◌) (stretch_is (point_text from) (point_text to) ink)
line_is (Entry.Poly true points ink) = ap (codes "POLY-FILLED" ++◌) (shape_is points ink)
line_is (Entry.Poly false points ink) = ap (codes "POLY-OUTLINED" ++◌) (shape_is points ink)
line_is (Entry.Char set code hand) = ap (codes "CHAR " ++◌) (letter_is (set_text set) (code_text code) hand)
line_is (Entry.TextMove (TextStep.Aps row column) hand) = ap (codes "MOVE " ++◌) (position_is (code_text row) (code_text column) (hand_text hand) ∙ ap (λ s. codes "APS " ++ (code_text row ++ 32 ∷ (code_text column ++ 32 ∷ s))) (hand_is hand))
line_is (Entry.TextMove step hand) = ap (codes "MOVE " ++◌) (step_is (step_text step) hand)
line_is (Entry.ToEol hand) = ap (codes "TO-EOL " ++◌) (hand_is hand)
line_is (Entry.Map addr grb) = ap (codes "MAP " ++◌) (append_assoc (decimal addr) (codes " ") (grb_text grb))
line_is (Entry.Blink addr on off delay colour) = ap (codes "BLINK " ++◌) (blink_is (decimal addr) (decimal on) (decimal off) (decimal delay) (colour_text colour))
line_is (Entry.BlinkMark true colour) = refl
line_is Entry.Bell = inl refl
line_is (Entry.Field Area.Whole pen) = refl
line_is (Entry.Field (Area.Part from to) pen) = ap (codes "FIELD " ++◌) (from_right (point_text from) (codes " ") (point_text to) (codes " pen=") (pen_text pen))
line_is (Entry.Reset first second pen) = ap (codes "RESET " ++◌) (from_right (decimal first) (codes " ") (decimal second) (codes " pen=") (pen_text pen))
line_is Entry.DefEnd = inr refl
line_is _ = refl

-- the points of a line of the kind
abbrev pub PointsFit : Kind → List Coordinates → Type 0
PointsFit k points = (HasPoints k × All IsInSquare points × (least_points k ≤ length points) × (length points ≤ points_limit)) ⊎ ((HasPoints k → ⊥) × (points ≡ []))

-- the fields of a proper entry's line
pub record AreFields (f : Fields) : Type 0 where
  pub row : FitsSort (kind_row f.kind) f.values
  pub points : PointsFit f.kind f.points

abbrev pub FieldsFit : Option Fields → Type 0
FieldsFit None = Unit {0}
FieldsFit (Some f) = AreFields f

-- the fields of ink and of a hand, and the attributes of these fields

pattern abbrev ink_fields : Displacement → Colour → Texture → List Value
ink_fields pel colour texture = Value.Pel pel ∷ Value.Colour colour ∷ Value.Texture texture ∷ []

pattern abbrev hand_fields : Pen → Colour → TextLook → List Value
hand_fields pen colour look = Value.Pen pen ∷ Value.Colour colour ∷ Value.Look look ∷ []

abbrev ink_of : Displacement → Colour → Texture → Ink
ink_of pel colour texture = record { pel = pel; colour = colour; texture = texture }

abbrev hand_of : Pen → Colour → TextLook → Hand
hand_of pen colour look = record { pen = pen; colour = colour; text = look }

pub ink_fits : {i : Ink} → InkInRange i ↔ FitsSort (kind_row Kind.ArcFilled) (ink_fields i.pel i.colour i.texture)
ink_fits = (λ fits. (fits.pel, (fits.colour, (fits.texture, tt))), λ fits. record { pel = fits.0; colour = fits.1.0; texture = fits.1.1.0 })

pub hand_fits : {h : Hand} → HandInRange h ↔ FitsSort (kind_row Kind.ToEol) (hand_fields h.pen h.colour h.text)
hand_fits = (λ fits. (fits.pen, (fits.colour, (fits.text, tt))), λ fits. record { pen = fits.0; colour = fits.1.0; text = fits.1.1.0 })

alone : {k : Kind} {vs : List Value} → (HasPoints k → ⊥) → FitsSort (kind_row k) vs → AreFields (record { kind = k; points = []; values = vs })
alone none row = record { row = row; points = inr (none, refl) }

fit_well : (e : Entry) → InRange e → WellMade e → FieldsFit (fields_of e)
fit_well (Entry.Point at pel colour) fits well = alone (λ h. h) (fits.0, (fits.1, (fits.2, tt)))
fit_well (Entry.Line from to ink) fits well = alone (λ h. h) (fits.0, (fits.1, ink_fits.0 fits.2))
fit_well (Entry.Arc true points ink) fits well = record { row = ink_fits.0 fits.1; points = inl (tt, fits.0, well.0, well.1) }
fit_well (Entry.Arc false points ink) fits well = record { row = ink_fits.0 fits.1; points = inl (tt, fits.0, well.0, well.1) }
fit_well (Entry.Rect true from to ink) fits well = alone (λ h. h) (fits.0, (fits.1, ink_fits.0 fits.2))
fit_well (Entry.Rect false from to ink) fits well = alone (λ h. h) (fits.0, (fits.1, ink_fits.0 fits.2))
fit_well (Entry.Poly true points ink) fits well = record { row = ink_fits.0 fits.1; points = inl (tt, fits.0, well.0, well.1) }
fit_well (Entry.Poly false points ink) fits well = record { row = ink_fits.0 fits.1; points = inl (tt, fits.0, well.0, well.1) }
fit_well (Entry.Char set code hand) fits well = alone (λ h. h) (tt, (well, hand_fits.0 fits.1))
fit_well (Entry.TextMove (TextStep.Aps row column) hand) fits well = alone (λ h. h) (well.0, (well.1, hand_fits.0 fits.1))
fit_well (Entry.TextMove step hand) fits well = alone (λ h. h) (tt, hand_fits.0 fits.1)
fit_well (Entry.ToEol hand) fits well = alone (λ h. h) (hand_fits.0 fits)
fit_well (Entry.Map addr grb) fits well = alone (λ h. h) (fits.0, (fits.1, tt))
fit_well (Entry.Blink addr on off delay colour) fits well = alone (λ h. h) (fits.0, ((fits.1, fits.2, fits.3), (fits.4, tt)))
fit_well (Entry.BlinkMark true colour) fits well = alone (λ h. h) (fits, tt)
fit_well Entry.Bell fits well = tt
fit_well (Entry.Cursor state) fits well = alone (λ h. h) (tt, tt)
fit_well (Entry.Field Area.Whole pen) fits well = alone (λ h. h) (fits.1, tt)
fit_well (Entry.Field (Area.Part from to) pen) fits well = alone (λ h. h) (fits.0.0, (fits.0.1, (fits.1, tt)))
fit_well (Entry.Reset first second pen) fits well = alone (λ h. h) (fits.0, (fits.1, (fits.2, tt)))
fit_well (Entry.GlyphStart code) fits well = alone (λ h. h) (well, tt)
fit_well (Entry.MaskStart mask) fits well = alone (λ h. h) (tt, tt)
fit_well Entry.DefEnd fits well = tt
fit_well _ fits well = alone (λ h. h) (fits, tt)

pub fields_fit : (e : Entry) → IsProper e → FieldsFit (fields_of e)
fields_fit e proper = fit_well e proper.in_range proper.well_made

-- Entries of fields.

-- an entry with these fields, which is proper
pub record HasEntry (k : Kind) (points : List Coordinates) (vs : List Value) : Type 0 where
  pub entry : Entry
  pub fields : HasFields k points vs entry
  pub proper : IsProper entry

-- the entry that has these fields, if one has
abbrev made : Kind → List Coordinates → List Value → Entry
made Kind.Point points (Value.Point at ∷ Value.Pel pel ∷ Value.Colour colour ∷ []) = Entry.Point at pel colour
made Kind.Line points (Value.Point from ∷ Value.Point to ∷ ink_fields pel colour texture) = Entry.Line from to (ink_of pel colour texture)
made Kind.RectFilled points (Value.Point from ∷ Value.Point to ∷ ink_fields pel colour texture) = Entry.Rect true from to (ink_of pel colour texture)
made Kind.RectOutlined points (Value.Point from ∷ Value.Point to ∷ ink_fields pel colour texture) = Entry.Rect false from to (ink_of pel colour texture)
made Kind.ArcFilled points (ink_fields pel colour texture) = Entry.Arc true points (ink_of pel colour texture)
made Kind.ArcOutlined points (ink_fields pel colour texture) = Entry.Arc false points (ink_of pel colour texture)
made Kind.PolyFilled points (ink_fields pel colour texture) = Entry.Poly true points (ink_of pel colour texture)
made Kind.PolyOutlined points (ink_fields pel colour texture) = Entry.Poly false points (ink_of pel colour texture)
made Kind.Char points (Value.Set set ∷ Value.Code code ∷ hand_fields pen colour look) = Entry.Char set code (hand_of pen colour look)
made Kind.Move points (Value.Step step ∷ hand_fields pen colour look) = Entry.TextMove step (hand_of pen colour look)
made Kind.Position points (Value.Code row ∷ Value.Code column ∷ hand_fields pen colour look) = Entry.TextMove (TextStep.Aps row column) (hand_of pen colour look)
made Kind.ToEol points (hand_fields pen colour look) = Entry.ToEol (hand_of pen colour look)
made Kind.Map points (Value.Addr addr ∷ Value.Parts grb ∷ []) = Entry.Map addr grb
made Kind.Blink points (Value.Addr addr ∷ Value.Times on off delay ∷ Value.Colour colour ∷ []) = Entry.Blink addr on off delay colour
made Kind.BlinkEnd points (Value.Colour colour ∷ []) = Entry.BlinkEnd colour
made Kind.BlinkStart points (Value.Colour colour ∷ []) = Entry.BlinkMark true colour
made Kind.BlinkStop points (Value.Colour colour ∷ []) = Entry.BlinkMark false colour
made Kind.Wait points (Value.Word tenths ∷ []) = Entry.Wait tenths
made Kind.Cursor points (Value.Cursor state ∷ []) = Entry.Cursor state
made Kind.Field points (Value.Point from ∷ Value.Point to ∷ Value.Pen pen ∷ []) = Entry.Field (Area.Part from to) pen
made Kind.Whole points (Value.Pen pen ∷ []) = Entry.Field Area.Whole pen
made Kind.Reset points (Value.Word first ∷ Value.Word second ∷ Value.Pen pen ∷ []) = Entry.Reset first second pen
made Kind.Clear points (Value.Pen pen ∷ []) = Entry.Clear pen
made Kind.Glyph points (Value.Code code ∷ []) = Entry.GlyphStart code
made Kind.Mask points (Value.Mask mask ∷ []) = Entry.MaskStart mask
made _ _ _ = Entry.Bell

own : {k : Kind} {points : List Coordinates} {vs : List Value} → HasFields k points vs (made k points vs) → InRange (made k points vs) → WellMade (made k points vs) → HasEntry k points vs
own fields in_range well_made = record { entry = made _ _ _; fields = fields; proper = record { in_range = in_range; well_made = well_made } }

pub plain_entry_with : (k : Kind) (vs : List Value) → (HasPoints k → ⊥) → FitsSort (kind_row k) vs → HasEntry k [] vs
plain_entry_with Kind.Point (Value.Point _ ∷ Value.Pel _ ∷ Value.Colour _ ∷ []) none fits = own refl (fits.0, fits.1.0, fits.1.1.0) tt
plain_entry_with Kind.Line (Value.Point _ ∷ Value.Point _ ∷ ink_fields _ _ _) none fits = own refl (fits.0, fits.1.0, ink_fits.1 fits.1.1) tt
plain_entry_with Kind.RectFilled (Value.Point _ ∷ Value.Point _ ∷ ink_fields _ _ _) none fits = own refl (fits.0, fits.1.0, ink_fits.1 fits.1.1) tt
plain_entry_with Kind.RectOutlined (Value.Point _ ∷ Value.Point _ ∷ ink_fields _ _ _) none fits = own refl (fits.0, fits.1.0, ink_fits.1 fits.1.1) tt
plain_entry_with Kind.Char (Value.Set _ ∷ Value.Code _ ∷ hand_fields _ _ _) none fits = own refl (omega (arith, fits.1.0), hand_fits.1 fits.1.1) fits.1.0
plain_entry_with Kind.Position (Value.Code _ ∷ Value.Code _ ∷ hand_fields _ _ _) none fits = own refl ((omega (arith, fits.0), omega (arith, fits.1.0)), hand_fits.1 fits.1.1) (fits.0, fits.1.0)
plain_entry_with Kind.Move (Value.Step step ∷ hand_fields pen colour look) none fits = by step fits.0
  where
    by : (step : TextStep) → IsPlainStep step → HasEntry Kind.Move [] (Value.Step step ∷ hand_fields pen colour look)
    by (TextStep.Aps row column) plain = absurd plain
    by step plain = own refl (tt, hand_fits.1 fits.1) tt
plain_entry_with Kind.ToEol (hand_fields _ _ _) none fits = own refl (hand_fits.1 fits) tt
plain_entry_with Kind.Map (Value.Addr _ ∷ Value.Parts _ ∷ []) none fits = own refl (fits.0, fits.1.0) tt
plain_entry_with Kind.Blink (Value.Addr _ ∷ Value.Times _ _ _ ∷ Value.Colour _ ∷ []) none fits = own refl (fits.0, fits.1.0.0, fits.1.0.1, fits.1.0.2, fits.1.1.0) tt
plain_entry_with Kind.BlinkEnd (Value.Colour _ ∷ []) none fits = own refl fits.0 tt
plain_entry_with Kind.BlinkStart (Value.Colour _ ∷ []) none fits = own refl fits.0 tt
plain_entry_with Kind.BlinkStop (Value.Colour _ ∷ []) none fits = own refl fits.0 tt
plain_entry_with Kind.Wait (Value.Word _ ∷ []) none fits = own refl fits.0 tt
plain_entry_with Kind.Cursor (Value.Cursor _ ∷ []) none fits = own refl tt tt
plain_entry_with Kind.Field (Value.Point _ ∷ Value.Point _ ∷ Value.Pen _ ∷ []) none fits = own refl ((fits.0, fits.1.0), fits.1.1.0) tt
plain_entry_with Kind.Whole (Value.Pen _ ∷ []) none fits = own refl (tt, fits.0) tt
plain_entry_with Kind.Reset (Value.Word _ ∷ Value.Word _ ∷ Value.Pen _ ∷ []) none fits = own refl (fits.0, fits.1.0, fits.1.1.0) tt
plain_entry_with Kind.Clear (Value.Pen _ ∷ []) none fits = own refl fits.0 tt
plain_entry_with Kind.Glyph (Value.Code _ ∷ []) none fits = own refl (omega (arith, fits.0)) fits.0
plain_entry_with Kind.Mask (Value.Mask _ ∷ []) none fits = own refl tt tt
plain_entry_with _ _ none fits = absurd (let no : ⊥ = search in no)

pub shape_entry_with : (k : Kind) (points : List Coordinates) (vs : List Value) → HasPoints k → All IsInSquare points → least_points k ≤ length points → length points ≤ points_limit → FitsSort (kind_row k) vs → HasEntry k points vs
shape_entry_with Kind.ArcFilled points (ink_fields _ _ _) has inside least few fits = own refl (inside, ink_fits.1 fits) (least, few)
shape_entry_with Kind.ArcOutlined points (ink_fields _ _ _) has inside least few fits = own refl (inside, ink_fits.1 fits) (least, few)
shape_entry_with Kind.PolyFilled points (ink_fields _ _ _) has inside least few fits = own refl (inside, ink_fits.1 fits) (least, few)
shape_entry_with Kind.PolyOutlined points (ink_fields _ _ _) has inside least few fits = own refl (inside, ink_fits.1 fits) (least, few)
shape_entry_with _ _ _ has inside least few fits = absurd (let no : ⊥ = search in no)

-- a format effector of one byte
pub step_fields : (step : TextStep) (hand : Hand) → IsPlainStep step → HasFields Kind.Move [] (Value.Step step ∷ Value.Pen hand.pen ∷ Value.Colour hand.colour ∷ Value.Look hand.text ∷ []) (Entry.TextMove step hand)
step_fields step hand is = grind arith

-- Entries are equal if their fields are.

abbrev MadeOf : Entry → Option Fields → Type 0
MadeOf e None = (e ≡ Entry.Bell) ⊎ (e ≡ Entry.DefEnd)
MadeOf e (Some f) = made f.kind f.points f.values ≡ e

made_again : (e : Entry) → MadeOf e (fields_of e)
made_again e = grind arith

pub same_entry : {e g : Entry} {k : Kind} {points : List Coordinates} {vs : List Value} → HasFields k points vs e → HasFields k points vs g → e ≡ g
same_entry {e = e} {g = g} one two = sym (subst (MadeOf e) one (made_again e)) ∙ subst (MadeOf g) two (made_again g)

pub alone_is : (e : Entry) → fields_of e ≡ None → (e ≡ Entry.Bell) ⊎ (e ≡ Entry.DefEnd)
alone_is e is = subst (MadeOf e) is (made_again e)

-- Values by their sorts.

-- the value is of the sort, and in the range of its type: any byte is a code
abbrev pub InType : Sort → Value → Type 0
InType Sort.Code (Value.Code code) = IsByte code
InType s v = InSort s v

pub in_type : (s : Sort) (v : Value) → InSort s v → InType s v
in_type s v is = grind arith

-- No text has a space.

pub set_visible : (set : CharSet) → All IsVisible (set_text set)
set_visible set = grind (arith, above)

pub plain_visible : Spells IsVisible IsPlainStep step_text
plain_visible is fits = grind (arith, above)

cursor_visible : (state : CursorKind) → All IsVisible (cursor_text state)
cursor_visible state = grind (arith, above)

mask_visible : (mask : Mask) → All IsVisible (mask_text mask)
mask_visible mask = grind (arith, above)

word_visible : Spells IsVisible IsWord decimal
word_visible n fits = number_visible n (omega (arith, fits))

pub field_visible : (s : Sort) (v : Value) → InType s v → All IsVisible (field_text v)
field_visible Sort.Addr (Value.Addr number) fits = number_visible number fits
field_visible Sort.Code (Value.Code code) fits = code_visible code fits
field_visible Sort.Colour (Value.Colour colour) fits = key_spells colour_text (codes "colour=") (omega arith) colour_visible colour fits
field_visible Sort.Cursor (Value.Cursor state) fits = cursor_visible state
field_visible Sort.Look (Value.Look look) fits = key_spells look_text (codes "text=") (omega arith) look_visible look fits
field_visible Sort.Mask (Value.Mask mask) fits = mask_visible mask
field_visible Sort.Parts (Value.Parts grb) fits = grb_visible grb fits
field_visible Sort.Pel (Value.Pel pel) fits = key_spells move_text (codes "pel=") (omega arith) move_visible pel fits
field_visible Sort.Pen (Value.Pen pen) fits = key_spells pen_text (codes "pen=") (omega arith) pen_visible pen fits
field_visible Sort.Point (Value.Point point) fits = point_visible point fits
field_visible Sort.Set (Value.Set set) fits = set_visible set
field_visible Sort.Step (Value.Step step) fits = plain_visible step fits
field_visible Sort.Texture (Value.Texture texture) fits = key_spells texture_text (codes "texture=") (omega arith) texture_visible texture fits
field_visible Sort.Times (Value.Times on off delay) fits =
    both_spell IsVisible decimal 44 (pair_text decimal 44 decimal) word_visible (omega arith)
    (both_spell IsVisible decimal 44 decimal word_visible (omega arith) word_visible) (on, (off, delay)) (fits.0, (fits.1, fits.2))
field_visible Sort.Word (Value.Word number) fits = word_visible number fits
field_visible _ _ fits = absurd fits

pub type_apart : (s : Sort) (v : Value) → InType s v → All (λ x. x ≢ 32) (field_text v)
type_apart s v fits = apart_below 32 32 (field_text v) (omega arith) (field_visible s v fits)

pub field_apart : (s : Sort) (v : Value) → InSort s v → All (λ x. x ≢ 32) (field_text v)
field_apart s v fits = type_apart s v (in_type s v fits)

-- bytes that are no three words separated by commas are no text of times
pub no_times : (word : List ℕ) → WritesNone (BothFit IsWord (BothFit IsWord IsWord)) (pair_text decimal 44 (pair_text decimal 44 decimal)) word → WritesNone (InSort Sort.Times) field_text word
no_times word none (Value.Times on off delay) fits is = none (on, (off, delay)) (fits.0, (fits.1, fits.2)) is
no_times word none _ fits is = absurd fits

-- values of the sorts of a row, in the ranges of their types
abbrev pub AreOf : List Sort → List Value → Type 0
AreOf [] [] = Unit {0}
AreOf (s ∷ row) (v ∷ vs) = InType s v × AreOf row vs
AreOf _ _ = ⊥

pub fits_are : (row : List Sort) (vs : List Value) → FitsSort row vs → AreOf row vs
fits_are [] [] fits = tt
fits_are (s ∷ row) (v ∷ vs) fits = (in_type s v fits.0, fits_are row vs fits.1)
fits_are _ _ fits = absurd fits

-- Rows of fields.

pub fields_join : (vs : List Value) (v : Value) → fields_text (vs ++ v ∷ []) ≡ fields_before vs (field_text v)
fields_join [] v = refl
fields_join (u ∷ []) v = refl
fields_join (u ∷ w ∷ vs) v = ap (λ s. field_text u ++ 32 ∷ s) (fields_join (w ∷ vs) v)

pub before_grow : (vs : List Value) (v : Value) (more : List ℕ) → fields_before (vs ++ v ∷ []) more ≡ fields_before vs (field_text v ++ 32 ∷ more)
before_grow [] v more = refl
before_grow (u ∷ vs) v more = ap (λ s. field_text u ++ 32 ∷ s) (before_grow vs v more)

pub before_append : (vs : List Value) (a b : List ℕ) → fields_before vs (a ++ b) ≡ fields_before vs a ++ b
before_append [] a b = refl
before_append (u ∷ vs) a b = ap (λ s. field_text u ++ 32 ∷ s) (before_append vs a b) ∙ sym (append_assoc (field_text u) (32 ∷ fields_before vs a) b)

pub fits_append : (row more : List Sort) (vs us : List Value) → FitsSort row vs → FitsSort more us → FitsSort (row ++ more) (vs ++ us)
fits_append [] more [] us fits also = also
fits_append (s ∷ row) more (v ∷ vs) us fits also = (fits.0, fits_append row more vs us fits.1 also)
fits_append _ more _ us fits also = absurd fits

-- The walk.

-- the first fields of a row were read
pub record HasRead (front : List Sort) (i : ℕ) (bytes : List ℕ) (vs : List Value) (rest : List ℕ) : Type 0 where
  pub right : FitsSort (take i front) vs
  pub parts : bytes ≡ fields_before vs rest
  pub count : length vs ≡ i

-- a field with a space behind it lacks
behind : (s : Sort) (others : List Sort) (last : Sort) (left : List ℕ) → ((v : Value) (more : List ℕ) → InSort s v → left ≢ field_text v ++ 32 ∷ more) → IsWrong s (others ++ last ∷ []) left
behind s [] last left none = none
behind s (t ∷ others) last left none = none

row_parts : (front : List Sort) (i : ℕ) (d last : Sort) → i < length front → front ++ last ∷ [] ≡ take i front ++ get_or front i d ∷ (drop (suc i) front ++ last ∷ [])
row_parts front i d last within =
    ap (λ row. row ++ last ∷ []) (sym (take-append-drop i front) ∙ ap (take i front ++◌) (drop-cons front i d within))
    ∙ append_assoc (take i front) (get_or front i d ∷ drop (suc i) front) (last ∷ [])

module _ {front : List Sort} {i : ℕ} {bytes : List ℕ} {vs : List Value} {rest : List ℕ} (has : HasRead front i bytes vs rest) where
  pub one_read : (d : Sort) (v : Value) {us : List Value} {word more : List ℕ} → i < length front → us ≡ vs ++ v ∷ [] → InSort (get_or front i d) v → word ≡ field_text v → SplitsAtByte 32 rest word more → HasRead front (i + 1) bytes us more
  one_read d v {us = us} {more = more} within grown fits is cuts = record {
    right = rw (grown, take_more front i d within) (fits_append (take i front) (get_or front i d ∷ []) vs (v ∷ []) has.right (fits, tt));
    parts = has.parts ∙ ap (fields_before vs) (cuts.joins ∙ ap (λ s. s ++ 32 ∷ more) is) ∙ sym (before_grow vs v more) ∙ ap (λ ws. fields_before ws more) (sym grown);
    count = let size : length us ≡ length (vs ++ v ∷ []) = ap length grown in omega (arith, size, has.count, length-append vs (v ∷ []));
  }

  module _ (d last : Sort) (within : i < length front) where
    front_wrong : ((v : Value) (more : List ℕ) → InSort (get_or front i d) v → rest ≢ field_text v ++ 32 ∷ more) → IsFirstWrong (front ++ last ∷ []) bytes rest
    front_wrong none = record {
      before = take i front;
      sort = get_or front i d;
      others = drop (suc i) front ++ last ∷ [];
      row_is = row_parts front i d last within;
      values = vs;
      right = has.right;
      parts = has.parts;
      wrong = behind (get_or front i d) (drop (suc i) front) last rest none;
    }

    pub no_space : ((x y : List ℕ) → SplitsAtByte 32 rest x y → ⊥) → IsFirstWrong (front ++ last ∷ []) bytes rest
    no_space none = grind (arith, front_wrong, field_apart)

    pub no_word : {word more : List ℕ} → SplitsAtByte 32 rest word more → WritesNone (InSort (get_or front i d)) field_text word → IsFirstWrong (front ++ last ∷ []) bytes rest
    no_word cuts none = front_wrong (λ v others fits is. none v fits (cut_text cuts (field_apart (get_or front i d) v fits) is).0)

  -- all fields before the last were read
  pub all_read : take i front ≡ front → FitsSort front vs × (bytes ≡ fields_before vs rest)
  all_read whole = (subst (λ row. FitsSort row vs) whole has.right, has.parts)

pub last_read : (front : List Sort) (last : Sort) (vs : List Value) (v : Value) {bytes rest : List ℕ} {us : List Value} → FitsSort front vs × (bytes ≡ fields_before vs rest) → InSort last v → rest ≡ field_text v → us ≡ vs ++ v ∷ [] →
    FitsSort (front ++ last ∷ []) us × (bytes ≡ fields_text us)
last_read front last vs v read fits is grown = grind (arith, fits_append, fields_join)

-- No values of the row have the text of right fields before a wrong one.
pub no_values : (before : List Sort) (sort : Sort) (others : List Sort) (us vs : List Value) (left : List ℕ) → FitsSort (before ++ sort ∷ others) us → FitsSort before vs → IsWrong sort others left → fields_text us ≡ fields_before vs left → ⊥
no_values [] sort [] (u ∷ []) [] left fits right wrong is = wrong u fits.0 (sym is)
no_values [] sort (t ∷ others) (u ∷ w ∷ us) [] left fits right wrong is = wrong u (fields_text (w ∷ us)) fits.0 (sym is)
no_values (b ∷ before) sort others (u ∷ w ∷ us) (v ∷ vs) left fits right wrong is =
    let same = one_cut 32 (field_text u) (fields_text (w ∷ us)) (field_text v) (fields_before vs left) (field_apart b u fits.0) (field_apart b v right.0) is in
    no_values before sort others (w ∷ us) vs left fits.1 right.1 wrong same.1
no_values [] sort [] (u ∷ w ∷ us) [] left fits right wrong is = absurd fits.1
no_values [] sort (t ∷ others) (u ∷ []) [] left fits right wrong is = absurd fits.1
no_values [] sort others us (v ∷ vs) left fits right wrong is = absurd right
no_values (b ∷ before) sort others us [] left fits right wrong is = absurd right
no_values before sort others [] vs left fits right wrong is = grind arith
no_values (b ∷ before) sort others (u ∷ []) (v ∷ vs) left fits right wrong is = none before fits.1
  where
    none : (before : List Sort) → FitsSort (before ++ sort ∷ others) [] → ⊥
    none [] fits = fits
    none (b ∷ before) fits = fits

-- What follows a space doesn't matter for what is before it.

-- bytes that begin with a word and a space do so whatever follows their last space
pub stays : (w q r tail x : List ℕ) → All (λ b. b ≢ 32) w → q ++ 32 ∷ r ≡ w ++ 32 ∷ x → (y : List ℕ) × (q ++ 32 ∷ tail ≡ w ++ 32 ∷ y)
stays [] [] r tail x none is = (tail, refl)
stays [] (c ∷ q) r tail x none is = let first : c ≡ 32 = ap (λ s. get_or s 0 0) is in (q ++ 32 ∷ tail, ap (◌∷ (q ++ 32 ∷ tail)) first)
stays (b ∷ w) [] r tail x none is = absurd (All-head (λ z. z ≢ 32) b w none (sym (ap (λ s. get_or s 0 0) is)))
stays (b ∷ w) (c ∷ q) r tail x none is = grind (arith, All-tail, stays w q r tail x (All-tail (λ z. z ≢ 32) b w none) (ap (drop 1) is))

wrong_stays : (s : Sort) (others : List Sort) (q r tail : List ℕ) → IsWrong s others (q ++ 32 ∷ r) → IsWrong s others (q ++ 32 ∷ tail)
wrong_stays s [] q r tail wrong = λ v fits is. no_cut 32 (field_text v) q tail (field_apart s v fits) (sym is)
wrong_stays s (t ∷ others) q r tail wrong = λ v more fits is. let found = stays (field_text v) q tail r more (field_apart s v fits) is in wrong v found.0 fits found.1

-- a field is wrong whatever follows the next space
pub first_stays : {row : List Sort} {bytes left : List ℕ} (q r tail : List ℕ) → left ≡ q ++ 32 ∷ r → (first : IsFirstWrong row bytes left) → IsFirstWrong row (fields_before first.values (q ++ 32 ∷ tail)) (q ++ 32 ∷ tail)
first_stays q r tail is first = grind (arith, wrong_stays)

-- no values of a row have a text with a wrong field
pub none_in_row : {row : List Sort} {bytes left : List ℕ} (us : List Value) → IsFirstWrong row bytes left → FitsSort row us → bytes ≡ fields_text us → ⊥
none_in_row us first fits is = grind (arith, no_values)

-- Kinds by their names.

-- the value beside a text in a table, or a default
abbrev pub value_in_table : {V : Type 0} → List (List ℕ × V) → V → List ℕ → V
value_in_table [] other xs = other
value_in_table (row ∷ rows) other xs = cond (bytes_eq row.0 xs) row.1 (value_in_table rows other xs)

abbrev rows : List (List ℕ × Kind)
rows =
    (codes "POINT", Kind.Point) ∷ (codes "LINE", Kind.Line)
    ∷ (codes "ARC-OUTLINED", Kind.ArcOutlined) ∷ (codes "ARC-FILLED", Kind.ArcFilled)
    ∷ (codes "RECT-OUTLINED", Kind.RectOutlined) ∷ (codes "RECT-FILLED", Kind.RectFilled)
    ∷ (codes "POLY-OUTLINED", Kind.PolyOutlined) ∷ (codes "POLY-FILLED", Kind.PolyFilled)
    ∷ (codes "CHAR", Kind.Char) ∷ (codes "MOVE", Kind.Move) ∷ (codes "TO-EOL", Kind.ToEol)
    ∷ (codes "MAP", Kind.Map) ∷ (codes "BLINK", Kind.Blink) ∷ (codes "BLINK-END", Kind.BlinkEnd)
    ∷ (codes "BLINK-START", Kind.BlinkStart) ∷ (codes "BLINK-STOP", Kind.BlinkStop)
    ∷ (codes "WAIT", Kind.Wait) ∷ (codes "CURSOR", Kind.Cursor)
    ∷ (codes "FIELD", Kind.Field) ∷ (codes "RESET", Kind.Reset) ∷ (codes "CLEAR", Kind.Clear)
    ∷ (codes "GLYPH", Kind.Glyph) ∷ []

-- the kind with this name that no word tells apart
abbrev pub kind_at : List ℕ → Kind
kind_at = value_in_table rows Kind.Mask

abbrev plain : Kind → Kind
plain Kind.Position = Kind.Move
plain Kind.Whole = Kind.Field
plain k = k

again : (k : Kind) → kind_at (line_name k) ≡ plain k
again k = grind arith

visible : (k : Kind) → EachAbove 32 (line_name k)
visible k = grind arith

pub name_visible : (k : Kind) → All (λ x. 32 < x) (line_name k)
name_visible k = above 32 (line_name k) (visible k)

-- no name has a space
pub name_apart : (k : Kind) → All (λ x. x ≢ 32) (line_name k)
name_apart k = apart_below 32 32 (line_name k) (omega arith) (name_visible k)

-- kinds with one name, of which no word tells another, are equal
kinds_tell : (j k : Kind) (q r : List ℕ) → plain j ≡ plain k → IsChosen j q → IsChosen k r → with_word j q ≡ with_word k r → j ≡ k
kinds_tell j k q r is fits h also = grind arith

with_cancel : (k : Kind) (q r : List ℕ) → with_word k q ≡ with_word k r → q ≡ r
with_cancel k q r is = grind (arith, append_cancel_left)

-- a line is of one kind
pub one_kind : (j k : Kind) (q r : List ℕ) → IsChosen j q → IsChosen k r → line_from j q ≡ line_from k r → (j ≡ k) × (q ≡ r)
one_kind j k q r one two is = grind (arith, one_cut, name_apart, kinds_tell, again, with_cancel)

-- what follows a space doesn't matter for the kind
pub chosen_stays : (k : Kind) (q r tail : List ℕ) → IsChosen k (q ++ 32 ∷ r) → IsChosen k (q ++ 32 ∷ tail)
chosen_stays Kind.Move q r tail chosen = λ more is. let found = stays (codes "APS") q tail r more (apart_below 32 32 (codes "APS") (omega arith) (above 32 (codes "APS") (omega arith))) is in chosen found.0 found.1
chosen_stays Kind.Field q r tail chosen = λ more is. let found = stays (codes "whole") q tail r more (apart_below 32 32 (codes "whole") (omega arith) (above 32 (codes "whole") (omega arith))) is in chosen found.0 found.1
chosen_stays k q r tail chosen = tt

-- Lines of a kind, in two parts.

pub word_append : (k : Kind) (a b : List ℕ) → with_word k (a ++ b) ≡ with_word k a ++ b
word_append k a b = grind (arith, append_assoc)

pub line_append : (k : Kind) (a b : List ℕ) → line_from k (a ++ b) ≡ line_from k a ++ b
line_append k a b = ap (λ s. line_name k ++ 32 ∷ s) (word_append k a b) ∙ sym (append_assoc (line_name k) (32 ∷ with_word k a) b)
