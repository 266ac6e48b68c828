-- What the laws of lines rest on: values, entries and lists with equal texts are equal, and lines are bounded.

use Rattle.nap_make.proofs.{All, All-append, All-cons, All-head, All-nil, All-tail, All-weaker, AllInRange, AnyValue, Area, BeginsNoPoint, Bool, BothFit, CharSet, CharSize, Colour, ColourInRange, Coordinates, CursorKind, Displacement, Entry, Fields, HasFields, HasPoints, HasSixteenBitParts, InRange, IsAddress, IsByte, IsInRange, IsInSquare, IsNameAlone, IsPlainStep, IsProper, IsSigned, IsWord, Kind, List, Mask, MaskInRange, None, Option, Origin, Pen, PenInRange, Preset, Size, SizeInRange, Some, Sort, TextInRange, TextModes, TextStep, TextureInRange, Value, [], ap, append_assoc, append_cancel_left, ap₂, arith, code_text, codes, colour_text, cond, cursor_text, decimal, decimal_injective, drop, false, field_text, fields_line, fields_of, fields_text, get_or, grb_text, inl, inr, kind_row, length, length-append, length-decimal-le, length_signed_le, line, line_name, Common.lines, look_text, mask_size_text, mask_text, modes_text, move_text, negsuc, pair_text, pen_text, point_text, points_before, pos, refl, set_text, signed_decimal, size_text, step_text, subst, sym, texture_text, true, with_word, ℕ, ◌*◌, ◌++◌, ◌+◌, ◌<◌, ◌∙◌, ◌∷◌, ◌≡◌, ◌≢◌, ◌≤◌, ◌⊎◌}
use Rattle.nap_make.proofs.ValueLemmas.{Alike, IsVisible, Layout, Tells, above, addr_pair, alike_tell, both_tell, coordinates, digit_tells, first_letter, grb_triple, letter_of, look_parts, look_triple, low_neg, low_pos, modes_bytes, move_pair, move_spells, move_tells, no_cut, one_cut, part_pair, part_triple, point_pair, point_spells, point_tells, point_visible, signs, size_modes, texture_pair, texture_parts, word_pair, word_triple}
use Rattle.nap_make.proofs.FieldLemmas.{AreOf, hand_fits, ink_fits, FieldsFit, InType, LineIs, PointsFit, alone_is, field_visible, fields_fit, fits_are, line_is, name_visible, one_kind, same_entry, type_apart}
use Rattle.nap_make.proofs.LineLemmas.{FieldsChosen, alone_whole, fields_chosen, fields_no_point, point_apart}

-- The greatest lengths of texts.

-- the texts of values that fit have at most n bytes
abbrev pub AtMost : {V : Type 0} → ℕ → (V → Type 0) → (V → List ℕ) → Type 0
AtMost {V = V} n P f = (v : V) → P v → length (f v) ≤ n

both_bound : {A B : Type 0} {P : A → Type 0} {f : A → List ℕ} {b : ℕ} {Q : B → Type 0} {g : B → List ℕ} (m n : ℕ) → Layout P f b Q g → AtMost m P f → AtMost n Q g → AtMost (m + 1 + n) (BothFit P Q) (pair_text f b g)
both_bound {f = f} {b = b} {g = g} m n layout one two v fits = grind (arith, length-append)

alike_bound : {V W : Type 0} {to : V → W} {P : V → Type 0} {f : V → List ℕ} {Q : W → Type 0} {g : W → List ℕ} (n : ℕ) → Alike to P f Q g → AtMost n Q g → AtMost n P f
alike_bound {to = to} {f = f} {g = g} n alike few v fits = grind arith

key_bound : {V : Type 0} {P : V → Type 0} (n : ℕ) (f : V → List ℕ) (key : List ℕ) → AtMost n P f → AtMost (length key + n) P (λ v. key ++ f v)
key_bound n f key few v fits = grind (arith, length-append)

coordinate_bound : AtMost 7 (λ n. n < 8388608) decimal
coordinate_bound n fits = length-decimal-le 7 n (omega arith) (omega (arith, fits)) (omega (arith, fits))

word_bound : AtMost 2 IsWord decimal
word_bound n fits = length-decimal-le 2 n (omega arith) (omega (arith, fits)) (omega (arith, fits))

addr_bound : AtMost 8 IsAddress decimal
addr_bound n fits = length-decimal-le 8 n (omega arith) (omega (arith, fits)) (omega (arith, fits))

part_bound : AtMost 5 (λ n. n < 65536) decimal
part_bound n fits = length-decimal-le 5 n (omega arith) (omega (arith, fits)) (omega (arith, fits))

signed_bound : AtMost 8 IsSigned signed_decimal
signed_bound (pos n) fits = length_signed_le 7 (pos n) (omega (arith, low_pos n fits)) (omega (arith, low_pos n fits))
signed_bound (negsuc n) fits = length_signed_le 7 (negsuc n) (omega (arith, low_neg n fits)) (omega (arith, low_neg n fits))

point_bound : AtMost 15 IsInSquare point_text
point_bound = alike_bound 15 point_pair (both_bound 7 7 coordinates coordinate_bound coordinate_bound)

move_bound : AtMost 17 IsInRange move_text
move_bound = alike_bound 17 move_pair (both_bound 8 8 signs signed_bound signed_bound)

grb_bound : AtMost 17 HasSixteenBitParts grb_text
grb_bound = alike_bound 17 grb_triple (both_bound 5 11 part_triple part_bound (both_bound 5 5 part_pair part_bound part_bound))

colour_bound : AtMost 24 ColourInRange colour_text
colour_bound is fits = grind (arith, key_bound, grb_bound, addr_bound, length-append)

mask_bound : AtMost 17 MaskInRange mask_size_text
mask_bound is fits = grind (arith, move_bound)

texture_bound : AtMost 20 TextureInRange texture_text
texture_bound = alike_bound 20 texture_pair (both_bound 2 17 texture_parts word_bound mask_bound)

pen_bound : AtMost 15 PenInRange pen_text
pen_bound is fits = grind (arith, point_bound)

size_bound : AtMost 17 SizeInRange size_text
size_bound is fits = grind (arith, move_bound)

modes_bound : AtMost 4 AnyValue modes_text
modes_bound m any = let size : length (modes_text m) ≡ 4 = ap length (modes_bytes m) in omega (arith, size)

look_bound : AtMost 28 TextInRange look_text
look_bound = alike_bound 28 look_triple (both_bound 5 22 look_parts (both_bound 2 2 word_pair word_bound word_bound) (both_bound 17 4 size_modes size_bound modes_bound))

set_bound : (set : CharSet) → length (set_text set) ≤ 13
set_bound set = grind arith

step_bound : AtMost 3 IsPlainStep step_text
step_bound is fits = grind arith

cursor_bound : (state : CursorKind) → length (cursor_text state) ≤ 6
cursor_bound state = grind arith

letter_bound : (mask : Mask) → length (mask_text mask) ≤ 1
letter_bound mask = grind arith

-- Fields, rows and lines.

-- the greatest length of a field, and a space
abbrev bound_of : Sort → ℕ
bound_of Sort.Addr = 9
bound_of Sort.Code = 3
bound_of Sort.Colour = 32
bound_of Sort.Cursor = 7
bound_of Sort.Look = 34
bound_of Sort.Mask = 2
bound_of Sort.Parts = 18
bound_of Sort.Pel = 22
bound_of Sort.Pen = 20
bound_of Sort.Point = 16
bound_of Sort.Set = 14
bound_of Sort.Step = 4
bound_of Sort.Texture = 29
bound_of Sort.Times = 9
bound_of Sort.Word = 3

field_bound : (s : Sort) (v : Value) → InType s v → length (field_text v) < bound_of s
field_bound Sort.Addr (Value.Addr number) fits = omega (arith, addr_bound number fits)
field_bound Sort.Code (Value.Code code) fits = omega arith
field_bound Sort.Colour (Value.Colour colour) fits = omega (arith, key_bound 24 colour_text (codes "colour=") colour_bound colour fits)
field_bound Sort.Cursor (Value.Cursor state) fits = omega (arith, cursor_bound state)
field_bound Sort.Look (Value.Look look) fits = omega (arith, key_bound 28 look_text (codes "text=") look_bound look fits)
field_bound Sort.Mask (Value.Mask mask) fits = omega (arith, letter_bound mask)
field_bound Sort.Parts (Value.Parts grb) fits = omega (arith, grb_bound grb fits)
field_bound Sort.Pel (Value.Pel pel) fits = omega (arith, key_bound 17 move_text (codes "pel=") move_bound pel fits)
field_bound Sort.Pen (Value.Pen pen) fits = omega (arith, key_bound 15 pen_text (codes "pen=") pen_bound pen fits)
field_bound Sort.Point (Value.Point point) fits = omega (arith, point_bound point fits)
field_bound Sort.Set (Value.Set set) fits = omega (arith, set_bound set)
field_bound Sort.Step (Value.Step step) fits = omega (arith, step_bound step fits)
field_bound Sort.Texture (Value.Texture texture) fits = omega (arith, key_bound 20 texture_text (codes "texture=") texture_bound texture fits)
field_bound Sort.Times (Value.Times on off delay) fits =
    omega (arith, both_bound 2 5 word_triple word_bound (both_bound 2 2 word_pair word_bound word_bound) (on, (off, delay)) (fits.0, (fits.1, fits.2)))
field_bound Sort.Word (Value.Word number) fits = omega (arith, word_bound number fits)
field_bound _ _ fits = absurd fits

abbrev row_bound : List Sort → ℕ
row_bound [] = 0
row_bound (s ∷ row) = bound_of s + row_bound row

-- two lists and a byte between them
around : (xs ys : List ℕ) (b : ℕ) → length (xs ++ b ∷ ys) ≡ length xs + 1 + length ys
around xs ys b = let size : length (xs ++ b ∷ ys) ≡ length xs + length (b ∷ ys) = length-append xs (b ∷ ys) in omega (arith, size)

fields_below : (row : List Sort) (vs : List Value) → AreOf row vs → 0 < length vs → length (fields_text vs) < row_bound row
fields_below (s ∷ row) (v ∷ []) are some = omega (arith, field_bound s v are.0)
fields_below (s ∷ row) (v ∷ w ∷ vs) are some = omega (arith, around (field_text v) (fields_text (w ∷ vs)) 32, field_bound s v are.0, fields_below row (w ∷ vs) are.1 (omega arith))
fields_below [] [] are some = absurd (omega (arith, some))
fields_below _ _ are some = absurd are

points_bound : (points : List Coordinates) (last : List ℕ) → All IsInSquare points → length (points_before points last) ≤ 16 * length points + length last
points_bound [] last fit = omega arith
points_bound (p ∷ points) last fit = omega (arith, around (point_text p) (points_before points last) 32, point_bound p (All-head IsInSquare p points fit), points_bound points last (All-tail IsInSquare p points fit))

name_bound : (k : Kind) → length (line_name k) ≤ 13
name_bound k = grind arith

word_bound_of : (k : Kind) (rest : List ℕ) → length (with_word k rest) ≤ 6 + length rest
word_bound_of k rest = grind arith

-- the fields of a kind without points, and those of a shape
plain_bound : (k : Kind) → row_bound (kind_row k) ≤ 115
plain_bound k = grind arith

-- each kind has fields
some_fields : (k : Kind) (vs : List Value) → AreOf (kind_row k) vs → 0 < length vs
some_fields k vs is = grind arith

shape_bound : (points : List Coordinates) (vs : List Value) → All IsInSquare points → length points ≤ 2001 → AreOf (kind_row Kind.ArcFilled) vs → length (points_before points (fields_text vs)) ≤ 32098
shape_bound points vs inside few are = omega (arith, points_bound points (fields_text vs) inside, fields_below (kind_row Kind.ArcFilled) vs are (some_fields Kind.ArcFilled vs are), few)

rest_bound : (k : Kind) (points : List Coordinates) (vs : List Value) → PointsFit k points → AreOf (kind_row k) vs → length (with_word k (points_before points (fields_text vs))) ≤ 32098
rest_bound k points vs is fits = grind (arith, shape_bound, word_bound_of, fields_below, some_fields, plain_bound)

-- no line of a well-made entry in range is longer than that of the longest polygon
pub line_bounded : (e : Entry) → IsProper e → length (line e) ≤ 32112
line_bounded e proper = by (fields_of e) (line_is e) (fields_fit e proper)
  where
    by : (o : Option Fields) → LineIs e o → FieldsFit o → length (line e) ≤ 32112
    by None (inl is) fit = let size : length (line e) ≡ 4 = ap length is in omega (arith, size)
    by None (inr is) fit = let size : length (line e) ≡ 3 = ap length is in omega (arith, size)
    by (Some f) is fit =
        let rest = points_before f.points (fields_text f.values) in
        let size : length (line e) ≡ length (fields_line f) = ap length is in
        omega (arith, size, around (line_name f.kind) (with_word f.kind rest) 32, name_bound f.kind, rest_bound f.kind f.points f.values fit.points (fits_are (kind_row f.kind) f.values fit.row))

-- Values with equal texts are equal, field by field.

-- texts that can be read back are those of one value
pub tells_if_read : {V : Type 0} (P : V → Type 0) (f : V → List ℕ) (read : List ℕ → V) → ((v : V) → P v → read (f v) ≡ v) → Tells P f
tells_if_read P f read again v w v_fits w_fits is = sym (again v v_fits) ∙ ap read is ∙ again w w_fits

-- texts after a key
key_tells : {V : Type 0} {P : V → Type 0} {f : V → List ℕ} (key : List ℕ) → Tells P f → Tells P (λ v. key ++ f v)
key_tells key tells v w v_fits w_fits is = tells v w v_fits w_fits (append_cancel_left key _ _ is)

-- a text of digits and signs begins with no letter
pub low_start : (b : ℕ) (xs l : List ℕ) → 57 < b → All (λ x. x < 58) xs → xs ≡ b ∷ l → ⊥
low_start b xs l high low is = grind (arith, All-head)

pub low_point : (p : Coordinates) → IsInSquare p → All (λ x. x < 58) (point_text p)
low_point = point_spells (λ x. x < 58) (λ d low high. high) (omega arith)

low_move : (m : Displacement) → IsInRange m → All (λ x. x < 58) (move_text m)
low_move = move_spells (λ x. x < 58) (λ d low high. high) (omega arith) (omega arith)

pub word_tells : Tells IsWord decimal
word_tells m n m_fits n_fits is = decimal_injective m n (omega (arith, m_fits)) (omega (arith, n_fits)) is

pub addr_tells : Tells IsAddress decimal
addr_tells m n m_fits n_fits is = decimal_injective m n (omega (arith, m_fits)) (omega (arith, n_fits)) is

pub times_tell : Tells (BothFit IsWord (BothFit IsWord IsWord)) (pair_text decimal 44 (pair_text decimal 44 decimal))
times_tell = both_tell word_triple word_tells (both_tell word_pair word_tells word_tells)

pub grb_tells : Tells HasSixteenBitParts grb_text
grb_tells = alike_tell grb_triple (λ (t : ℕ × (ℕ × ℕ)). record { g = t.0; r = t.1.0; b = t.1.1 }) (λ c. refl) (both_tell part_triple part_tells (both_tell part_pair part_tells part_tells))
  where
    part_tells : Tells (λ n. n < 65536) decimal
    part_tells m n m_fits n_fits is = decimal_injective m n (omega (arith, m_fits)) (omega (arith, n_fits)) is

-- codes with equal digits are equal
pub code_tells : Tells IsByte code_text
code_tells m n m_fits n_fits is = grind (arith, digit_tells)

-- Values with names.

pub set_tells : Tells AnyValue set_text
set_tells = grind (arith, tells_if_read)

pub cursor_tells : Tells AnyValue cursor_text
cursor_tells = grind (arith, tells_if_read)

pub mask_tells : Tells AnyValue mask_text
mask_tells = grind (arith, tells_if_read)

named_tells : Tells AnyValue (λ n. size_text (CharSize.Named n))
named_tells = grind (arith, tells_if_read)

-- Values of several forms.

-- no displacement has the text of a named size
no_name : (n : Size) (m : Displacement) → IsInRange m → move_text m ≡ size_text (CharSize.Named n) → ⊥
no_name Size.Small m fits is = low_start 115 (move_text m) (codes "mall") (omega arith) (low_move m fits) is
no_name n m fits is = let name = size_text (CharSize.Named n) in low_start (get_or name 0 0) (move_text m) (drop 1 name) (omega arith) (low_move m fits) is

size_tells : Tells SizeInRange size_text
size_tells (CharSize.Named m) (CharSize.Named n) m_fits n_fits is = ap CharSize.Named (named_tells m n tt tt is)
size_tells (CharSize.Named m) (CharSize.Given n) m_fits n_fits is = absurd (no_name m n n_fits (sym is))
size_tells (CharSize.Given m) (CharSize.Named n) m_fits n_fits is = absurd (no_name n m m_fits is)
size_tells (CharSize.Given m) (CharSize.Given n) m_fits n_fits is = ap CharSize.Given (move_tells m n m_fits n_fits is)

mask_size_tells : Tells MaskInRange mask_size_text
mask_size_tells None None m_fits n_fits is = refl
mask_size_tells None (Some n) m_fits n_fits is = absurd (low_start 110 (move_text n) (codes "one") (omega arith) (low_move n n_fits) (sym is))
mask_size_tells (Some m) None m_fits n_fits is = absurd (low_start 110 (move_text m) (codes "one") (omega arith) (low_move m m_fits) is)
mask_size_tells (Some m) (Some n) m_fits n_fits is = ap Some (move_tells m n m_fits n_fits is)

pub pen_tells : Tells PenInRange pen_text
pen_tells Pen.Start Pen.Start m_fits n_fits is = refl
pen_tells Pen.Start (Pen.At q) m_fits n_fits is = absurd (low_start 115 (point_text q) (codes "tart") (omega arith) (low_point q n_fits) (sym is))
pen_tells Pen.Start Pen.After m_fits n_fits is = let first : 115 ≡ 97 = ap (λ s. get_or s 0 0) is in absurd (omega (arith, first))
pen_tells (Pen.At p) Pen.Start m_fits n_fits is = absurd (low_start 115 (point_text p) (codes "tart") (omega arith) (low_point p m_fits) is)
pen_tells (Pen.At p) (Pen.At q) m_fits n_fits is = ap Pen.At (point_tells p q m_fits n_fits is)
pen_tells (Pen.At p) Pen.After m_fits n_fits is = absurd (low_start 97 (point_text p) (codes "fter") (omega arith) (low_point p m_fits) is)
pen_tells Pen.After Pen.Start m_fits n_fits is = let first : 97 ≡ 115 = ap (λ s. get_or s 0 0) is in absurd (omega (arith, first))
pen_tells Pen.After (Pen.At q) m_fits n_fits is = absurd (low_start 97 (point_text q) (codes "fter") (omega arith) (low_point q n_fits) (sym is))
pen_tells Pen.After Pen.After m_fits n_fits is = refl

pair_tells : (a b c d : ℕ) → IsAddress a × IsAddress b → IsAddress c × IsAddress d → colour_text (Colour.Pair a b) ≡ colour_text (Colour.Pair c d) → Colour.Pair a b ≡ Colour.Pair c d
pair_tells a b c d one two is =
    let numbers = append_cancel_left (codes "pair:") (decimal a ++ codes "," ++ decimal b) (decimal c ++ codes "," ++ decimal d) is in
    let same = both_tell addr_pair addr_tells addr_tells (a, b) (c, d) one two (sym (append_assoc (decimal a) (codes ",") (decimal b)) ∙ numbers ∙ append_assoc (decimal c) (codes ",") (decimal d)) in
    ap (λ (p : ℕ × ℕ). Colour.Pair p.0 p.1) same

pub colour_tells : Tells ColourInRange colour_text
colour_tells c d c_fits d_fits is = by c d c_fits d_fits is (sym (first_letter c) ∙ ap (λ s. get_or s 0 0) is ∙ first_letter d)
  where
    by : (c d : Colour) → ColourInRange c → ColourInRange d → colour_text c ≡ colour_text d → letter_of c ≡ letter_of d → c ≡ d
    by (Colour.Own Origin.AtStart) (Colour.Own Origin.AtStart) c_fits d_fits is same = refl
    by (Colour.Own Origin.AtStart) (Colour.Own Origin.AfterReset) c_fits d_fits is same = let fifth : 115 ≡ 114 = ap (λ s. get_or s 4 0) is in absurd (omega (arith, fifth))
    by (Colour.Own Origin.AfterReset) (Colour.Own Origin.AtStart) c_fits d_fits is same = let fifth : 114 ≡ 115 = ap (λ s. get_or s 4 0) is in absurd (omega (arith, fifth))
    by (Colour.Own Origin.AfterReset) (Colour.Own Origin.AfterReset) c_fits d_fits is same = refl
    by (Colour.Direct a) (Colour.Direct b) c_fits d_fits is same = ap Colour.Direct (grb_tells a b c_fits d_fits (append_cancel_left (codes "direct:") (grb_text a) (grb_text b) is))
    by (Colour.Front a) (Colour.Front b) c_fits d_fits is same = ap Colour.Front (addr_tells a b c_fits d_fits (append_cancel_left (codes "front:") (decimal a) (decimal b) is))
    by (Colour.Pair a b) (Colour.Pair c d) c_fits d_fits is same = pair_tells a b c d c_fits d_fits is
    by (Colour.ByReset Preset.Two) (Colour.ByReset Preset.Two) c_fits d_fits is same = refl
    by (Colour.ByReset Preset.Two) (Colour.ByReset Preset.Three) c_fits d_fits is same = let last : 50 ≡ 51 = ap (λ s. get_or s 6 0) is in absurd (omega (arith, last))
    by (Colour.ByReset Preset.Three) (Colour.ByReset Preset.Two) c_fits d_fits is same = let last : 51 ≡ 50 = ap (λ s. get_or s 6 0) is in absurd (omega (arith, last))
    by (Colour.ByReset Preset.Three) (Colour.ByReset Preset.Three) c_fits d_fits is same = refl
    by c d c_fits d_fits is same = absurd (omega (arith, same))

-- Textures, INK and HAND.

pub texture_tells : Tells TextureInRange texture_text
texture_tells = alike_tell texture_pair (λ (t : ℕ × Option Displacement). record { word = t.0; mask = t.1 }) (λ t. refl) (both_tell texture_parts word_tells mask_size_tells)

flag_tells : (a b : Bool) (letter : ℕ) → letter ≢ 45 → cond a letter 45 ≡ cond b letter 45 → a ≡ b
flag_tells a b letter is fits = grind arith

modes_tell : Tells AnyValue modes_text
modes_tell m n any also is = grind (arith, modes_bytes, flag_tells)

pub look_tells : Tells TextInRange look_text
look_tells =
    alike_tell look_triple (λ (t : (ℕ × ℕ) × (CharSize × TextModes)). record { first = t.0.0; second = t.0.1; size = t.1.0; reverse = t.1.1.reverse; underline = t.1.1.underline; wrap = t.1.1.wrap; scroll = t.1.1.scroll }) (λ t. refl)
    (both_tell look_parts (both_tell word_pair word_tells word_tells) (both_tell size_modes size_tells modes_tell))

-- Entries in the ranges of their types, by the fields of their lines.

-- points in the unit screen, or none of a kind that has none
abbrev pub PointsOf : Kind → List Coordinates → Type 0
PointsOf k points = All IsInSquare points × (HasPoints k ⊎ (points ≡ []))

abbrev pub FieldsOf : Option Fields → Type 0
FieldsOf None = Unit {0}
FieldsOf (Some f) = AreOf (kind_row f.kind) f.values × PointsOf f.kind f.points

alone : PointsOf Kind.Point []
alone = (All-nil IsInSquare, inr refl)

pub fields_in_range : (e : Entry) → InRange e → FieldsOf (fields_of e)
fields_in_range (Entry.Point at pel colour) fits = ((fits.0, (fits.1, (fits.2, tt))), alone)
fields_in_range (Entry.Line from to ink) fits = ((fits.0, (fits.1, ink_fits.0 fits.2)), alone)
fields_in_range (Entry.Arc true points ink) fits = (ink_fits.0 fits.1, (fits.0, inl tt))
fields_in_range (Entry.Arc false points ink) fits = (ink_fits.0 fits.1, (fits.0, inl tt))
fields_in_range (Entry.Rect true from to ink) fits = ((fits.0, (fits.1, ink_fits.0 fits.2)), alone)
fields_in_range (Entry.Rect false from to ink) fits = ((fits.0, (fits.1, ink_fits.0 fits.2)), alone)
fields_in_range (Entry.Poly true points ink) fits = (ink_fits.0 fits.1, (fits.0, inl tt))
fields_in_range (Entry.Poly false points ink) fits = (ink_fits.0 fits.1, (fits.0, inl tt))
fields_in_range (Entry.Char set code hand) fits = ((tt, (fits.0, hand_fits.0 fits.1)), alone)
fields_in_range (Entry.TextMove (TextStep.Aps row column) hand) fits = ((fits.0.0, (fits.0.1, hand_fits.0 fits.1)), alone)
fields_in_range (Entry.TextMove step hand) fits = ((tt, hand_fits.0 fits.1), alone)
fields_in_range (Entry.ToEol hand) fits = (hand_fits.0 fits, alone)
fields_in_range (Entry.Map addr grb) fits = ((fits.0, (fits.1, tt)), alone)
fields_in_range (Entry.Blink addr on off delay colour) fits = ((fits.0, ((fits.1, fits.2, fits.3), (fits.4, tt))), alone)
fields_in_range (Entry.BlinkMark true colour) fits = ((fits, tt), alone)
fields_in_range Entry.Bell fits = tt
fields_in_range (Entry.Cursor state) fits = ((tt, tt), alone)
fields_in_range (Entry.Field Area.Whole pen) fits = ((fits.1, tt), alone)
fields_in_range (Entry.Field (Area.Part from to) pen) fits = ((fits.0.0, (fits.0.1, (fits.1, tt))), alone)
fields_in_range (Entry.Reset first second pen) fits = ((fits.0, (fits.1, (fits.2, tt))), alone)
fields_in_range (Entry.MaskStart mask) fits = ((tt, tt), alone)
fields_in_range Entry.DefEnd fits = tt
fields_in_range _ fits = ((fits, tt), alone)

-- Values with equal texts are equal.

plain_tells : Tells IsPlainStep step_text
plain_tells s t s_fits t_fits is = grind arith

field_tells : (s : Sort) (v w : Value) → InType s v → InType s w → field_text v ≡ field_text w → v ≡ w
field_tells Sort.Addr (Value.Addr a) (Value.Addr b) v_fits w_fits is = ap Value.Addr (addr_tells a b v_fits w_fits is)
field_tells Sort.Code (Value.Code a) (Value.Code b) v_fits w_fits is = ap Value.Code (code_tells a b v_fits w_fits is)
field_tells Sort.Colour (Value.Colour a) (Value.Colour b) v_fits w_fits is = ap Value.Colour (key_tells (codes "colour=") colour_tells a b v_fits w_fits is)
field_tells Sort.Cursor (Value.Cursor a) (Value.Cursor b) v_fits w_fits is = ap Value.Cursor (cursor_tells a b tt tt is)
field_tells Sort.Look (Value.Look a) (Value.Look b) v_fits w_fits is = ap Value.Look (key_tells (codes "text=") look_tells a b v_fits w_fits is)
field_tells Sort.Mask (Value.Mask a) (Value.Mask b) v_fits w_fits is = ap Value.Mask (mask_tells a b tt tt is)
field_tells Sort.Parts (Value.Parts a) (Value.Parts b) v_fits w_fits is = ap Value.Parts (grb_tells a b v_fits w_fits is)
field_tells Sort.Pel (Value.Pel a) (Value.Pel b) v_fits w_fits is = ap Value.Pel (key_tells (codes "pel=") move_tells a b v_fits w_fits is)
field_tells Sort.Pen (Value.Pen a) (Value.Pen b) v_fits w_fits is = ap Value.Pen (key_tells (codes "pen=") pen_tells a b v_fits w_fits is)
field_tells Sort.Point (Value.Point a) (Value.Point b) v_fits w_fits is = ap Value.Point (point_tells a b v_fits w_fits is)
field_tells Sort.Set (Value.Set a) (Value.Set b) v_fits w_fits is = ap Value.Set (set_tells a b tt tt is)
field_tells Sort.Step (Value.Step a) (Value.Step b) v_fits w_fits is = ap Value.Step (plain_tells a b v_fits w_fits is)
field_tells Sort.Texture (Value.Texture a) (Value.Texture b) v_fits w_fits is = ap Value.Texture (key_tells (codes "texture=") texture_tells a b v_fits w_fits is)
field_tells Sort.Times (Value.Times a b c) (Value.Times d e f) v_fits w_fits is =
    ap (λ (t : ℕ × (ℕ × ℕ)). Value.Times t.0 t.1.0 t.1.1) (times_tell (a, (b, c)) (d, (e, f)) (v_fits.0, (v_fits.1, v_fits.2)) (w_fits.0, (w_fits.1, w_fits.2)) is)
field_tells Sort.Word (Value.Word a) (Value.Word b) v_fits w_fits is = ap Value.Word (word_tells a b v_fits w_fits is)
field_tells s v w v_fits w_fits is = absurd (let no : ⊥ = search in no)

fields_tell : (row : List Sort) (vs us : List Value) → AreOf row vs → AreOf row us → fields_text vs ≡ fields_text us → vs ≡ us
fields_tell [] [] [] one two is = refl
fields_tell (s ∷ []) (v ∷ []) (u ∷ []) one two is = ap (◌∷ []) (field_tells s v u one.0 two.0 is)
fields_tell (s ∷ t ∷ row) (v ∷ w ∷ vs) (u ∷ x ∷ us) one two is =
    let same = one_cut 32 (field_text v) (fields_text (w ∷ vs)) (field_text u) (fields_text (x ∷ us)) (type_apart s v one.0) (type_apart s u two.0) is in
    ap₂ (λ (y : Value) (ys : List Value). y ∷ ys) (field_tells s v u one.0 two.0 same.0) (fields_tell (t ∷ row) (w ∷ vs) (x ∷ us) one.1 two.1 same.1)
fields_tell _ _ _ one two is = absurd (let no : ⊥ = search in no)

-- Lines with equal points and fields.

points_tell : (ps qs : List Coordinates) (a b : List ℕ) → All IsInSquare ps → All IsInSquare qs → BeginsNoPoint a → BeginsNoPoint b → points_before ps a ≡ points_before qs b → (ps ≡ qs) × (a ≡ b)
points_tell [] [] a b one two none also is = (refl, is)
points_tell [] (q ∷ qs) a b one two none also is = absurd (none q (points_before qs b) (All-head IsInSquare q qs two) is)
points_tell (p ∷ ps) [] a b one two none also is = absurd (also p (points_before ps a) (All-head IsInSquare p ps one) (sym is))
points_tell (p ∷ ps) (q ∷ qs) a b one two none also is =
    let p_fits = All-head IsInSquare p ps one in
    let q_fits = All-head IsInSquare q qs two in
    let same = one_cut 32 (point_text p) (points_before ps a) (point_text q) (points_before qs b) (point_apart p p_fits) (point_apart q q_fits) is in
    let others = points_tell ps qs a b (All-tail IsInSquare p ps one) (All-tail IsInSquare q qs two) none also same.1 in
    (ap₂ (λ (x : Coordinates) (xs : List Coordinates). x ∷ xs) (point_tells p q p_fits q_fits same.0) others.0, others.1)

fields_same : (k : Kind) (ps qs : List Coordinates) (vs us : List Value) → PointsOf k ps → PointsOf k qs → AreOf (kind_row k) vs → AreOf (kind_row k) us → points_before ps (fields_text vs) ≡ points_before qs (fields_text us) → (ps ≡ qs) × (vs ≡ us)
fields_same k ps qs vs us one two vs_are us_are is = by one.1 two.1
  where
    shaped : HasPoints k → (ps ≡ qs) × (vs ≡ us)
    shaped has =
        let same = points_tell ps qs (fields_text vs) (fields_text us) one.0 two.0 (fields_no_point k vs has vs_are) (fields_no_point k us has us_are) is in
        (same.0, fields_tell (kind_row k) vs us vs_are us_are same.1)

    by : HasPoints k ⊎ (ps ≡ []) → HasPoints k ⊎ (qs ≡ []) → (ps ≡ qs) × (vs ≡ us)
    by (inl has) other = shaped has
    by other (inl has) = shaped has
    by (inr none) (inr also) =
        let texts = ap (λ xs. points_before xs (fields_text vs)) (sym none) ∙ is ∙ ap (λ xs. points_before xs (fields_text us)) also in
        (none ∙ sym also, fields_tell (kind_row k) vs us vs_are us_are texts)

alone_tells : (e g : Entry) → (e ≡ Entry.Bell) ⊎ (e ≡ Entry.DefEnd) → (g ≡ Entry.Bell) ⊎ (g ≡ Entry.DefEnd) → line e ≡ line g → e ≡ g
alone_tells e g is fits h = grind arith

-- entries in range with equal lines are equal
pub line_tells : (e g : Entry) → InRange e → InRange g → line e ≡ line g → e ≡ g
line_tells e g e_fits g_fits is = by (fields_of e) (fields_of g) refl refl (line_is e) (line_is g) (fields_in_range e e_fits) (fields_in_range g g_fits) (fields_chosen e e_fits) (fields_chosen g g_fits)
  where
    spaced : (xs : List ℕ) (f : Fields) → IsNameAlone xs → xs ≡ fields_line f → ⊥
    spaced xs f alone so = no_cut 32 xs (line_name f.kind) (with_word f.kind (points_before f.points (fields_text f.values))) (alone_whole xs alone) so

    with_kind : (j k : Kind) (ps qs : List Coordinates) (vs us : List Value) → HasFields j ps vs e → HasFields k qs us g → AreOf (kind_row j) vs × PointsOf j ps → AreOf (kind_row k) us × PointsOf k qs → j ≡ k →
        points_before ps (fields_text vs) ≡ points_before qs (fields_text us) → e ≡ g
    with_kind j k ps qs vs us one two e_are g_are same rests =
        let ends = fields_same j ps qs vs us e_are.1 (subst (λ m. PointsOf m qs) (sym same) g_are.1) e_are.0 (subst (λ m. AreOf (kind_row m) us) (sym same) g_are.0) rests in
        let here : HasFields j ps vs g = two ∙ ap (λ m. Some (record { kind = m; points = qs; values = us })) (sym same) ∙ ap (λ xs. Some (record { kind = j; points = xs; values = us })) (sym ends.0)
        ∙ ap (λ xs. Some (record { kind = j; points = ps; values = xs })) (sym ends.1) in
        same_entry one here

    by : (o p : Option Fields) → fields_of e ≡ o → fields_of g ≡ p → LineIs e o → LineIs g p → FieldsOf o → FieldsOf p → FieldsChosen o → FieldsChosen p → e ≡ g
    by None None one two e_is g_is e_are g_are e_chosen g_chosen = alone_tells e g (alone_is e one) (alone_is g two) is
    by None (Some h) one two e_is g_is e_are g_are e_chosen g_chosen = absurd (spaced (line e) h e_is (is ∙ g_is))
    by (Some f) None one two e_is g_is e_are g_are e_chosen g_chosen = absurd (spaced (line g) f g_is (sym is ∙ e_is))
    by (Some f) (Some h) one two e_is g_is e_are g_are e_chosen g_chosen =
        let same = one_kind f.kind h.kind (points_before f.points (fields_text f.values)) (points_before h.points (fields_text h.values)) e_chosen g_chosen (sym e_is ∙ is ∙ g_is) in
        with_kind f.kind h.kind f.points h.points f.values h.values one two e_are g_are same.0 same.1

-- No line contains LF.

-- a visible byte, or a space
abbrev IsInLine : ℕ → Type 0
IsInLine b = 31 < b

in_line : (xs : List ℕ) → All IsVisible xs → All IsInLine xs
in_line xs all = All-weaker IsVisible IsInLine (λ x high. omega (arith, high)) xs all

fields_in : (row : List Sort) (vs : List Value) → AreOf row vs → All IsInLine (fields_text vs)
fields_in [] [] are = All-nil IsInLine
fields_in (s ∷ row) (v ∷ []) are = in_line (field_text v) (field_visible s v are.0)
fields_in (s ∷ row) (v ∷ w ∷ vs) are =
    All-append IsInLine (field_text v) (32 ∷ fields_text (w ∷ vs)) (in_line (field_text v) (field_visible s v are.0)) (All-cons IsInLine 32 (fields_text (w ∷ vs)) (omega arith) (fields_in row (w ∷ vs) are.1))
fields_in _ _ are = absurd are

points_in : (points : List Coordinates) (last : List ℕ) → All IsInSquare points → All IsInLine last → All IsInLine (points_before points last)
points_in [] last fit all = all
points_in (p ∷ points) last fit all =
    All-append IsInLine (point_text p) (32 ∷ points_before points last) (in_line (point_text p) (point_visible p (All-head IsInSquare p points fit)))
    (All-cons IsInLine 32 (points_before points last) (omega arith) (points_in points last (All-tail IsInSquare p points fit) all))

word_in : (k : Kind) (rest : List ℕ) → All IsInLine rest → All IsInLine (with_word k rest)
word_in k rest is = grind (arith, All-append, above)

pub line_whole : (e : Entry) → InRange e → All (λ x. x ≢ 10) (line e)
line_whole e fits = All-weaker IsInLine (λ x. x ≢ 10) (λ x high is. omega (arith, high, is)) (line e) (by (fields_of e) (line_is e) (fields_in_range e fits))
  where
    by : (o : Option Fields) → LineIs e o → FieldsOf o → All IsInLine (line e)
    by None (inl is) are = subst (All IsInLine) (sym is) (above 31 (codes "BELL") (omega arith))
    by None (inr is) are = subst (All IsInLine) (sym is) (above 31 (codes "END") (omega arith))
    by (Some f) is are =
        let rest = points_before f.points (fields_text f.values) in
        subst (All IsInLine) (sym is)
        (All-append IsInLine (line_name f.kind) (32 ∷ with_word f.kind rest) (in_line (line_name f.kind) (name_visible f.kind))
        (All-cons IsInLine 32 (with_word f.kind rest) (omega arith) (word_in f.kind rest (points_in f.points (fields_text f.values) are.1.0 (fields_in (kind_row f.kind) f.values are.0)))))

-- Lists with equal lines are equal.

-- the lines of a list begin with that of its first entry
lines_cut : (x : Entry) (d : List Entry) → lines (x ∷ d) ≡ line x ++ 10 ∷ lines d
lines_cut x d = append_assoc (line x) (10 ∷ []) (lines d)

pub lines_tell : (d e : List Entry) → AllInRange d → AllInRange e → lines d ≡ lines e → d ≡ e
lines_tell [] [] d_fit e_fit is = refl
lines_tell [] (y ∷ e) d_fit e_fit is = absurd (no_cut 10 [] (line y) (lines e) (All-nil (λ x. x ≢ 10)) (is ∙ lines_cut y e))
lines_tell (x ∷ d) [] d_fit e_fit is = absurd (no_cut 10 [] (line x) (lines d) (All-nil (λ x. x ≢ 10)) (sym is ∙ lines_cut x d))
lines_tell (x ∷ d) (y ∷ e) d_fit e_fit is =
    let x_fits = All-head InRange x d d_fit in
    let y_fits = All-head InRange y e e_fit in
    let same = one_cut 10 (line x) (lines d) (line y) (lines e) (line_whole x x_fits) (line_whole y y_fits) (sym (lines_cut x d) ∙ is ∙ lines_cut y e) in
    ap₂ (λ (z : Entry) (zs : List Entry). z ∷ zs) (line_tells x y x_fits y_fits same.0) (lines_tell d e (All-tail InRange x d d_fit) (All-tail InRange y e e_fit) same.1)
