-- Lines by their kinds, and the column of the fault of a line that is none.

use Rattle.nap_make.proofs.{All, All-append, All-cons, All-head, All-nil, All-tail, BeginsLine, BeginsNoPoint, CharSet, CharSize, Colour, Coordinates, CursorKind, EndsPoints, EndsWithSpace, Entry, Err, Fields, FitsSort, HasFields, HasPoints, InRange, InSort, IsChosen, IsColumnAtName, IsEntryLine, IsFirstWrong, IsInSquare, IsNameAlone, IsPlace, IsProper, IsWritten, Kind, LineFault, List, Mask, MatchResult, None, Ok, Option, Origin, Pen, Result, Size, Some, Sort, SplitsAtByte, TellsColumn, TellsLine, TextStep, Value, WritesNone, [], ap, append-nil, append_assoc, arith, codes, false, field_text, fields_before, fields_line, fields_of, fields_text, get_or, inl, inr, kind_row, least_points, length, length-append, line, line_from, line_name, point_text, points_before, points_limit, pos, refl, subst, sym, ℕ, ◌++◌, ◌+◌, ◌-◌, ◌<◌, ◌∙◌, ◌∷◌, ◌≡◌, ◌≢◌, ◌≤◌, ◌⊎◌}
use Rattle.nap_make.proofs.ValueLemmas.{above, apart_below, cut_text, no_cut, one_cut, point_spells, point_visible, spaceless, uncut}
use Rattle.nap_make.proofs.FieldLemmas.{AreFields, AreOf, FieldsFit, HasEntry, LineIs, PointsFit, before_append, chosen_stays, fields_fit, first_stays, fits_append, fits_are, line_append, line_is, name_apart, none_in_row, one_kind, plain_entry_with, same_entry, shape_entry_with, stays}

-- Lines by their kinds.

-- a text that begins with a byte which the part before its first space doesn't contain
pub other_start : (b : ℕ) (f k l : List ℕ) → 32 < b → All (λ x. x ≢ b) f → f ++ 32 ∷ k ≡ b ∷ l → ⊥
other_start b [] k l high none is = let same : 32 ≡ b = ap (λ s. get_or s 0 0) is in omega (arith, same, high)
other_start b (x ∷ f) k l high none is = All-head (λ y. y ≢ b) x f none (ap (λ s. get_or s 0 0) is)

-- a point begins with no letter
pub point_without : (b : ℕ) → 58 ≤ b → (p : Coordinates) → IsInSquare p → All (λ x. x ≢ b) (point_text p)
point_without b letter = point_spells (λ x. x ≢ b) (λ d low high is. omega (arith, high, is, letter)) (λ is. omega (arith, is, letter))

abbrev pub FieldsChosen : Option Fields → Type 0
FieldsChosen None = Unit {0}
FieldsChosen (Some f) = IsChosen f.kind (points_before f.points (fields_text f.values))

-- no word that tells kinds apart comes first in an entry's fields
pub fields_chosen : (e : Entry) → InRange e → FieldsChosen (fields_of e)
fields_chosen e is = grind (arith, other_start, point_without)

-- a name alone has no space
pub alone_whole : (xs : List ℕ) → IsNameAlone xs → All (λ x. x ≢ 32) xs
alone_whole xs is = grind (arith, apart_below, above)

-- what is known of an entry with this line, if it has fields
pub record IsReadAs (e : Entry) (f : Fields) : Type 0 where
  pub fields : fields_of e ≡ Some f
  pub line_so : line e ≡ fields_line f
  pub fit : AreFields f
  pub chosen : IsChosen f.kind (points_before f.points (fields_text f.values))

pub read_or_alone : (e : Entry) → IsProper e → IsNameAlone (line e) ⊎ ((f : Fields) × IsReadAs e f)
read_or_alone e proper = by (fields_of e) refl (line_is e) (fields_fit e proper) (fields_chosen e proper.in_range)
  where
    by : (o : Option Fields) → fields_of e ≡ o → LineIs e o → FieldsFit o → FieldsChosen o → IsNameAlone (line e) ⊎ ((f : Fields) × IsReadAs e f)
    by None is so fit chosen = inl so
    by (Some f) is so fit chosen = inr (f, record { fields = is; line_so = so; fit = fit; chosen = chosen })

-- an entry whose line has a space has fields
pub with_fields : (e : Entry) (a b : List ℕ) → IsProper e → line e ≡ a ++ 32 ∷ b → (f : Fields) × IsReadAs e f
with_fields e a b proper is = by (read_or_alone e proper)
  where
    by : IsNameAlone (line e) ⊎ ((f : Fields) × IsReadAs e f) → (f : Fields) × IsReadAs e f
    by (inl alone) = absurd (no_cut 32 (line e) a b (alone_whole (line e) alone) is)
    by (inr has) = has

-- the entry of a line of a kind: its points, and the values of its row
pub record IsOfKind (k : Kind) (rest : List ℕ) : Type 0 where
  pub points : List Coordinates
  pub values : List Value
  pub follows : rest ≡ points_before points (fields_text values)
  pub row : FitsSort (kind_row k) values
  pub points_fit : PointsFit k points

pub of_kind : (e : Entry) (k : Kind) (rest : List ℕ) → IsProper e → IsChosen k rest → line_from k rest ≡ line e → IsOfKind k rest
of_kind e k rest proper chosen is = grind (arith, with_fields, one_kind)

no_points : (k : Kind) (points : List Coordinates) → (HasPoints k → ⊥) → PointsFit k points → points ≡ []
no_points k points is fits = grind arith

-- no entry has a line of a kind without points with a wrong field
pub none_plain : (k : Kind) {rest left : List ℕ} → (HasPoints k → ⊥) → IsChosen k rest → IsFirstWrong (kind_row k) rest left → WritesNone IsProper line (line_from k rest)
none_plain k plain chosen first e proper is =
    let own = of_kind e k _ proper chosen is in
    none_in_row own.values first own.row (own.follows ∙ ap (λ ps. points_before ps (fields_text own.values)) (no_points k own.points plain own.points_fit))

-- an entry with these fields has their line
pub fields_written : {e : Entry} {k : Kind} {points : List Coordinates} {vs : List Value} {rest : List ℕ} → IsProper e → HasFields k points vs e → rest ≡ points_before points (fields_text vs) → IsWritten IsProper line (line_from k rest) e
fields_written {e = e} {k = k} proper has is = record { fitting = proper; written = ap (line_from k) is ∙ sym (subst (LineIs e) has (line_is e)) }

-- Points before fields.

pub point_apart : (p : Coordinates) → IsInSquare p → All (λ x. x ≢ 32) (point_text p)
point_apart = spaceless point_text point_visible

pub points_grow : (points : List Coordinates) (p : Coordinates) (more : List ℕ) → points_before (points ++ p ∷ []) more ≡ points_before points (point_text p ++ 32 ∷ more)
points_grow [] p more = refl
points_grow (q ∷ points) p more = ap (λ s. point_text q ++ 32 ∷ s) (points_grow points p more)

pub points_append : (points : List Coordinates) (a b : List ℕ) → points_before points (a ++ b) ≡ points_before points a ++ b
points_append [] a b = refl
points_append (q ∷ points) a b = ap (λ s. point_text q ++ 32 ∷ s) (points_append points a b) ∙ sym (append_assoc (point_text q) (32 ∷ points_before points a) b)

pub points_join : (ps qs : List Coordinates) (last : List ℕ) → points_before (ps ++ qs) last ≡ points_before ps (points_before qs last)
points_join [] qs last = refl
points_join (p ∷ ps) qs last = ap (λ s. point_text p ++ 32 ∷ s) (points_join ps qs last)

-- The walk.

pub record HasPointsSo (bytes : List ℕ) (points : List Coordinates) (rest : List ℕ) : Type 0 where
  pub parts : bytes ≡ points_before points rest
  pub inside : All IsInSquare points
  pub few : length points ≤ points_limit

pub point_read : {bytes rest more : List ℕ} {points : List Coordinates} (p : Coordinates) → HasPointsSo bytes points rest → length points < points_limit →
    IsInSquare p × (rest ≡ point_text p ++ 32 ∷ more) → HasPointsSo bytes (points ++ p ∷ []) more
point_read {more = more} {points = points} p has below next = record {
  parts = has.parts ∙ ap (points_before points) next.1 ∙ sym (points_grow points p more);
  inside = All-append IsInSquare points (p ∷ []) has.inside (All-cons IsInSquare p [] next.0 (All-nil IsInSquare));
  few = let size : length (points ++ p ∷ []) ≡ length points + 1 = length-append points (p ∷ []) in omega (arith, size, below);
}

pub no_space_behind : {bytes : List ℕ} → ((x y : List ℕ) → SplitsAtByte 32 bytes x y → ⊥) → BeginsNoPoint bytes
no_space_behind none p more fits is = none (point_text p) more (record { joins = is; first = point_apart p fits })

pub no_point_first : {bytes word more : List ℕ} → SplitsAtByte 32 bytes word more → WritesNone IsInSquare point_text word → BeginsNoPoint bytes
no_point_first cuts none p others fits is = none p fits (cut_text cuts (point_apart p fits) is).0

-- No shape has a line with a wrong point or field.

-- the fields behind the points of a shape begin no point
pub fields_no_point : (k : Kind) (vs : List Value) → HasPoints k → AreOf (kind_row k) vs → BeginsNoPoint (fields_text vs)
fields_no_point k vs has fits = grind (arith, other_start, point_without)

-- a shape with this line has the points read, and then others
record GoesOn (points ps : List Coordinates) (rest last : List ℕ) : Type 0 where
  others : List Coordinates
  size : length ps ≡ length points + length others
  inside : All IsInSquare others
  follows : rest ≡ points_before others last

goes_on : (points ps : List Coordinates) (rest last : List ℕ) → All IsInSquare points → All IsInSquare ps → BeginsNoPoint last → points_before points rest ≡ points_before ps last → GoesOn points ps rest last
goes_on [] ps rest last fit also none is = record { others = ps; size = omega arith; inside = also; follows = is }
goes_on (p ∷ points) [] rest last fit also none is = absurd (none p (points_before points rest) (All-head IsInSquare p points fit) (sym is))
goes_on (p ∷ points) (q ∷ ps) rest last fit also none is =
    let same = one_cut 32 (point_text p) (points_before points rest) (point_text q) (points_before ps last) (point_apart p (All-head IsInSquare p points fit)) (point_apart q (All-head IsInSquare q ps also)) is in
    let more = goes_on points ps rest last (All-tail IsInSquare p points fit) (All-tail IsInSquare q ps also) none same.1 in
    record { others = more.others; size = omega (arith, more.size); inside = more.inside; follows = more.follows }

-- what is wrong behind the points of a shape: there are too few, or a field of the row is
abbrev pub IsWrongAfter : Kind → List Coordinates → List ℕ → List ℕ → Type 0
IsWrongAfter k points rest left = ((length points < least_points k) × (left ≡ rest)) ⊎ ((least_points k ≤ length points) × IsFirstWrong (kind_row k) rest left)

shape_points : (k : Kind) (points : List Coordinates) → HasPoints k → PointsFit k points → All IsInSquare points × (least_points k ≤ length points) × (length points ≤ points_limit)
shape_points k points is fits = grind arith

pub shape_chosen : (k : Kind) (rest : List ℕ) → HasPoints k → IsChosen k rest
shape_chosen k rest is = grind arith

pub none_shape : (k : Kind) {bytes rest left : List ℕ} {points : List Coordinates} → HasPoints k → EndsPoints bytes points rest → IsWrongAfter k points rest left → WritesNone IsProper line (line_from k bytes)
none_shape k {bytes = bytes} {rest = rest} {left = left} {points = points} has ended wrong e proper is =
    let own = of_kind e k bytes proper (shape_chosen k bytes has) is in
    let fit = shape_points k own.points has own.points_fit in
    let goes = goes_on points own.points rest (fields_text own.values) ended.inside fit.0 (fields_no_point k own.values has (fits_are (kind_row k) own.values own.row)) (sym ended.parts ∙ own.follows) in
    by own.values own.row goes.others (omega (arith, goes.size, fit.1)) (omega (arith, goes.size, fit.2)) goes.inside goes.follows wrong ended.ends
  where
    by : (vs : List Value) → FitsSort (kind_row k) vs → (others : List Coordinates) → least_points k ≤ length points + length others → length points + length others ≤ points_limit → All IsInSquare others →
        rest ≡ points_before others (fields_text vs) → IsWrongAfter k points rest left → (length points ≡ points_limit) ⊎ BeginsNoPoint rest → ⊥
    by vs row [] least few inside follows (inl short) ends = omega (arith, least, short.0)
    by vs row [] least few inside follows (inr first) ends = none_in_row vs first.1 row follows
    by vs row (q ∷ others) least few inside follows wrong (inl full) = omega (arith, few, full)
    by vs row (q ∷ others) least few inside follows wrong (inr none) = none q (points_before others (fields_text vs)) (All-head IsInSquare q others inside) follows

-- The column of a fault.

-- no entry has the line, and its fault is in this column
abbrev pub TellsWrong : List ℕ → ℕ → Type 0
TellsWrong bytes column = WritesNone IsProper line bytes × TellsColumn bytes column

-- more bytes than one end with a space if those after the first do
ends_behind : (b c : ℕ) (xs front : List ℕ) → b ∷ (c ∷ xs) ≡ front ++ 32 ∷ [] → EndsWithSpace (c ∷ xs)
ends_behind b c xs [] is = absurd (let no : ⊥ = cc in no)
ends_behind b c xs (x ∷ front) is = (front, (cc))

-- bytes end with a space, are empty, or end with another byte
space_last : (right more : List ℕ) → EndsWithSpace (right ++ more) → (more ≡ []) ⊎ EndsWithSpace more
space_last [] more ends = inr ends
space_last right [] ends = inl refl
space_last (b ∷ []) (c ∷ more) ends = inr (ends_behind b c more ends.0 ends.1)
space_last (b ∷ d ∷ right) more ends = space_last (d ∷ right) more (ends_behind b d (right ++ more) ends.0 ends.1)

-- the column where what is before it ends with a space and begins a line, and no line goes on with what is left up to a space
pub tells_field : {bytes right left : List ℕ} {column : ℕ} → bytes ≡ right ++ left → column ≡ length right + 1 → EndsWithSpace right → BeginsLine right → WritesNone IsProper line bytes →
    ((q r tail : List ℕ) → left ≡ q ++ 32 ∷ r → WritesNone IsProper line (right ++ (q ++ 32 ∷ tail))) → TellsColumn bytes column
tells_field {right = right} {left = left} parts column_is ends begins none stop = record {
  right = right;
  left = left;
  parts = parts;
  column_is = column_is;
  place = inr (inl ends);
  begins = begins;
  longest = λ more rest is place goes. longest more rest is place goes;
}
  where
    some : (xs : List ℕ) → right ++ xs ≡ [] → ⊥
    some xs is = let no : length ((ends.0 ++ 32 ∷ []) ++ xs) ≡ 0 = ap (λ s. length (s ++ xs)) (sym ends.1) ∙ ap length is in
        omega (arith, no, length-append (ends.0 ++ 32 ∷ []) xs, length-append ends.0 (32 ∷ []))

    further : (more rest : List ℕ) → left ≡ more ++ rest → BeginsLine (right ++ more) → (more ≡ []) ⊎ EndsWithSpace more → more ≡ []
    further more rest is goes (inl none_more) = none_more
    further more rest is goes (inr space) = absurd (
        stop space.0 rest goes.more (is ∙ ap (◌++ rest) space.1 ∙ append_assoc space.0 (32 ∷ []) rest) goes.entry goes.proper
        (ap (right ++◌) (sym (append_assoc space.0 (32 ∷ []) goes.more) ∙ ap (◌++ goes.more) (sym space.1)) ∙ sym (append_assoc right more goes.more) ∙ sym goes.begins)
        )

    longest : (more rest : List ℕ) → left ≡ more ++ rest → IsPlace (right ++ more) rest → BeginsLine (right ++ more) → more ≡ []
    longest more rest is (inl empty) goes = absurd (some more empty)
    longest more rest is (inr (inl space)) goes = further more rest is goes (space_last right more space)
    longest more rest is (inr (inr (inl alone))) goes = absurd (no_cut 32 (right ++ more) ends.0 more (alone_whole (right ++ more) alone.0) (ap (◌++ more) ends.1 ∙ append_assoc ends.0 (32 ∷ []) more))
    longest more rest is (inr (inr (inr whole))) goes =
        absurd (none whole.0.0 whole.0.1.fitting (parts ∙ ap (right ++◌) (is ∙ ap (more ++◌) whole.1 ∙ append-nil more) ∙ whole.0.1.written))

-- Each sort has a value.

pub sample : (s : Sort) → (v : Value) × InSort s v
sample Sort.Addr = (Value.Addr 0, omega arith)
sample Sort.Code = (Value.Code 32, (omega arith, omega arith))
sample Sort.Colour = (Value.Colour (Colour.Own Origin.AtStart), tt)
sample Sort.Cursor = (Value.Cursor CursorKind.Off, tt)
sample Sort.Look = (Value.Look (record { first = 0; second = 0; size = CharSize.Named Size.Small; reverse = false; underline = false; wrap = false; scroll = false }), record { first = omega arith; second = omega arith; size = tt })
sample Sort.Mask = (Value.Mask Mask.A, tt)
sample Sort.Parts = (Value.Parts (record { g = 0; r = 0; b = 0 }), (omega arith, omega arith, omega arith))
sample Sort.Pel = (Value.Pel (record { x = pos 0; y = pos 0 }), search)
sample Sort.Pen = (Value.Pen Pen.Start, tt)
sample Sort.Point = (Value.Point (record { x = 0; y = 0 }), (omega arith, omega arith))
sample Sort.Set = (Value.Set CharSet.Primary, tt)
sample Sort.Step = (Value.Step TextStep.Apb, tt)
sample Sort.Texture = (Value.Texture (record { word = 0; mask = None }), record { word = omega arith; mask = tt })
sample Sort.Times = (Value.Times 0 0 0, (omega arith, omega arith, omega arith))
sample Sort.Word = (Value.Word 0, omega arith)

pub samples : (row : List Sort) → (vs : List Value) × FitsSort row vs
samples [] = ([], tt)
samples (s ∷ row) = let one = sample s in let others = samples row in (one.0 ∷ others.0, (one.1, others.1))

text_after : (vs us : List Value) (u : Value) → fields_text (vs ++ u ∷ us) ≡ fields_before vs (fields_text (u ∷ us))
text_after [] us u = refl
text_after (v ∷ []) us u = refl
text_after (v ∷ w ∷ vs) us u = ap (λ s. field_text v ++ 32 ∷ s) (text_after (w ∷ vs) us u)

-- right fields begin the text of a row's values
row_begins : {row : List Sort} {rest left : List ℕ} (first : IsFirstWrong row rest left) → (vs : List Value) × (more : List ℕ) × FitsSort row vs × (fields_text vs ≡ fields_before first.values more)
row_begins first =
    let one = sample first.sort in
    let others = samples first.others in
    (first.values ++ one.0 ∷ others.0, fields_text (one.0 ∷ others.0), subst (λ r. FitsSort r (first.values ++ one.0 ∷ others.0)) (sym first.row_is) (fits_append first.before (first.sort ∷ first.others) first.values (one.0 ∷ others.0) first.right (one.1, others.1)), text_after first.values others.0 one.0)

-- an entry whose line goes on so begins with this
line_begins : (k : Kind) (points : List Coordinates) (vs : List Value) (front more : List ℕ) → HasEntry k points vs → points_before points (fields_text vs) ≡ front ++ more → BeginsLine (line_from k front)
line_begins k points vs front more has is = grind (arith, line_is, line_append)

-- Bytes before a field end with a space.

ends_after : (a b : List ℕ) → EndsWithSpace b → EndsWithSpace (a ++ b)
ends_after a b ends = (a ++ ends.0, ap (a ++◌) ends.1 ∙ sym (append_assoc a ends.0 (32 ∷ [])))

ends_fields : (front : List ℕ) (vs : List Value) → EndsWithSpace front → EndsWithSpace (front ++ fields_before vs [])
ends_fields front [] ends = subst EndsWithSpace (sym (append-nil front)) ends
ends_fields front (v ∷ vs) ends =
    grind (arith, append_assoc, ends_after, ends_fields (front ++ (field_text v ++ 32 ∷ [])) vs (ends_after front (field_text v ++ 32 ∷ []) (field_text v, refl)))

ends_points : (front : List ℕ) (points : List Coordinates) → EndsWithSpace front → EndsWithSpace (front ++ points_before points [])
ends_points front [] ends = subst EndsWithSpace (sym (append-nil front)) ends
ends_points front (p ∷ points) ends =
    grind (arith, append_assoc, ends_after, ends_points (front ++ (point_text p ++ 32 ∷ [])) points (ends_after front (point_text p ++ 32 ∷ []) (point_text p, refl)))

ends_kind : (k : Kind) → EndsWithSpace (line_from k [])
ends_kind Kind.Position = (codes "MOVE APS", refl)
ends_kind Kind.Whole = (codes "FIELD whole", refl)
ends_kind k = (line_name k, refl)

pub from_start : (k : Kind) (a : List ℕ) → line_from k a ≡ line_from k [] ++ a
from_start k a = line_append k [] a

ends_row : (k : Kind) (points : List Coordinates) (vs : List Value) → EndsWithSpace (line_from k (points_before points (fields_before vs [])))
ends_row k points vs =
    subst EndsWithSpace
    (append_assoc (line_from k []) (points_before points []) (fields_before vs []) ∙ ap (line_from k [] ++◌) (sym (points_append points [] (fields_before vs []))) ∙ sym (from_start k (points_before points (fields_before vs []))))
    (ends_fields (line_from k [] ++ points_before points []) vs (ends_points (line_from k []) points (ends_kind k)))

-- a line up to what is left
line_parts : (k : Kind) (points : List Coordinates) (vs : List Value) (left : List ℕ) → line_from k (points_before points (fields_before vs left)) ≡ line_from k (points_before points (fields_before vs [])) ++ left
line_parts k points vs left =
    ap (λ s. line_from k (points_before points s)) (before_append vs [] left) ∙ ap (line_from k) (points_append points (fields_before vs []) left) ∙ line_append k (points_before points (fields_before vs [])) left

column_at : {bytes : List ℕ} {end : ℕ} (right left : List ℕ) → bytes ≡ right ++ left → end ≡ length bytes + 1 → end - length left ≡ length right + 1
column_at right left parts is = omega (arith, ap length parts, is, length-append right left)

-- a wrong field of a line without points
pub tells_plain : (k : Kind) {rest left : List ℕ} {end : ℕ} → (HasPoints k → ⊥) → IsChosen k rest → end ≡ length (line_from k rest) + 1 → IsFirstWrong (kind_row k) rest left →
    TellsWrong (line_from k rest) (end - length left)
tells_plain k {rest = rest} {left = left} plain chosen is first = (none, tells_field parts (column_at right left parts is) (ends_row k [] first.values) begins none stop)
  where
    right : List ℕ
    right = line_from k (fields_before first.values [])

    parts : line_from k rest ≡ right ++ left
    parts = ap (line_from k) first.parts ∙ line_parts k [] first.values left

    none : WritesNone IsProper line (line_from k rest)
    none = none_plain k plain chosen first

    begins : BeginsLine right
    begins = let own = row_begins first in
        line_begins k [] own.0 (fields_before first.values []) own.1 (plain_entry_with k own.0 plain own.2) (own.3 ∙ before_append first.values [] own.1)

    stop : (q r tail : List ℕ) → left ≡ q ++ 32 ∷ r → WritesNone IsProper line (right ++ (q ++ 32 ∷ tail))
    stop q r tail same =
        let so : rest ≡ fields_before first.values q ++ 32 ∷ r = first.parts ∙ ap (fields_before first.values) same ∙ before_append first.values q (32 ∷ r) in
        let also = subst (IsChosen k) (sym (before_append first.values q (32 ∷ tail))) (chosen_stays k (fields_before first.values q) r tail (subst (IsChosen k) so chosen)) in
        subst (WritesNone IsProper line) (line_parts k [] first.values (q ++ 32 ∷ tail))
        (none_plain k plain also (first_stays q r tail same first))

-- the right fields behind the points of a shape
abbrev right_fields : (k : Kind) (points : List Coordinates) {rest left : List ℕ} → IsWrongAfter k points rest left → List Value
right_fields k points (inl few) = []
right_fields k points (inr first) = first.1.values

after_parts : (k : Kind) (points : List Coordinates) {rest left : List ℕ} → (wrong : IsWrongAfter k points rest left) → rest ≡ fields_before (right_fields k points wrong) left
after_parts k points wrong = grind arith

-- what follows a space doesn't matter for them
after_stays : (k : Kind) (points : List Coordinates) {rest left : List ℕ} (q r tail : List ℕ) → left ≡ q ++ 32 ∷ r → (wrong : IsWrongAfter k points rest left) →
    IsWrongAfter k points (fields_before (right_fields k points wrong) (q ++ 32 ∷ tail)) (q ++ 32 ∷ tail)
after_stays k points q r tail is (inl few) = inl (few.0, refl)
after_stays k points q r tail is (inr first) = inr (first.0, first_stays q r tail is first.1)

ends_stay : {bytes rest : List ℕ} {points : List Coordinates} (q r tail : List ℕ) → rest ≡ q ++ 32 ∷ r → EndsPoints bytes points rest → EndsPoints (points_before points (q ++ 32 ∷ tail)) points (q ++ 32 ∷ tail)
ends_stay {rest = rest} {points = points} q r tail is ended = record { parts = refl; inside = ended.inside; few = ended.few; ends = by ended.ends }
  where
    by : (length points ≡ points_limit) ⊎ BeginsNoPoint rest → (length points ≡ points_limit) ⊎ BeginsNoPoint (q ++ 32 ∷ tail)
    by (inl full) = inl full
    by (inr none) = inr (λ p more inside goes. let found = stays (point_text p) q tail r more (point_apart p inside) goes in none p found.0 inside (is ∙ found.1))

abbrev corner : Coordinates
corner = record { x = 0; y = 0 }

corner_inside : IsInSquare corner
corner_inside = (omega arith, omega arith)

abbrev three : List Coordinates
three = corner ∷ corner ∷ corner ∷ []

three_inside : All IsInSquare three
three_inside = All-cons IsInSquare corner (corner ∷ corner ∷ []) corner_inside (All-cons IsInSquare corner (corner ∷ []) corner_inside (All-cons IsInSquare corner [] corner_inside (All-nil IsInSquare)))

least_small : (k : Kind) → least_points k ≤ 3
least_small k = grind arith

-- points and right fields begin the line of a shape
shape_begins : (k : Kind) {bytes rest left : List ℕ} {points : List Coordinates} → HasPoints k → EndsPoints bytes points rest → (wrong : IsWrongAfter k points rest left) →
    BeginsLine (line_from k (points_before points (fields_before (right_fields k points wrong) [])))
shape_begins k {points = points} has ended (inl few) =
    let own = samples (kind_row k) in
    let size : length (points ++ three) ≡ length points + 3 = length-append points three in
    line_begins k (points ++ three) own.0 (points_before points []) (points_before three (fields_text own.0))
    (shape_entry_with k (points ++ three) own.0 has (All-append IsInSquare points three ended.inside three_inside) (omega (arith, size, least_small k)) (omega (arith, size, few.0, least_small k)) own.1)
    (points_join points three (fields_text own.0) ∙ points_append points [] (points_before three (fields_text own.0)))
shape_begins k {points = points} has ended (inr first) =
    let own = row_begins first.1 in
    line_begins k points own.0 (points_before points (fields_before first.1.values [])) own.1 (shape_entry_with k points own.0 has ended.inside first.0 ended.few own.2)
    (ap (points_before points) (own.3 ∙ before_append first.1.values [] own.1) ∙ points_append points (fields_before first.1.values []) own.1)

-- a wrong point or field of a shape
pub tells_shape : (k : Kind) {bytes rest left : List ℕ} {points : List Coordinates} {end : ℕ} → HasPoints k → end ≡ length (line_from k bytes) + 1 → EndsPoints bytes points rest → IsWrongAfter k points rest left →
    TellsWrong (line_from k bytes) (end - length left)
tells_shape k {bytes = bytes} {rest = rest} {left = left} {points = points} has is ended wrong =
    (none, tells_field parts (column_at right left parts is) (ends_row k points vs) (shape_begins k has ended wrong) none stop)
  where
    vs : List Value
    vs = right_fields k points wrong

    right : List ℕ
    right = line_from k (points_before points (fields_before vs []))

    parts : line_from k bytes ≡ right ++ left
    parts = ap (line_from k) (ended.parts ∙ ap (points_before points) (after_parts k points wrong)) ∙ line_parts k points vs left

    none : WritesNone IsProper line (line_from k bytes)
    none = none_shape k has ended wrong

    stop : (q r tail : List ℕ) → left ≡ q ++ 32 ∷ r → WritesNone IsProper line (right ++ (q ++ 32 ∷ tail))
    stop q r tail same =
        let so : rest ≡ fields_before vs q ++ 32 ∷ r = after_parts k points wrong ∙ ap (fields_before vs) same ∙ before_append vs q (32 ∷ r) in
        let ends = subst (λ s. EndsPoints (points_before points s) points s) (sym (before_append vs q (32 ∷ tail))) (ends_stay (fields_before vs q) r tail so ended) in
        subst (WritesNone IsProper line) (line_parts k points vs (q ++ 32 ∷ tail))
        (none_shape k has ends (after_stays k points q r tail same wrong))

-- Lines that aren't read by their fields.

-- the column of a line that goes wrong at its name
tells_first : (bytes : List ℕ) → WritesNone IsProper line bytes → ((q r tail : List ℕ) → bytes ≡ q ++ 32 ∷ r → WritesNone IsProper line (q ++ 32 ∷ tail)) → ((q r : List ℕ) → bytes ≡ q ++ 32 ∷ r → IsNameAlone q → ⊥) → TellsColumn bytes 1
tells_first bytes none stop apart = record {
  right = [];
  left = bytes;
  parts = refl;
  column_is = refl;
  place = inl refl;
  begins = record { entry = Entry.Bell; more = codes "BELL"; proper = record { in_range = tt; well_made = tt }; begins = refl };
  longest = longest;
}
  where
    longest : (more rest : List ℕ) → bytes ≡ more ++ rest → IsPlace more rest → BeginsLine more → more ≡ []
    longest more rest is (inl empty) goes = empty
    longest more rest is (inr (inl space)) goes = absurd (
        stop space.0 rest goes.more (is ∙ ap (◌++ rest) space.1 ∙ append_assoc space.0 (32 ∷ []) rest) goes.entry goes.proper
        (sym (append_assoc space.0 (32 ∷ []) goes.more) ∙ ap (◌++ goes.more) (sym space.1) ∙ sym goes.begins)
        )
    longest more rest is (inr (inr (inl alone))) goes = absurd (apart more alone.1.0 (is ∙ ap (more ++◌) alone.1.1) alone.0)
    longest more rest is (inr (inr (inr whole))) goes = absurd (none whole.0.0 whole.0.1.fitting (is ∙ ap (more ++◌) whole.1 ∙ append-nil more ∙ whole.0.1.written))

-- bytes without a space that aren't a name alone
pub tells_alone : (bytes : List ℕ) → ((x y : List ℕ) → SplitsAtByte 32 bytes x y → ⊥) → (IsNameAlone bytes → ⊥) → TellsWrong bytes 1
tells_alone bytes whole alone = (none, tells_first bytes none (λ q r tail is. absurd (no_cut 32 bytes q r (uncut 32 bytes whole) is)) (λ q r is lone. no_cut 32 bytes q r (uncut 32 bytes whole) is))
  where
    none : WritesNone IsProper line bytes
    none e proper is = by (read_or_alone e proper)
      where
        by : IsNameAlone (line e) ⊎ ((f : Fields) × IsReadAs e f) → ⊥
        by (inl lone) = alone (subst IsNameAlone (sym is) lone)
        by (inr has) = no_cut 32 bytes (line_name has.0.kind) _ (uncut 32 bytes whole) (is ∙ has.1.line_so)

-- the entry of a line with a space has the line's first word for a name
first_word : (name back : List ℕ) (e : Entry) → All (λ x. x ≢ 32) name → IsProper e → name ++ 32 ∷ back ≡ line e → (k : Kind) × (name ≡ line_name k)
first_word name back e none proper is = grind (arith, with_fields, one_cut, name_apart)

-- what is before the first of some spaces
name_stays : (name back q r tail : List ℕ) → All (λ x. x ≢ 32) name → name ++ 32 ∷ back ≡ q ++ 32 ∷ r → (y : List ℕ) × (q ++ 32 ∷ tail ≡ name ++ 32 ∷ y)
name_stays name back q r tail none is = stays name q r tail back none (sym is)

alone_begins : (name : List ℕ) → IsNameAlone name → BeginsLine name
alone_begins name (inl is) = record { entry = Entry.Bell; more = []; proper = record { in_range = tt; well_made = tt }; begins = ap (◌++ []) (sym is) }
alone_begins name (inr is) = record { entry = Entry.DefEnd; more = []; proper = record { in_range = tt; well_made = tt }; begins = ap (◌++ []) (sym is) }

module _ {bytes name back : List ℕ} (cuts : SplitsAtByte 32 bytes name back) (unnamed : (k : Kind) → name ≢ line_name k) where
  none_named : (back : List ℕ) {bytes : List ℕ} → bytes ≡ name ++ 32 ∷ back → WritesNone IsProper line bytes
  none_named back is e proper so = let found = first_word name back e cuts.first proper (sym is ∙ so) in unnamed found.0 found.1

  -- a first word that is no name
  tells_no_name : (IsNameAlone name → ⊥) → TellsColumn bytes 1
  tells_no_name alone = tells_first bytes (none_named back cuts.joins) stop apart
    where
      stop : (q r tail : List ℕ) → bytes ≡ q ++ 32 ∷ r → WritesNone IsProper line (q ++ 32 ∷ tail)
      stop q r tail is = none_named _ (name_stays name back q r tail cuts.first (sym cuts.joins ∙ is)).1

      apart : (q r : List ℕ) → bytes ≡ q ++ 32 ∷ r → IsNameAlone q → ⊥
      apart q r is lone = alone (subst IsNameAlone (sym (cut_text cuts (alone_whole q lone) is).0) lone)

  -- a name alone before a space
  tells_behind_name : IsNameAlone name → TellsColumn bytes (length name + 1)
  tells_behind_name alone = record {
    right = name;
    left = 32 ∷ back;
    parts = cuts.joins;
    column_is = refl;
    place = inr (inr (inl (alone, (back, refl))));
    begins = alone_begins name alone;
    longest = λ more rest is place goes. goes_on more goes (empty_or_space more rest is);
  }
    where
      empty_or_space : (more rest : List ℕ) → 32 ∷ back ≡ more ++ rest → (more ≡ []) ⊎ ((tail : List ℕ) × (more ≡ 32 ∷ tail))
      empty_or_space [] rest is = inl refl
      empty_or_space (b ∷ more) rest is = inr (more, ap (◌∷ more) (sym (ap (λ s. get_or s 0 0) is)))

      goes_on : (more : List ℕ) → BeginsLine (name ++ more) → (more ≡ []) ⊎ ((tail : List ℕ) × (more ≡ 32 ∷ tail)) → more ≡ []
      goes_on more goes (inl empty) = empty
      goes_on more goes (inr space) =
          absurd (none_named _ refl goes.entry goes.proper (sym (append_assoc name (32 ∷ space.0) goes.more) ∙ ap (λ s. (name ++ s) ++ goes.more) (sym space.1) ∙ sym goes.begins))

  pub tells_at_name : {column : ℕ} → IsColumnAtName name column → TellsWrong bytes column
  tells_at_name (inl alone) = (none_named back cuts.joins, subst (TellsColumn bytes) (sym alone.1) (tells_behind_name alone.0))
  tells_at_name (inr other) = (none_named back cuts.joins, subst (TellsColumn bytes) (sym other.1) (tells_no_name other.0))

-- The steps of reading a line.

-- an entry was made of these fields
made_tells : {k : Kind} {points : List Coordinates} {vs : List Value} {rest : List ℕ} (r : Result Entry LineFault) → HasEntry k points vs → rest ≡ points_before points (fields_text vs) →
    MatchResult r (HasFields k points vs) (λ fault. (e : Entry) → HasFields k points vs e → ⊥) → TellsLine (line_from k rest) r
made_tells (Ok e) own is has = fields_written (subst IsProper (same_entry own.fields has) own.proper) has is
made_tells (Err fault) own is none = absurd (none own.entry own.fields)

pub plain_tells : (k : Kind) (vs : List Value) {rest : List ℕ} (r : Result Entry LineFault) → (HasPoints k → ⊥) → FitsSort (kind_row k) vs → rest ≡ fields_text vs →
    MatchResult r (HasFields k [] vs) (λ fault. (e : Entry) → (HasPoints k → ⊥) → HasFields k [] vs e → ⊥) → TellsLine (line_from k rest) r
plain_tells k vs (Ok e) plain fits is made = made_tells (Ok e) (plain_entry_with k vs plain fits) is made
plain_tells k vs (Err fault) plain fits is made = made_tells (Err fault) (plain_entry_with k vs plain fits) is (λ e. made e plain)

pub shape_tells : (k : Kind) {points : List Coordinates} (vs : List Value) {bytes rest : List ℕ} (r : Result Entry LineFault) → HasPoints k → EndsPoints bytes points rest → least_points k ≤ length points → FitsSort (kind_row k) vs →
    rest ≡ fields_text vs → MatchResult r (HasFields k points vs) (λ fault. (e : Entry) → HasPoints k → HasFields k points vs e → ⊥) → TellsLine (line_from k bytes) r
shape_tells k {points = points} vs (Ok e) has ended enough fits is made =
    made_tells (Ok e) (shape_entry_with k points vs has ended.inside enough ended.few fits) (ended.parts ∙ ap (points_before points) is) made
shape_tells k {points = points} vs (Err fault) has ended enough fits is made =
    made_tells (Err fault) (shape_entry_with k points vs has ended.inside enough ended.few fits) (ended.parts ∙ ap (points_before points) is) (λ e. made e has)

-- right points and fields are the line of a shape
pub shape_line : (k : Kind) {points : List Coordinates} (vs : List Value) {bytes rest : List ℕ} → HasPoints k → EndsPoints bytes points rest → least_points k ≤ length points → FitsSort (kind_row k) vs →
    rest ≡ fields_text vs → IsEntryLine (line_from k bytes)
shape_line k {points = points} vs has ended enough fits is =
    let own = shape_entry_with k points vs has ended.inside enough ended.few fits in
    (own.entry, fields_written own.proper own.fields (ended.parts ∙ ap (points_before points) is))

-- what is left isn't longer than the line

line_longer : (k : Kind) (rest : List ℕ) → length rest ≤ length (line_from k rest)
line_longer k rest = let size : length (line_from k rest) ≡ length (line_from k [] ++ rest) = ap length (from_start k rest) in omega (arith, size, length-append (line_from k []) rest)

left_shorter : {row : List Sort} {rest left : List ℕ} → IsFirstWrong row rest left → length left ≤ length rest
left_shorter {rest = rest} {left = left} first =
    let size : length rest ≡ length (fields_before first.values [] ++ left) = ap length (first.parts ∙ before_append first.values [] left) in
    omega (arith, size, length-append (fields_before first.values []) left)

rest_shorter : {bytes rest : List ℕ} {points : List Coordinates} → EndsPoints bytes points rest → length rest ≤ length bytes
rest_shorter {bytes = bytes} {rest = rest} {points = points} ended =
    let size : length bytes ≡ length (points_before points [] ++ rest) = ap length (ended.parts ∙ points_append points [] rest) in
    omega (arith, size, length-append (points_before points []) rest)

-- how many bytes are left from a wrong field on
abbrev pub Left : List Sort → List ℕ → ℕ → Type 0
Left row rest size = (left : List ℕ) × IsFirstWrong row rest left × (size ≡ length left)

-- the answer where a field is wrong

module _ (k : Kind) {row : List Sort} {rest : List ℕ} {size end : ℕ} (is : end ≡ length (line_from k rest) + 1) (left : Left row rest size) where
  pub left_fits : size ≤ end
  left_fits = omega (arith, is, left.2, left_shorter left.1, line_longer k rest)

  pub plain_wrong : (HasPoints k → ⊥) → IsChosen k rest → row ≡ kind_row k → TellsWrong (line_from k rest) (end - size)
  plain_wrong plain chosen row_is =
      subst (λ n. TellsWrong (line_from k rest) (end - n)) (sym left.2) (tells_plain k plain chosen is (subst (λ r. IsFirstWrong r rest left.0) row_is left.1))

module _ (k : Kind) {bytes rest : List ℕ} {points : List Coordinates} {end : ℕ} (is : end ≡ length (line_from k bytes) + 1) (ended : EndsPoints bytes points rest) where
  pub points_left_fit : length rest ≤ end
  points_left_fit = omega (arith, is, rest_shorter ended, line_longer k bytes)

  pub shape_left_fits : {row : List Sort} {size : ℕ} → Left row rest size → size ≤ end
  shape_left_fits left = omega (arith, is, left.2, left_shorter left.1, rest_shorter ended, line_longer k bytes)

  pub few_points : HasPoints k → length points < least_points k → TellsWrong (line_from k bytes) (end - length rest)
  few_points has few = tells_shape k has is ended (inl (few, refl))

  pub shape_wrong : {row : List Sort} {size : ℕ} → HasPoints k → least_points k ≤ length points → row ≡ kind_row k → Left row rest size → TellsWrong (line_from k bytes) (end - size)
  shape_wrong has enough row_is left =
      subst (λ n. TellsWrong (line_from k bytes) (end - n)) (sym left.2) (tells_shape k has is ended (inr (enough, subst (λ r. IsFirstWrong r rest left.0) row_is left.1)))
