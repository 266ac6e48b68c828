use Rattle.std.specs.Prelude.{All, Err, List, None, Ok, Option, Result, Some, [], false, length, true, ℕ, ◌++◌, ◌∷◌, ◌≡◌, ◌≢◌, ◌≤◌, ◌⊎◌}
use Rattle.nap_make.specs.Types.{Coordinates, Entry, Hand, IsInSquare, Kind, Sort, TextStep, Value, point_text}
use Rattle.nap_list.specs.{declared.attribute.Area.Area, declared.attribute.Ink.Ink, Limits.points_limit}
use Rattle.nap_make.specs.{Kinds.line_from, Reading.WritesNone, Sorts.InSort, Sorts.field_text}

-- Rows of fields.

-- values of the sorts of a row
abbrev pub FitsSort : List Sort → List Value → Type 0
FitsSort [] [] = Unit {0}
FitsSort (s ∷ row) (v ∷ vs) = InSort s v × FitsSort row vs
FitsSort _ _ = ⊥

-- points, a space after each, and then these bytes
abbrev pub points_before : List Coordinates → List ℕ → List ℕ
points_before [] last = last
points_before (p ∷ points) last = point_text p ++ 32 ∷ points_before points last

-- fields, a space after each, and then these bytes
abbrev pub fields_before : List Value → List ℕ → List ℕ
fields_before [] last = last
fields_before (v ∷ vs) last = field_text v ++ 32 ∷ fields_before vs last

-- fields, a space after each but the last
abbrev pub fields_text : List Value → List ℕ
fields_text [] = []
fields_text (v ∷ []) = field_text v
fields_text (v ∷ w ∷ vs) = field_text v ++ 32 ∷ fields_text (w ∷ vs)

-- no field of the sort comes first with what has to stand behind it: a space if fields of the row follow, else the end
abbrev pub IsWrong : Sort → List Sort → List ℕ → Type 0
IsWrong s [] left = WritesNone (InSort s) field_text left
IsWrong s (t ∷ row) left = (v : Value) (more : List ℕ) → InSort s v → left ≢ field_text v ++ 32 ∷ more

-- the first wrong field of a row, and the right ones before it
pub record IsFirstWrong (row : List Sort) (bytes left : List ℕ) : Type 0 where
  pub before : List Sort
  pub sort : Sort
  pub others : List Sort
  pub row_is : row ≡ before ++ sort ∷ others
  pub values : List Value
  pub right : FitsSort before values
  pub parts : bytes ≡ fields_before values left
  pub wrong : IsWrong sort others left

-- the values of a row whose text the bytes are, or how many bytes are left from the first wrong field on
abbrev pub TellsRow : List Sort → List ℕ → List Value → Result (Unit {0}) ℕ → Type 0
TellsRow row bytes vs (Ok done) = FitsSort row vs × (bytes ≡ fields_text vs)
TellsRow row bytes vs (Err size) = (left : List ℕ) × IsFirstWrong row bytes left × (size ≡ length left)

-- no point and a space come first
abbrev pub BeginsNoPoint : List ℕ → Type 0
BeginsNoPoint bytes = (p : Coordinates) (more : List ℕ) → IsInSquare p → bytes ≢ point_text p ++ 32 ∷ more

-- the bytes begin with these points, and not with one more that a shape may have; then come others
pub record EndsPoints (bytes : List ℕ) (points : List Coordinates) (rest : List ℕ) : Type 0 where
  pub parts : bytes ≡ points_before points rest
  pub inside : All IsInSquare points
  pub few : length points ≤ points_limit
  pub ends : (length points ≡ points_limit) ⊎ BeginsNoPoint rest

-- The fields of an entry's line.

pub record Fields : Type 0 where
  pub kind : Kind
  pub points : List Coordinates
  pub values : List Value

abbrev ink_values : Ink → List Value
ink_values ink = Value.Pel ink.pel ∷ Value.Colour ink.colour ∷ Value.Texture ink.texture ∷ []

abbrev hand_values : Hand → List Value
hand_values hand = Value.Pen hand.pen ∷ Value.Colour hand.colour ∷ Value.Look hand.text ∷ []

abbrev plain : Kind → List Value → Option Fields
plain kind vs = Some (record { kind = kind; points = []; values = vs })

-- none where the line is a name alone
abbrev pub fields_of : Entry → Option Fields
fields_of (Entry.Point at pel colour) = plain Kind.Point (Value.Point at ∷ Value.Pel pel ∷ Value.Colour colour ∷ [])
fields_of (Entry.Line from to ink) = plain Kind.Line (Value.Point from ∷ Value.Point to ∷ ink_values ink)
fields_of (Entry.Arc true points ink) = Some (record { kind = Kind.ArcFilled; points = points; values = ink_values ink })
fields_of (Entry.Arc false points ink) = Some (record { kind = Kind.ArcOutlined; points = points; values = ink_values ink })
fields_of (Entry.Rect true from to ink) = plain Kind.RectFilled (Value.Point from ∷ Value.Point to ∷ ink_values ink)
fields_of (Entry.Rect false from to ink) = plain Kind.RectOutlined (Value.Point from ∷ Value.Point to ∷ ink_values ink)
fields_of (Entry.Poly true points ink) = Some (record { kind = Kind.PolyFilled; points = points; values = ink_values ink })
fields_of (Entry.Poly false points ink) = Some (record { kind = Kind.PolyOutlined; points = points; values = ink_values ink })
fields_of (Entry.Char set code hand) = plain Kind.Char (Value.Set set ∷ Value.Code code ∷ hand_values hand)
fields_of (Entry.TextMove (TextStep.Aps row column) hand) = plain Kind.Position (Value.Code row ∷ Value.Code column ∷ hand_values hand)
fields_of (Entry.TextMove step hand) = plain Kind.Move (Value.Step step ∷ hand_values hand)
fields_of (Entry.ToEol hand) = plain Kind.ToEol (hand_values hand)
fields_of (Entry.Map addr grb) = plain Kind.Map (Value.Addr addr ∷ Value.Parts grb ∷ [])
fields_of (Entry.Blink addr on off delay colour) = plain Kind.Blink (Value.Addr addr ∷ Value.Times on off delay ∷ Value.Colour colour ∷ [])
fields_of (Entry.BlinkEnd colour) = plain Kind.BlinkEnd (Value.Colour colour ∷ [])
fields_of (Entry.BlinkMark true colour) = plain Kind.BlinkStart (Value.Colour colour ∷ [])
fields_of (Entry.BlinkMark false colour) = plain Kind.BlinkStop (Value.Colour colour ∷ [])
fields_of (Entry.Wait tenths) = plain Kind.Wait (Value.Word tenths ∷ [])
fields_of Entry.Bell = None
fields_of (Entry.Cursor state) = plain Kind.Cursor (Value.Cursor state ∷ [])
fields_of (Entry.Field (Area.Part from to) pen) = plain Kind.Field (Value.Point from ∷ Value.Point to ∷ Value.Pen pen ∷ [])
fields_of (Entry.Field Area.Whole pen) = plain Kind.Whole (Value.Pen pen ∷ [])
fields_of (Entry.Reset first second pen) = plain Kind.Reset (Value.Word first ∷ Value.Word second ∷ Value.Pen pen ∷ [])
fields_of (Entry.Clear pen) = plain Kind.Clear (Value.Pen pen ∷ [])
fields_of (Entry.GlyphStart code) = plain Kind.Glyph (Value.Code code ∷ [])
fields_of (Entry.MaskStart mask) = plain Kind.Mask (Value.Mask mask ∷ [])
fields_of Entry.DefEnd = None

-- the entry has these fields
abbrev pub HasFields : Kind → List Coordinates → List Value → Entry → Type 0
HasFields kind points vs e = fields_of e ≡ Some (record { kind = kind; points = points; values = vs })

-- the line of these fields
abbrev pub fields_line : Fields → List ℕ
fields_line f = line_from f.kind (points_before f.points (fields_text f.values))
