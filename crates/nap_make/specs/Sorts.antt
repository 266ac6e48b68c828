use Rattle.std.specs.Prelude.{Bool, List, [], decimal, false, true, ℕ, ◌++◌, ◌∷◌, ◌≡◌}
use Rattle.nap_make.specs.Types.{ColourInRange, HasSixteenBitParts, IsAddress, IsCode, IsInRange, IsInSquare, IsWord, PenInRange, Sort, TextInRange, TextureInRange, Value, code_text, cursor_text, grb_text, mask_text, point_text, set_text, step_text}
use Rattle.nap_make.specs.Fields.{IsPlainStep, colour_field, look_field, pel_field, pen_field, texture_field}
use Rattle.nap_make.specs.Reading.{IsWritten, WritesNone}

-- The text of a field, which its value alone tells.
abbrev pub field_text : Value → List ℕ
field_text (Value.Addr number) = decimal number
field_text (Value.Code code) = code_text code
field_text (Value.Colour colour) = colour_field colour
field_text (Value.Cursor state) = cursor_text state
field_text (Value.Look look) = look_field look
field_text (Value.Mask mask) = mask_text mask
field_text (Value.Parts grb) = grb_text grb
field_text (Value.Pel pel) = pel_field pel
field_text (Value.Pen pen) = pen_field pen
field_text (Value.Point point) = point_text point
field_text (Value.Set set) = set_text set
field_text (Value.Step step) = step_text step
field_text (Value.Texture texture) = texture_field texture
field_text (Value.Times on off delay) = decimal on ++ 44 ∷ (decimal off ++ 44 ∷ decimal delay)
field_text (Value.Word number) = decimal number

-- the value is of the sort, and in range
abbrev pub InSort : Sort → Value → Type 0
InSort Sort.Addr (Value.Addr number) = IsAddress number
InSort Sort.Code (Value.Code code) = IsCode code
InSort Sort.Colour (Value.Colour colour) = ColourInRange colour
InSort Sort.Cursor (Value.Cursor state) = Unit {0}
InSort Sort.Look (Value.Look look) = TextInRange look
InSort Sort.Mask (Value.Mask mask) = Unit {0}
InSort Sort.Parts (Value.Parts grb) = HasSixteenBitParts grb
InSort Sort.Pel (Value.Pel pel) = IsInRange pel
InSort Sort.Pen (Value.Pen pen) = PenInRange pen
InSort Sort.Point (Value.Point point) = IsInSquare point
InSort Sort.Set (Value.Set set) = Unit {0}
InSort Sort.Step (Value.Step step) = IsPlainStep step
InSort Sort.Texture (Value.Texture texture) = TextureInRange texture
InSort Sort.Times (Value.Times on off delay) = IsWord on × IsWord off × IsWord delay
InSort Sort.Word (Value.Word number) = IsWord number
InSort _ _ = ⊥

-- a value of the sort with this text was appended, or no such value has it
abbrev pub AddsValue : Sort → List ℕ → List Value → List Value → Bool → Type 0
AddsValue sort word old new true = (v : Value) × IsWritten (InSort sort) field_text word v × (new ≡ old ++ v ∷ [])
AddsValue sort word old new false = WritesNone (InSort sort) field_text word
