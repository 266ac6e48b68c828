use Rattle.std.specs.Prelude.{ℕ, ◌/◌, ◌%◌, Bool, if◌then◌else◌, List, [], ◌∷◌, ◌++◌, Option, Some, None, codes, decimal, flat_map}
use Rattle.std.specs.{Fmt.signed_decimal, Char.digit_char}
use Rattle.nap_values.specs.{Coordinates.Coordinates, Coordinates.Displacement, Colours.Components}
use Rattle.nap_codes.specs.{declared.code_set.CharSet.CharSet, declared.control.CursorKind.CursorKind, declared.control.Mask.Mask, declared.control.Size.Size, declared.control.TextStep.TextStep}
use Rattle.nap_list.specs.{declared.attribute.Area.Area, declared.attribute.CharSize.CharSize, declared.attribute.Colour.Colour, declared.attribute.Hand.Hand, declared.attribute.Ink.Ink, declared.attribute.Origin.Origin, declared.attribute.Pen.Pen, declared.attribute.Preset.Preset, declared.attribute.TextLook.TextLook, declared.attribute.Texture.Texture, declared.entry.Entry.Entry}

-- The fields of a line (PROFILE.md, Lines of list).

abbrev pub point_text : Coordinates → List ℕ
point_text p = decimal p.x ++ codes "," ++ decimal p.y

abbrev pub move_text : Displacement → List ℕ
move_text m = signed_decimal m.x ++ codes "," ++ signed_decimal m.y

-- points with a space before each
abbrev pub points_text : List Coordinates → List ℕ
points_text points = flat_map (λ p. codes " " ++ point_text p) points

-- the components of a colour: green, red, blue
abbrev pub grb_text : Components → List ℕ
grb_text c = decimal c.g ++ codes "," ++ decimal c.r ++ codes "," ++ decimal c.b

-- a code by two lower-case hexadecimal digits
abbrev pub code_text : ℕ → List ℕ
code_text code = digit_char (code / 16) ∷ digit_char (code % 16) ∷ []

abbrev pub colour_text : Colour → List ℕ
colour_text (Colour.Own Origin.AtStart) = codes "own-start"
colour_text (Colour.Own Origin.AfterReset) = codes "own-reset"
colour_text (Colour.Direct grb) = codes "direct:" ++ grb_text grb
colour_text (Colour.Front addr) = codes "front:" ++ decimal addr
colour_text (Colour.Pair front back) = codes "pair:" ++ decimal front ++ codes "," ++ decimal back
colour_text (Colour.ByReset Preset.Two) = codes "reset-2"
colour_text (Colour.ByReset Preset.Three) = codes "reset-3"

abbrev pub pen_text : Pen → List ℕ
pen_text Pen.Start = codes "start"
pen_text (Pen.At p) = point_text p
pen_text Pen.After = codes "after"

abbrev pub mask_size_text : Option Displacement → List ℕ
mask_size_text None = codes "none"
mask_size_text (Some m) = move_text m

abbrev pub texture_text : Texture → List ℕ
texture_text t = decimal t.word ++ codes "/" ++ mask_size_text t.mask

abbrev pub ink_text : Ink → List ℕ
ink_text ink = codes "pel=" ++ move_text ink.pel ++ codes " colour=" ++ colour_text ink.colour ++ codes " texture=" ++ texture_text ink.texture

abbrev pub size_text : CharSize → List ℕ
size_text (CharSize.Named Size.Small) = codes "small"
size_text (CharSize.Named Size.Medium) = codes "medium"
size_text (CharSize.Named Size.Normal) = codes "normal"
size_text (CharSize.Named Size.Tall) = codes "tall"
size_text (CharSize.Named Size.Double) = codes "double"
size_text (CharSize.Given m) = move_text m

-- the letter of a flag that is on, and `-` for one that is off
abbrev pub flag_text : Bool → List ℕ → List ℕ
flag_text on letter = if on then letter else codes "-"

abbrev pub flags_text : TextLook → List ℕ
flags_text look = flag_text look.reverse (codes "r") ++ flag_text look.underline (codes "u") ++ flag_text look.wrap (codes "w") ++ flag_text look.scroll (codes "s")

abbrev pub look_text : TextLook → List ℕ
look_text look = decimal look.first ++ codes "," ++ decimal look.second ++ codes "/" ++ size_text look.size ++ codes "/" ++ flags_text look

abbrev pub hand_text : Hand → List ℕ
hand_text hand = codes "pen=" ++ pen_text hand.pen ++ codes " colour=" ++ colour_text hand.colour ++ codes " text=" ++ look_text hand.text

abbrev pub fill_text : Bool → List ℕ
fill_text filled = if filled then codes "FILLED" else codes "OUTLINED"

abbrev pub set_text : CharSet → List ℕ
set_text CharSet.Primary = codes "primary"
set_text CharSet.Supplementary = codes "supplementary"
set_text CharSet.Mosaic = codes "mosaic"
set_text CharSet.Drcs = codes "drcs"

abbrev pub step_text : TextStep → List ℕ
step_text TextStep.Apb = codes "APB"
step_text TextStep.Apf = codes "APF"
step_text TextStep.Apd = codes "APD"
step_text TextStep.Apu = codes "APU"
step_text TextStep.Apr = codes "APR"
step_text TextStep.Aph = codes "APH"
step_text (TextStep.Aps row column) = codes "APS " ++ code_text row ++ codes " " ++ code_text column

abbrev pub area_text : Area → List ℕ
area_text Area.Whole = codes "whole"
area_text (Area.Part from to) = point_text from ++ codes " " ++ point_text to

abbrev pub mark_text : Bool → List ℕ
mark_text on = if on then codes "START" else codes "STOP"

abbrev pub cursor_text : CursorKind → List ℕ
cursor_text CursorKind.Flash = codes "flash"
cursor_text CursorKind.Steady = codes "steady"
cursor_text CursorKind.Off = codes "off"

abbrev pub mask_text : Mask → List ℕ
mask_text Mask.A = codes "A"
mask_text Mask.B = codes "B"
mask_text Mask.C = codes "C"
mask_text Mask.D = codes "D"

-- the line of an entry, without LF
abbrev pub line : Entry → List ℕ
line (Entry.Point at pel colour) = codes "POINT " ++ point_text at ++ codes " pel=" ++ move_text pel ++ codes " colour=" ++ colour_text colour
line (Entry.Line from to ink) = codes "LINE " ++ point_text from ++ codes " " ++ point_text to ++ codes " " ++ ink_text ink
line (Entry.Arc filled points ink) = codes "ARC-" ++ fill_text filled ++ points_text points ++ codes " " ++ ink_text ink
line (Entry.Rect filled from to ink) = codes "RECT-" ++ fill_text filled ++ codes " " ++ point_text from ++ codes " " ++ point_text to ++ codes " " ++ ink_text ink
line (Entry.Poly filled points ink) = codes "POLY-" ++ fill_text filled ++ points_text points ++ codes " " ++ ink_text ink
line (Entry.Char set code hand) = codes "CHAR " ++ set_text set ++ codes " " ++ code_text code ++ codes " " ++ hand_text hand
line (Entry.TextMove step hand) = codes "MOVE " ++ step_text step ++ codes " " ++ hand_text hand
line (Entry.ToEol hand) = codes "TO-EOL " ++ hand_text hand
line (Entry.Map addr grb) = codes "MAP " ++ decimal addr ++ codes " " ++ grb_text grb
line (Entry.Blink addr on off delay colour) = codes "BLINK " ++ decimal addr ++ codes " " ++ decimal on ++ codes "," ++ decimal off ++ codes "," ++ decimal delay ++ codes " colour=" ++ colour_text colour
line (Entry.BlinkEnd colour) = codes "BLINK-END colour=" ++ colour_text colour
line (Entry.BlinkMark on colour) = codes "BLINK-" ++ mark_text on ++ codes " colour=" ++ colour_text colour
line (Entry.Wait tenths) = codes "WAIT " ++ decimal tenths
line Entry.Bell = codes "BELL"
line (Entry.Cursor kind) = codes "CURSOR " ++ cursor_text kind
line (Entry.Field area pen) = codes "FIELD " ++ area_text area ++ codes " pen=" ++ pen_text pen
line (Entry.Reset first second pen) = codes "RESET " ++ decimal first ++ codes " " ++ decimal second ++ codes " pen=" ++ pen_text pen
line (Entry.Clear pen) = codes "CLEAR pen=" ++ pen_text pen
line (Entry.GlyphStart code) = codes "GLYPH " ++ code_text code
line (Entry.MaskStart mask) = codes "MASK " ++ mask_text mask
line Entry.DefEnd = codes "END"
