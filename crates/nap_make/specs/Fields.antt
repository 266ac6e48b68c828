use Rattle.std.specs.Prelude.{IfSome, List, Option, codes, ℕ, ⊤, ◌++◌}
use Rattle.nap_make.specs.Types.{ColourInRange, Displacement, IsInRange, TextStep, colour_text, flag_text, look_text, move_text, pen_text, size_text, texture_text}
use Rattle.nap_codes.specs.declared.control.Size.{Size}
use Rattle.nap_list.specs.{declared.attribute.CharSize.CharSize, declared.attribute.Colour.Colour, declared.attribute.Pen.Pen, declared.attribute.TextLook.TextLook, declared.attribute.Texture.Texture}
use Rattle.nap_make.specs.declared.attribute.TextModes.{TextModes}

-- The fields with their keys.

abbrev pub pel_field : Displacement → List ℕ
pel_field pel = codes "pel=" ++ move_text pel

abbrev pub colour_field : Colour → List ℕ
colour_field colour = codes "colour=" ++ colour_text colour

abbrev pub texture_field : Texture → List ℕ
texture_field texture = codes "texture=" ++ texture_text texture

abbrev pub pen_field : Pen → List ℕ
pen_field pen = codes "pen=" ++ pen_text pen

abbrev pub look_field : TextLook → List ℕ
look_field look = codes "text=" ++ look_text look

-- The parts of fields.

-- the size of a mask is in range, if there is one
abbrev pub MaskInRange : Option Displacement → Type 0
MaskInRange mask = IfSome mask IsInRange

-- a colour that is written with numbers, in range
abbrev pub IsNumbered : Colour → Type 0
IsNumbered (Colour.Own origin) = ⊥
IsNumbered (Colour.ByReset preset) = ⊥
IsNumbered c = ColourInRange c

-- a format effector of one byte
abbrev pub IsPlainStep : TextStep → Type 0
IsPlainStep (TextStep.Aps row column) = ⊥
IsPlainStep _ = ⊤

-- the name of a size
abbrev pub size_name : Size → List ℕ
size_name size = size_text (CharSize.Named size)

-- the four flags: the letter of each that is on, else `-`
abbrev pub modes_text : TextModes → List ℕ
modes_text m = flag_text m.reverse (codes "r") ++ flag_text m.underline (codes "u") ++ flag_text m.wrap (codes "w") ++ flag_text m.scroll (codes "s")
