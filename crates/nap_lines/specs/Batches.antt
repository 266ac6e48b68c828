use Rattle.std.specs.Prelude.{ℕ, zero, suc, List, ◌++◌, Option, Some, None, codes}
use Rattle.nap_values.specs.Coordinates.{Coordinates, Displacement}
use Rattle.nap_codes.specs.{declared.code_set.CharSet.CharSet, declared.control.TextStep.TextStep, Tables.format_effector}
use Rattle.nap_list.specs.{declared.attribute.Colour.Colour, declared.attribute.Hand.Hand, declared.attribute.Pen.Pen, declared.attribute.Pen.TheVariants.After}
use Rattle.nap_lines.specs.Lines.{point_text, move_text, colour_text, look_text, set_text, step_text, code_text}

-- Lines of the entries of a batch: each has a beginning of its own, and they share an end.

abbrev pub point_front : Coordinates → List ℕ
point_front at = codes "POINT " ++ point_text at

abbrev pub point_end : Displacement → Colour → List ℕ
point_end pel colour = codes " pel=" ++ move_text pel ++ codes " colour=" ++ colour_text colour

abbrev pub line_front : Coordinates → Coordinates → List ℕ
line_front from to = codes "LINE " ++ point_text from ++ codes " " ++ point_text to

abbrev pub char_front : CharSet → ℕ → List ℕ
char_front set code = codes "CHAR " ++ set_text set ++ codes " " ++ code_text code

abbrev pub move_front : TextStep → List ℕ
move_front step = codes "MOVE " ++ step_text step

-- the beginning of the line of a byte of a text: of a move for a format effector, else of a character of the set
abbrev pub text_byte_front_as : Option TextStep → CharSet → ℕ → List ℕ
text_byte_front_as (Some step) set code = move_front step
text_byte_front_as None set code = char_front set code

abbrev pub text_byte_front : CharSet → ℕ → List ℕ
text_byte_front set code = text_byte_front_as (format_effector code) set code

-- the part HAND without its pen
abbrev pub hand_text_without_pen : Hand → List ℕ
hand_text_without_pen hand = codes " colour=" ++ colour_text hand.colour ++ codes " text=" ++ look_text hand.text

-- the pen of the entry at an index of a text that begins at this pen
abbrev pub pen_at : Pen → ℕ → Pen
pen_at pen zero = pen
pen_at pen (suc n) = After
