use Rattle.std.specs.Prelude.{Bool, false, true}
use Rattle.nap_canon.specs.Names.{Base, CharSize, Colour, Displacement, Pen, Texture}
use Rattle.nap_values.specs.contracts.point.MovePartialEq.TheImpl as moves
use Rattle.nap_list.specs.contracts.attribute.PenPartialEq.TheImpl as pens
use Rattle.nap_list.specs.contracts.attribute.BasePartialEq.TheImpl as bases
use Rattle.nap_list.specs.contracts.attribute.ColourPartialEq.TheImpl as colours
use Rattle.nap_list.specs.contracts.attribute.CharSizePartialEq.TheImpl as sizes
use Rattle.nap_list.specs.contracts.attribute.TexturePartialEq.TheImpl as textures

-- whether two values are equal, as their types test it

abbrev pub same_move : Displacement → Displacement → Bool
same_move = (moves.ghosts).eq

abbrev pub same_pen : Pen → Pen → Bool
same_pen = (pens.ghosts).eq

abbrev pub same_base : Base → Base → Bool
same_base = (bases.ghosts).eq

abbrev pub same_colour : Colour → Colour → Bool
same_colour = (colours.ghosts).eq

abbrev pub same_size : CharSize → CharSize → Bool
same_size = (sizes.ghosts).eq

abbrev pub same_texture : Texture → Texture → Bool
same_texture = (textures.ghosts).eq

abbrev pub same_flag : Bool → Bool → Bool
same_flag true on = on
same_flag false true = false
same_flag false false = true
