use Rattle.std.specs.Prelude.{Bool, List, Some, [], ℕ, ◌∷◌}
use Rattle.nap_canon.specs.Names.{Base, CharSize, Colour, Components, Coordinates, Displacement, Drawing, Pen, Size, TextLook, colour_of_base, with_colour, with_pen}
use Rattle.nap_canon.specs.declared.pending.prelude.Flag.{Flag}

-- a code, with its operands, that sets an attribute
pub data Command : Type 0 where
  -- POINT SET ABS: moves the pen to this point
  point_set : Coordinates → Command
  -- DOMAIN with the operand lengths of canonical text and this pel
  pel : Displacement → Command
  -- SELECT COLOR without operands: selects the colour of mode 0
  select_base : Command
  -- SELECT COLOR: selects the foreground at this address
  select_front : ℕ → Command
  -- SELECT COLOR: selects the foreground and the background at these addresses
  select_pair : ℕ → ℕ → Command
  -- SET COLOR with this colour
  set_color : Components → Command
  -- TEXTURE with its word
  texture : ℕ → Command
  -- TEXTURE with its word and the size of the mask
  texture_mask : ℕ → Displacement → Command
  -- TEXT with both of its words
  text : ℕ → ℕ → Command
  -- TEXT with both of its words and a size
  text_size : ℕ → ℕ → Displacement → Command
  -- the control of a named size
  named : Size → Command
  -- the control that sets a flag on or off
  flag : Flag → Bool → Command

-- SET COLOR with this colour in use: a colour of mode 0 becomes the new one, and so does the base
abbrev pub drawing_with_set_color : Colour → Components → Drawing → Drawing
drawing_with_set_color (Colour.Own origin) grb d = record d { base = Base.Direct grb; colour = Colour.Direct grb }
drawing_with_set_color (Colour.Direct old) grb d = record d { base = Base.Direct grb; colour = Colour.Direct grb }
drawing_with_set_color _ grb d = d

-- the text attributes with a flag on or off
abbrev pub look_with_flag : Flag → Bool → TextLook → TextLook
look_with_flag Flag.Reverse on t = record t { reverse = on }
look_with_flag Flag.Underline on t = record t { underline = on }
look_with_flag Flag.Wrap on t = record t { wrap = on }
look_with_flag Flag.Scroll on t = record t { scroll = on }

-- the effect of a command on the attributes
abbrev pub effect : Command → Drawing → Drawing
effect (Command.point_set p) d = with_pen (Pen.At p) d
effect (Command.pel m) d = record d { pel = m }
effect Command.select_base d = with_colour (colour_of_base d.base) d
effect (Command.select_front a) d = with_colour (Colour.Front a) d
effect (Command.select_pair a b) d = with_colour (Colour.Pair a b) d
effect (Command.set_color grb) d = drawing_with_set_color d.colour grb d
effect (Command.texture word) d = record d { texture = record d.texture { word = word } }
effect (Command.texture_mask word m) d = record d { texture = record { word = word; mask = Some m } }
effect (Command.text first second) d = record d { text = record d.text { first = first; second = second } }
effect (Command.text_size first second m) d = record d { text = record d.text { first = first; second = second; size = CharSize.Given m } }
effect (Command.named size) d = record d { text = record d.text { size = CharSize.Named size } }
effect (Command.flag f on) d = record d { text = look_with_flag f on d.text }

-- the effects of commands, one after another
abbrev pub effects : List Command → Drawing → Drawing
effects [] d = d
effects (x ∷ xs) d = effects xs (effect x d)
