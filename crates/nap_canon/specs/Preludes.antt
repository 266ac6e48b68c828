use Rattle.std.specs.Prelude.{Bool, List, None, Option, Some, [], if◌then◌else◌, ℕ, ◌&&◌, ◌++◌, ◌==◌, ◌∷◌}
use Rattle.nap_canon.specs.Names.{Attributes, Base, CharSize, Colour, Displacement, Drawing, Pen, TextLook, Texture}
use Rattle.nap_canon.specs.Equality.{same_move, same_pen, same_colour, same_base, same_size, same_texture, same_flag}
use Rattle.nap_canon.specs.{Commands.Command, declared.pending.prelude.Flag.Flag}

-- The prelude of an entry: the commands that make its attributes current, for each that isn't.

-- no command if the two are equal
abbrev pub unless : Bool → List Command → List Command
unless same commands = if same then [] else commands

-- the command that sets a pen
abbrev pub pen_commands : Pen → List Command
pen_commands (Pen.At p) = Command.point_set p ∷ []
pen_commands _ = []

-- the command that selects mode 0, from this colour
abbrev pub base_commands : Colour → List Command
base_commands (Colour.Own origin) = []
base_commands (Colour.Direct grb) = []
base_commands _ = Command.select_base ∷ []

-- the commands that set a colour, from this base and this colour
abbrev pub colour_commands : Base → Colour → Colour → List Command
colour_commands base old (Colour.Own origin) = Command.select_base ∷ []
colour_commands base old (Colour.Direct grb) = base_commands old ++ unless (same_base base (Base.Direct grb)) (Command.set_color grb ∷ [])
colour_commands base old (Colour.Front a) = Command.select_front a ∷ []
colour_commands base old (Colour.Pair a b) = Command.select_pair a b ∷ []
colour_commands base old (Colour.ByReset preset) = []

-- the command that sets the word of a texture, and its mask if it isn't this one
abbrev pub mask_commands : ℕ → Option Displacement → Option Displacement → List Command
mask_commands word old None = Command.texture word ∷ []
mask_commands word None (Some m) = Command.texture_mask word m ∷ []
mask_commands word (Some old) (Some m) = if same_move old m then Command.texture word ∷ [] else Command.texture_mask word m ∷ []

-- the command that sets the words of text
abbrev pub words_commands : TextLook → TextLook → List Command
words_commands old t = unless (old.first == t.first && old.second == t.second) (Command.text t.first t.second ∷ [])

-- the command that sets the words of text and a given size
abbrev pub given_size_commands : TextLook → TextLook → CharSize → List Command
given_size_commands old t (CharSize.Given m) = if same_size old.size (CharSize.Given m) then words_commands old t else Command.text_size t.first t.second m ∷ []
given_size_commands old t (CharSize.Named size) = words_commands old t

-- the command that sets a named size
abbrev pub named_size_commands : CharSize → CharSize → List Command
named_size_commands old (CharSize.Given m) = []
named_size_commands old (CharSize.Named size) = unless (same_size old (CharSize.Named size)) (Command.named size ∷ [])

-- the command that sets a flag on or off
abbrev pub flag_commands : Flag → Bool → Bool → List Command
flag_commands f old on = unless (same_flag old on) (Command.flag f on ∷ [])

-- the prelude of each attribute

unfoldable pub pen_prelude : Pen → Option Pen → List Command
pen_prelude old None = []
pen_prelude old (Some pen) = unless (same_pen old pen) (pen_commands pen)

unfoldable pub pel_prelude : Displacement → Option Displacement → List Command
pel_prelude old None = []
pel_prelude old (Some m) = unless (same_move old m) (Command.pel m ∷ [])

unfoldable pub colour_prelude : Base → Colour → Option Colour → List Command
colour_prelude base old None = []
colour_prelude base old (Some colour) = unless (same_colour old colour) (colour_commands base old colour)

unfoldable pub texture_prelude : Texture → Option Texture → List Command
texture_prelude old None = []
texture_prelude old (Some t) = unless (same_texture old t) (mask_commands t.word old.mask t.mask)

unfoldable pub text_prelude : TextLook → Option TextLook → List Command
text_prelude old None = []
text_prelude old (Some t) =
    given_size_commands old t t.size
    ++ (named_size_commands old.size t.size
    ++ (flag_commands Flag.Reverse old.reverse t.reverse
    ++ (flag_commands Flag.Underline old.underline t.underline
    ++ (flag_commands Flag.Wrap old.wrap t.wrap
    ++ flag_commands Flag.Scroll old.scroll t.scroll))))

-- the prelude of all attributes that an entry holds
unfoldable pub prelude : Drawing → Attributes → List Command
prelude d h =
    pen_prelude d.pen h.pen
    ++ (pel_prelude d.pel h.pel
    ++ (colour_prelude d.base d.colour h.colour
    ++ (texture_prelude d.texture h.texture
    ++ text_prelude d.text h.text)))
