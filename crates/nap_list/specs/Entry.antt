use Rattle.std.specs.Prelude.{None, Some, length, ℕ, ⊤, ◌≤◌}
use Rattle.nap_list.specs.{Names.Displacement, Names.TextStep, Limits.points_limit}
use Rattle.nap_codes.specs.declared.control.TextStep.TheVariants.{Aps}
use Rattle.nap_list.specs.Types.{Attributes, Colour, Entry, Hand, Ink, Pen}

-- no attributes
abbrev pub no_attributes : Attributes
no_attributes = record { pen = None; pel = None; colour = None; texture = None; text = None }

-- pel and colour
abbrev pub point_attributes : Displacement → Colour → Attributes
point_attributes pel colour = record { pen = None; pel = Some pel; colour = Some colour; texture = None; text = None }

-- pel, colour and texture
abbrev pub ink_attributes : Ink → Attributes
ink_attributes ink = record { pen = None; pel = Some ink.pel; colour = Some ink.colour; texture = Some ink.texture; text = None }

-- pen, colour and text attributes
abbrev pub hand_attributes : Hand → Attributes
hand_attributes hand = record { pen = Some hand.pen; pel = None; colour = Some hand.colour; texture = None; text = Some hand.text }

-- a colour alone
abbrev pub colour_only : Colour → Attributes
colour_only colour = record { pen = None; pel = None; colour = Some colour; texture = None; text = None }

-- a pen alone
abbrev pub pen_only : Pen → Attributes
pen_only pen = record { pen = Some pen; pel = None; colour = None; texture = None; text = None }

-- the attributes that an entry holds
abbrev pub attributes : Entry → Attributes
attributes (Entry.Point at pel colour) = point_attributes pel colour
attributes (Entry.Line from to ink) = ink_attributes ink
attributes (Entry.Arc filled points ink) = ink_attributes ink
attributes (Entry.Rect filled from to ink) = ink_attributes ink
attributes (Entry.Poly filled points ink) = ink_attributes ink
attributes (Entry.Char set code hand) = hand_attributes hand
attributes (Entry.TextMove step hand) = hand_attributes hand
attributes (Entry.ToEol hand) = hand_attributes hand
attributes (Entry.Blink addr on off delay colour) = colour_only colour
attributes (Entry.BlinkEnd colour) = colour_only colour
attributes (Entry.BlinkMark on colour) = colour_only colour
attributes (Entry.Field area pen) = pen_only pen
attributes (Entry.Reset first second pen) = pen_only pen
attributes (Entry.Clear pen) = pen_only pen
attributes _ = no_attributes

-- the code of a character, from `20` to `7F`
abbrev pub IsCode : ℕ → Type 0
IsCode code = (32 ≤ code) × (code ≤ 127)

-- both bytes of an APS are from 20 to 7F
abbrev pub StepMade : TextStep → Type 0
StepMade (Aps a b) = IsCode a × IsCode b
StepMade _ = ⊤

-- the number of points and the codes of an entry are in range
abbrev pub WellMade : Entry → Type 0
WellMade (Entry.Arc filled points ink) = (3 ≤ length points) × (length points ≤ points_limit)
WellMade (Entry.Poly filled points ink) = (2 ≤ length points) × (length points ≤ points_limit)
WellMade (Entry.Char set code hand) = IsCode code
WellMade (Entry.TextMove step hand) = StepMade step
WellMade (Entry.GlyphStart code) = IsCode code
WellMade _ = ⊤
