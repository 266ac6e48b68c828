use Rattle.std.specs.Prelude.{All, IfSome, List, ℕ, ⊤, ◌<◌}
use Rattle.nap_list.specs.Names.{HasSixteenBitParts, IsInRange, IsInSquare, IsWord, TextStep}
use Rattle.nap_list.specs.Types.{Area, Base, CharSize, Colour, Definition, Drawing, Entry, Hand, Ink, MapColour, OpenDefinition, Pen, State, TextLook, Texture}

-- The parts of entries and states are in the ranges of their types. This holds for all values of the program; the types
-- of the definitions hold any numbers and don't say so.

-- an address of the colour map
abbrev pub IsAddress : ℕ → Type 0
IsAddress number = number < 16777216

-- a byte
abbrev pub IsByte : ℕ → Type 0
IsByte number = number < 256

abbrev pub PenInRange : Pen → Type 0
PenInRange (Pen.At point) = IsInSquare point
PenInRange _ = ⊤

abbrev pub BaseInRange : Base → Type 0
BaseInRange (Base.Direct grb) = HasSixteenBitParts grb
BaseInRange _ = ⊤

abbrev pub ColourInRange : Colour → Type 0
ColourInRange (Colour.Direct grb) = HasSixteenBitParts grb
ColourInRange (Colour.Front address) = IsAddress address
ColourInRange (Colour.Pair front back) = IsAddress front × IsAddress back
ColourInRange _ = ⊤

pub record TextureInRange (t : Texture) : Type 0 where
  pub word : IsWord t.word
  pub mask : IfSome t.mask IsInRange

abbrev pub SizeInRange : CharSize → Type 0
SizeInRange (CharSize.Given size) = IsInRange size
SizeInRange _ = ⊤

pub record TextInRange (t : TextLook) : Type 0 where
  pub first : IsWord t.first
  pub second : IsWord t.second
  pub size : SizeInRange t.size

pub record InkInRange (ink : Ink) : Type 0 where
  pub pel : IsInRange ink.pel
  pub colour : ColourInRange ink.colour
  pub texture : TextureInRange ink.texture

pub record HandInRange (hand : Hand) : Type 0 where
  pub pen : PenInRange hand.pen
  pub colour : ColourInRange hand.colour
  pub text : TextInRange hand.text

abbrev pub AreaInRange : Area → Type 0
AreaInRange (Area.Part from to) = IsInSquare from × IsInSquare to
AreaInRange _ = ⊤

abbrev pub StepInRange : TextStep → Type 0
StepInRange (TextStep.Aps a b) = IsByte a × IsByte b
StepInRange _ = ⊤

-- The parts of an entry are in the ranges of their types.
abbrev pub InRange : Entry → Type 0
InRange (Entry.Point at pel colour) = IsInSquare at × IsInRange pel × ColourInRange colour
InRange (Entry.Line from to ink) = IsInSquare from × IsInSquare to × InkInRange ink
InRange (Entry.Arc filled points ink) = All IsInSquare points × InkInRange ink
InRange (Entry.Rect filled from to ink) = IsInSquare from × IsInSquare to × InkInRange ink
InRange (Entry.Poly filled points ink) = All IsInSquare points × InkInRange ink
InRange (Entry.Char set code hand) = IsByte code × HandInRange hand
InRange (Entry.TextMove step hand) = StepInRange step × HandInRange hand
InRange (Entry.ToEol hand) = HandInRange hand
InRange (Entry.Map address grb) = IsAddress address × HasSixteenBitParts grb
InRange (Entry.Blink address on off delay colour) = IsAddress address × IsWord on × IsWord off × IsWord delay × ColourInRange colour
InRange (Entry.BlinkEnd colour) = ColourInRange colour
InRange (Entry.BlinkMark on colour) = ColourInRange colour
InRange (Entry.Wait word) = IsWord word
InRange (Entry.Field area pen) = AreaInRange area × PenInRange pen
InRange (Entry.Reset first second pen) = IsWord first × IsWord second × PenInRange pen
InRange (Entry.Clear pen) = PenInRange pen
InRange (Entry.GlyphStart code) = IsByte code
InRange _ = ⊤

-- The parts of each entry are in the ranges of their types.
abbrev pub AllInRange : List Entry → Type 0
AllInRange es = All InRange es

-- The current attributes are in the ranges of their types.
pub record DrawingInRange (d : Drawing) : Type 0 where
  pub pen : PenInRange d.pen
  pub pel : IsInRange d.pel
  pub base : BaseInRange d.base
  pub colour : ColourInRange d.colour
  pub texture : TextureInRange d.texture
  pub text : TextInRange d.text

abbrev pub DefinitionInRange : Definition → Type 0
DefinitionInRange (Definition.Glyph code) = IsByte code
DefinitionInRange _ = ⊤

pub record OpenedInRange (opened : OpenDefinition) : Type 0 where
  pub what : DefinitionInRange opened.what
  pub saved : DrawingInRange opened.saved

-- An address and a colour of the colour map are in the ranges of their types.
abbrev pub MapColourInRange : MapColour → Type 0
MapColourInRange known = IsAddress known.addr × HasSixteenBitParts known.grb

-- The parts of a state are in the ranges of their types.
pub record StateInRange (s : State) : Type 0 where
  pub drawing : DrawingInRange s.drawing
  pub definition : IfSome s.definition OpenedInRange
  pub last : IfSome s.last (λ last. IsByte last.code)
  pub known : All MapColourInRange s.known
