use Rattle.std.specs.Prelude.{IsSome, List, None, Option, Some, [], false, if◌then◌else◌, length, pos, slice_get, unwrap_or, ℕ, ⊤, ◌%◌, ◌++◌, ◌-◌, ◌/◌, ◌==◌, ◌∷◌, ◌≡◌, ◌⊎◌}
use Rattle.nap_list.specs.{Names.Coordinates, Names.Displacement, declared.attribute.Origin.Origin, declared.attribute.Preset.Preset, declared.attribute.CharSize.CharSize, declared.state.Definition.Definition, Entry.attributes, Entry.WellMade, Known.colour_code, Known.is_known, Known.with_known_colour, Known.known_after_reset}
use Rattle.nap_codes.specs.declared.control.Size.TheVariants.{Normal}
use Rattle.nap_list.specs.Types.{Attributes, Base, Colour, Drawing, Entry, Hand, Ink, LastChar, MapColour, OpenDefinition, Pen, State, TextLook, Texture}

-- the attributes at the start (PROFILE.md, The drawing state)

abbrev pub start_texture : Texture
start_texture = record { word = 0; mask = None }

abbrev pub start_text : TextLook
start_text = record { first = 0; second = 0; size = CharSize.Named Normal; reverse = false; underline = false; wrap = false; scroll = false }

abbrev pub start_drawing : Drawing
start_drawing = record {
  pen = Pen.Start;
  pel = record { x = pos 0; y = pos 0 };
  base = Base.Own Origin.AtStart;
  colour = Colour.Own Origin.AtStart;
  texture = start_texture;
  text = start_text;
}

-- the current attributes for lines and areas
abbrev pub ink_of : Drawing → Ink
ink_of d = record { pel = d.pel; colour = d.colour; texture = d.texture }

-- the current attributes for text
abbrev pub hand_of : Drawing → Hand
hand_of d = record { pen = d.pen; colour = d.colour; text = d.text }

-- the state of the empty list
abbrev pub start : State
start = record { drawing = start_drawing; definition = None; last = None; known = [] }

-- the pen of an entry fits: one that isn't a point has to be current
abbrev pub PenFits : Pen → Option Pen → Type 0
PenFits pen (Some Pen.Start) = pen ≡ Pen.Start
PenFits pen (Some Pen.After) = pen ≡ Pen.After
PenFits _ _ = ⊤

-- the colour of an entry fits: an own colour has to be the base, and one selected by a reset has to be current
abbrev pub ColourFits : Drawing → Option Colour → Type 0
ColourFits d (Some (Colour.Own origin)) = d.base ≡ Base.Own origin
ColourFits d (Some (Colour.ByReset preset)) = d.colour ≡ Colour.ByReset preset
ColourFits _ _ = ⊤

-- the mask of an entry fits: none has to be current
abbrev pub MaskFits : Texture → Option Displacement → Type 0
MaskFits t None = t.mask ≡ None
MaskFits _ _ = ⊤

-- the texture of an entry fits if its mask does
abbrev pub TextureFits : Texture → Option Texture → Type 0
TextureFits t (Some wanted) = MaskFits t wanted.mask
TextureFits t None = ⊤

-- all attributes of an entry fit
pub record AttributesFit (d : Drawing) (h : Attributes) : Type 0 where
  pub pen : PenFits d.pen h.pen
  pub colour : ColourFits d h.colour
  pub texture : TextureFits d.texture h.texture

-- the entry is well made and comes where its kind may come
abbrev pub MayCome : State → Entry → Type 0
MayCome s (Entry.ToEol hand) = IsSome s.last
MayCome s (Entry.GlyphStart code) = s.definition ≡ None
MayCome s (Entry.MaskStart mask) = s.definition ≡ None
MayCome s Entry.DefEnd = IsSome s.definition
MayCome s (Entry.Map a grb) = is_known a grb s.known ≡ false
MayCome s _ = ⊤

-- the entry may come next
pub record Fits (s : State) (e : Entry) : Type 0 where
  pub values : AttributesFit s.drawing (attributes e)
  pub made : WellMade e
  pub comes : MayCome s e

-- the base after an entry: a direct colour replaces it
abbrev pub base_after : Base → Option Colour → Base
base_after base (Some (Colour.Direct grb)) = Base.Direct grb
base_after base _ = base

-- the attributes after those of an entry were made current
abbrev pub with_attributes : Drawing → Attributes → Drawing
with_attributes d h = record {
  pen = unwrap_or h.pen d.pen;
  pel = unwrap_or h.pel d.pel;
  base = base_after d.base h.colour;
  colour = unwrap_or h.colour d.colour;
  texture = unwrap_or h.texture d.texture;
  text = unwrap_or h.text d.text;
}

-- the effects of entries on the attributes

abbrev pub with_pen : Pen → Drawing → Drawing
with_pen pen d = record d { pen = pen }

-- the pen at a point, if there is one
abbrev pub with_pen_at : Option Coordinates → Drawing → Drawing
with_pen_at None d = d
with_pen_at (Some point) d = with_pen (Pen.At point) d

abbrev pub with_colour : Colour → Drawing → Drawing
with_colour colour d = record d { colour = colour }

-- the x of the second point and the y of the first: where a rectangle leaves the pen
abbrev pub corner : Coordinates → Coordinates → Coordinates
corner from to = record { x = to.x; y = from.y }

-- RESET: b1 of the first word resets the pel, b2 and b3 choose colours; b1 and b4 of the second reset text attributes
-- and texture
abbrev pub reset : ℕ → ℕ → Drawing → Drawing
reset first second d = record {
  pen = Pen.After;
  pel = if first % 2 == 1 then start_drawing.pel else d.pel;
  base = if colour_code first == 1 then Base.Own Origin.AfterReset else d.base;
  colour =
      if colour_code first == 1 then Colour.Own Origin.AfterReset else
      if colour_code first == 2 then Colour.ByReset Preset.Two else
      if colour_code first == 3 then Colour.ByReset Preset.Three else d.colour;
  texture = if second / 8 % 2 == 1 then start_texture else d.texture;
  text = if second % 2 == 1 then start_text else d.text;
}

-- the attributes saved at the start of the open definition, if one is open
abbrev pub restored_drawing : Option OpenDefinition → Drawing → Drawing
restored_drawing None d = d
restored_drawing (Some opened) d = opened.saved

-- the effect of an entry on the attributes
abbrev pub effect_on_drawing : Option OpenDefinition → Drawing → Entry → Drawing
effect_on_drawing o d (Entry.Point at pel colour) = with_pen (Pen.At at) d
effect_on_drawing o d (Entry.Line from to ink) = with_pen (Pen.At to) d
effect_on_drawing o d (Entry.Arc filled points ink) = with_pen_at (slice_get points (length points - 1)) d
effect_on_drawing o d (Entry.Rect filled from to ink) = with_pen (Pen.At (corner from to)) d
effect_on_drawing o d (Entry.Poly filled points ink) = with_pen_at (slice_get points 0) d
effect_on_drawing o d (Entry.Char set code hand) = with_pen Pen.After d
effect_on_drawing o d (Entry.TextMove step hand) = with_pen Pen.After d
effect_on_drawing o d (Entry.ToEol hand) = with_pen Pen.After d
effect_on_drawing o d (Entry.Clear pen) = with_pen Pen.After d
effect_on_drawing o d (Entry.Field area pen) = with_pen Pen.After d
effect_on_drawing o d (Entry.Reset first second pen) = reset first second d
effect_on_drawing o d (Entry.Map addr grb) = with_colour (Colour.Front addr) d
effect_on_drawing o d (Entry.GlyphStart code) = with_pen Pen.Start d
effect_on_drawing o d (Entry.MaskStart mask) = with_pen Pen.Start d
effect_on_drawing o d Entry.DefEnd = restored_drawing o d
effect_on_drawing o d _ = d

-- the open definition after an entry; its start saves the attributes
abbrev pub definition_after : Option OpenDefinition → Drawing → Entry → Option OpenDefinition
definition_after o d (Entry.GlyphStart code) = Some (record { what = Definition.Glyph code; saved = d })
definition_after o d (Entry.MaskStart mask) = Some (record { what = Definition.Mask mask; saved = d })
definition_after o d Entry.DefEnd = None
definition_after o d _ = o

-- the entry, if it is a character
abbrev pub last_after : Entry → Option LastChar
last_after (Entry.Char set code hand) = Some (record { set = set; code = code })
last_after _ = None

-- the known colours after an entry: MAP adds one, and RESET clears them if it chooses colours
abbrev pub known_after : List MapColour → Entry → List MapColour
known_after known (Entry.Map a grb) = with_known_colour a grb known
known_after known (Entry.Reset first second pen) = known_after_reset first known
known_after known _ = known

-- the state after an entry: its attributes become current, and then it has its effect
abbrev pub after : State → Entry → State
after s e = record {
  drawing = effect_on_drawing s.definition (with_attributes s.drawing (attributes e)) e;
  definition = definition_after s.definition (with_attributes s.drawing (attributes e)) e;
  last = last_after e;
  known = known_after s.known e;
}

-- the state after a list of entries
unfoldable pub walk : State → List Entry → State
walk s [] = s
walk s (e ∷ es) = walk (after s e) es

-- each entry fits the state that those before it leave
unfoldable pub AllFit : State → List Entry → Type 0
AllFit s [] = ⊤
AllFit s (e ∷ es) = Fits s e × AllFit (after s e) es

-- each entry fits, and no definition is left open
pub record Legal (es : List Entry) : Type 0 where
  pub fit : AllFit start es
  pub ended : (walk start es).definition ≡ None

-- the entry at this index is the first that doesn't fit
pub record Misfit (index : ℕ) (es : List Entry) : Type 0 where
  pub prefix : List Entry
  pub entry : Entry
  pub rest : List Entry
  pub parts : es ≡ prefix ++ entry ∷ rest
  pub place : length prefix ≡ index
  pub before : AllFit start prefix
  pub misfit : Fits (walk start prefix) entry → ⊥

-- each entry fits, and a definition is left open at the end
pub record LeftOpen (index : ℕ) (es : List Entry) : Type 0 where
  pub place : length es ≡ index
  pub fit : AllFit start es
  pub opened : IsSome (walk start es).definition

-- the index where a list is illegal: of the first entry that doesn't fit, or the length
abbrev pub IsIllegalAt : ℕ → List Entry → Type 0
IsIllegalAt index es = Misfit index es ⊎ LeftOpen index es
