use Rattle.std.specs.Prelude.{◌≡◌, ⊤, Option, Some, None, IfSome}
use Rattle.nap_list.specs.Types.{Attributes, Base, Colour, Drawing, Entry, OpenDefinition, State}
use Rattle.nap_list.specs.Entry.{attributes, IsCode, WellMade}
use Rattle.nap_list.specs.State.{PenFits, TextureFits, MayCome, Fits, base_after, after}

-- A reader of a stream has attributes of its own, which the entries so far need not have shown. They agree with those
-- of the entries if an entry made from them would fit.

-- an own colour of mode 0 is the one that the entries left
abbrev pub BaseAgrees : Base → Base → Type 0
BaseAgrees (Base.Own origin) shown = shown ≡ Base.Own origin
BaseAgrees (Base.Direct grb) shown = ⊤

-- a colour selected by a reset is the one that the entries left
abbrev pub ColourAgrees : Colour → Colour → Type 0
ColourAgrees (Colour.ByReset preset) shown = shown ≡ Colour.ByReset preset
ColourAgrees _ shown = ⊤

-- a colour of mode 0 is the base
abbrev pub ModeZeroIsBase : Base → Colour → Type 0
ModeZeroIsBase base (Colour.Own origin) = base ≡ Base.Own origin
ModeZeroIsBase base (Colour.Direct grb) = base ≡ Base.Direct grb
ModeZeroIsBase base _ = ⊤

-- the attributes agree with those that the entries left
pub record Agrees (d shown : Drawing) : Type 0 where
  pub pen : PenFits shown.pen (Some d.pen)
  pub base : BaseAgrees d.base shown.base
  pub colour : ColourAgrees d.colour shown.colour
  pub mode : ModeZeroIsBase d.base d.colour
  pub texture : TextureFits shown.texture (Some d.texture)

-- both have the same open definition, and their saved attributes agree
abbrev pub DefinitionsAgree : Option OpenDefinition → Option OpenDefinition → Type 0
DefinitionsAgree None None = ⊤
DefinitionsAgree (Some opened) (Some shown) = (opened.what ≡ shown.what) × Agrees opened.saved shown.saved
DefinitionsAgree _ _ = ⊥

-- the state agrees with the one that the entries left
pub record StatesAgree (s shown : State) : Type 0 where
  pub drawing : Agrees s.drawing shown.drawing
  pub definition : DefinitionsAgree s.definition shown.definition
  pub last : s.last ≡ shown.last
  pub known : s.known ≡ shown.known
  -- (true after any entries that fit)
  pub made : IfSome shown.last (λ last. IsCode last.code)

-- every attribute that is held equals the current one
pub record EqualCurrent (h : Attributes) (d : Drawing) : Type 0 where
  pub pen : IfSome h.pen (λ pen. pen ≡ d.pen)
  pub pel : IfSome h.pel (λ pel. pel ≡ d.pel)
  pub colour : IfSome h.colour (λ colour. colour ≡ d.colour)
  pub texture : IfSome h.texture (λ texture. texture ≡ d.texture)
  pub text : IfSome h.text (λ text. text ≡ d.text)

-- every attribute that is held is current; a direct colour is the base too, so that applying them changes nothing
pub record AreCurrent (h : Attributes) (d : Drawing) : Type 0 where
  pub holds : EqualCurrent h d
  pub base : base_after d.base h.colour ≡ d.base

-- if a state agrees with the one that the entries left, an entry with its current attributes fits, and the states agree
-- again after it
abbrev pub AgreeingFits : Type 0
AgreeingFits = (s shown : State) (e : Entry) → StatesAgree s shown → EqualCurrent (attributes e) s.drawing → WellMade e → MayCome s e →
    Fits shown e × StatesAgree (after s e) (after shown e)
