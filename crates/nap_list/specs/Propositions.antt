use Rattle.std.specs.Prelude.{IfSome, None, Option, Some}
use Rattle.nap_list.specs.{Names.Displacement, Entry.IsCode, State.PenFits, State.MaskFits, State.TextureFits}
use Rattle.std.proofs.Props.{props}
use Rattle.nap_list.specs.Types.{Base, Colour, Drawing, LastChar, OpenDefinition, Pen, State, Texture}
use Rattle.nap_list.specs.Agreement.{BaseAgrees, ColourAgrees, ModeZeroIsBase, Agrees, DefinitionsAgree, StatesAgree}

-- Each of these facts has at most one proof, so a ghost field may hold it.

pub PenFits-prop : (pen : Pen) (attributes : Option Pen) → IsProp (PenFits pen attributes)
PenFits-prop pen (Some Pen.Start) = hlevel props
PenFits-prop pen _ = hlevel props

pub MaskFits-prop : (texture : Texture) (mask : Option Displacement) → IsProp (MaskFits texture mask)
MaskFits-prop texture None = hlevel props
MaskFits-prop texture _ = hlevel props

pub TextureFits-prop : (texture : Texture) (attributes : Option Texture) → IsProp (TextureFits texture attributes)
TextureFits-prop texture None = hlevel props
TextureFits-prop texture (Some wanted) = MaskFits-prop texture wanted.mask

pub BaseAgrees-prop : (base shown : Base) → IsProp (BaseAgrees base shown)
BaseAgrees-prop (Base.Own origin) shown = hlevel props
BaseAgrees-prop _ shown = hlevel props

pub ColourAgrees-prop : (colour shown : Colour) → IsProp (ColourAgrees colour shown)
ColourAgrees-prop (Colour.ByReset preset) shown = hlevel props
ColourAgrees-prop _ shown = hlevel props

pub ModeZeroIsBase-prop : (base : Base) (colour : Colour) → IsProp (ModeZeroIsBase base colour)
ModeZeroIsBase-prop base (Colour.Own origin) = hlevel props
ModeZeroIsBase-prop base _ = hlevel props

pub Agrees-prop : (d shown : Drawing) → IsProp (Agrees d shown)
Agrees-prop d shown = hlevel (
  props,
  PenFits-prop shown.pen (Some d.pen),
  BaseAgrees-prop d.base shown.base,
  ColourAgrees-prop d.colour shown.colour,
  ModeZeroIsBase-prop d.base d.colour,
  TextureFits-prop shown.texture (Some d.texture),
)

pub DefinitionsAgree-prop : (opened shown : Option OpenDefinition) → IsProp (DefinitionsAgree opened shown)
DefinitionsAgree-prop (Some opened) (Some shown) = hlevel (props, Agrees-prop opened.saved shown.saved)
DefinitionsAgree-prop None None = hlevel props
DefinitionsAgree-prop None (Some shown) = hlevel props
DefinitionsAgree-prop (Some opened) None = hlevel props

pub IsCode-prop : (last : Option LastChar) → IsProp (IfSome last (λ last. IsCode last.code))
IsCode-prop None = hlevel props
IsCode-prop (Some last) = hlevel props

pub StatesAgree-prop : (s shown : State) → IsProp (StatesAgree s shown)
StatesAgree-prop s shown = hlevel (
  props,
  Agrees-prop s.drawing shown.drawing,
  DefinitionsAgree-prop s.definition shown.definition,
  IsCode-prop shown.last,
)
