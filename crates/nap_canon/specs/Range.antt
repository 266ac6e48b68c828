use Rattle.std.specs.Prelude.{IfSome}
use Rattle.nap_canon.specs.Names.{Attributes, ColourInRange, IsInRange, PenInRange, TextInRange, TextureInRange}

-- The attributes of an entry are in the ranges of their types.
pub record AttributesInRange (h : Attributes) : Type 0 where
  pub pen : IfSome h.pen PenInRange
  pub pel : IfSome h.pel IsInRange
  pub colour : IfSome h.colour ColourInRange
  pub texture : IfSome h.texture TextureInRange
  pub text : IfSome h.text TextInRange
