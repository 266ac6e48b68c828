use Rattle.std.specs.Prelude.{ℕ, ◌<◌}

-- a colour as its green, red and blue components
pub record Components : Type 0 where
  pub g : ℕ
  pub r : ℕ
  pub b : ℕ

-- each component is below 2^16
abbrev pub HasSixteenBitParts : Components → Type 0
HasSixteenBitParts c = (c.g < 65536) × (c.r < 65536) × (c.b < 65536)
