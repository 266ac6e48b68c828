use Rattle.std.specs.Prelude.{List, ℕ, ◌≡◌}
use Rattle.nap_make.specs.{Types.Entry, Types.text, Lists.AreLines}

-- The first bytes are the page that these lines make: the canonical text of the list with these lines.
pub record IsMadeOf (c p : List ℕ) : Type 0 where
  pub entries : List Entry
  pub are : AreLines p entries
  pub text_is : c ≡ text entries
