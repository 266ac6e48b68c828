use Rattle.nap_values.proofs.PublicLaws.{addresses_spell_once}
use Rattle.nap_values.proofs.laws.addresses_spell_once.Goals as goal

pub returns : goal.returns
returns c = addresses_spell_once
