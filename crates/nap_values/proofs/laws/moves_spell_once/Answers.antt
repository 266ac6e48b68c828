use Rattle.nap_values.proofs.PublicLaws.{moves_spell_once}
use Rattle.nap_values.proofs.laws.moves_spell_once.Goals as goal

pub returns : goal.returns
returns c = moves_spell_once
