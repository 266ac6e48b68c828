use Rattle.nap_values.proofs.PublicLaws.{colours_spell_once}
use Rattle.nap_values.proofs.laws.colours_spell_once.Goals as goal

pub returns : goal.returns
returns c = colours_spell_once
