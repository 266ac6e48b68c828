use Rattle.nap_values.proofs.PublicLaws.{points_spell_once}
use Rattle.nap_values.proofs.laws.points_spell_once.Goals as goal

pub returns : goal.returns
returns c = points_spell_once
