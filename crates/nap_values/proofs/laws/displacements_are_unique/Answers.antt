use Rattle.nap_values.proofs.PublicLaws.{displacements_are_unique}
use Rattle.nap_values.proofs.laws.displacements_are_unique.Goals as goal

pub returns : goal.returns
returns c = displacements_are_unique
