use Rattle.nap_values.proofs.WordLemmas.{first_decides}
use Rattle.nap_values.proofs.operand.begins_inside.Goals as goal

pub returns : goal.returns
returns c rest = first_decides _ rest
