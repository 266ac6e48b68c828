use Rattle.nap_values.proofs.PublicLaws.{values_are_in_range}
use Rattle.nap_values.proofs.laws.values_are_in_range.Goals as goal

pub returns : goal.returns
returns c = values_are_in_range
