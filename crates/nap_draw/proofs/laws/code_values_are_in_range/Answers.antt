use Rattle.nap_draw.proofs.PublicLaws.{code_values_are_in_range}
use Rattle.nap_draw.proofs.laws.code_values_are_in_range.Goals as goal

pub returns : goal.returns
returns c = code_values_are_in_range
