use Rattle.nap_draw.proofs.PublicLaws.{drawn_values_are_in_range}
use Rattle.nap_draw.proofs.laws.drawn_values_are_in_range.Goals as goal

pub returns : goal.returns
returns c = drawn_values_are_in_range
