use Rattle.nap_values.proofs.PublicLaws.{points_are_inside}
use Rattle.nap_values.proofs.laws.points_are_inside.Goals as goal

pub returns : goal.returns
returns c = points_are_inside
