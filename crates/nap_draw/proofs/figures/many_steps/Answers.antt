use Rattle.nap_draw.proofs.{Runs.carried_length, Runs.more_than, arith}
use Rattle.nap_draw.proofs.figures.many_steps.Goals as goal

pub returns : goal.returns
returns c = grind (arith, carried_length, more_than)
