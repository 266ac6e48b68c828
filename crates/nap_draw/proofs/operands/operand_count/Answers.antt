use Rattle.nap_draw.proofs.{Runs.carried_length, Runs.moves_count_is, arith}
use Rattle.nap_draw.proofs.operands.operand_count.Goals as goal

pub returns : goal.returns
returns c = grind (arith, carried_length, moves_count_is)
