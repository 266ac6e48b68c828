use Rattle.nap_lines.proofs.{arith, drop-drop}
use Rattle.nap_lines.proofs.block.copy_at.Goals as goal

pub returns : goal.returns
returns c = grind (arith, drop-drop)
