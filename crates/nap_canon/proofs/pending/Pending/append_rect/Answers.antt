use Rattle.nap_canon.proofs.{append-nil, arith, displacement_bytes}
use Rattle.nap_canon.proofs.pending.Pending.append_rect.Goals as goal

pub returns : goal.returns
unfolding displacement_bytes
returns c = grind (arith, append-nil)
