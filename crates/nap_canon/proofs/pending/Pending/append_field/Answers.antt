use Rattle.nap_canon.proofs.{append-nil, arith, displacement_bytes}
use Rattle.nap_canon.proofs.pending.Pending.append_field.Goals as goal

pub returns-in-Part : goal.returns-in-Part
unfolding displacement_bytes
returns-in-Part c = grind (arith, append-nil)
