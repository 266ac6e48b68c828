use Rattle.nap_reader.proofs.{arith, grown}
use Rattle.nap_reader.proofs.input.Input.keep_escape.Goals as goal

pub invariant_of-self : goal.invariant_of-self
invariant_of-self c = grind (arith, grown)
