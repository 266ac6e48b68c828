use Rattle.nap_reader.proofs.{arith, none_bound}
use Rattle.nap_reader.proofs.store.Store.empty.Goals as goal

pub invariant_of-self : goal.invariant_of-self
invariant_of-self c = none_bound (omega arith) (rw c.clear.ensures.items (omega arith)) (omega (arith, c.self.invariant.0.kept, c.clear.ensures.capacity))
