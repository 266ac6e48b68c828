use Rattle.nap_reader.proofs.{arith, none_bound}
use Rattle.nap_reader.proofs.store.Store.new.Goals as goal

pub invariant_of-result : goal.invariant_of-result
invariant_of-result c = none_bound (omega arith) (rw c.new.ensures.items (omega arith)) (omega arith)
