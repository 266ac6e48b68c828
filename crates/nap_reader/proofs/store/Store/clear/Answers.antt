use Rattle.nap_reader.proofs.{none_bound}
use Rattle.nap_reader.proofs.store.Store.clear.Goals as goal

pub invariant_of-self : goal.invariant_of-self
invariant_of-self c = none_bound c.self.invariant.0.begun c.self.invariant.0.few c.self.invariant.0.kept
