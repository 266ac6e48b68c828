use Rattle.nap_reader.proofs.{[], arith, grown_by, true, ◌∷◌, still_known}
use Rattle.nap_reader.proofs.store.Store.push.Goals as goal

pub returns-clause-ok : goal.returns-clause-ok
returns-clause-ok c = grown_by (c.args.byte ∷ []) c.self.invariant.0 c.self.view_is c.in_ok-push.ensures.items

pub invariant_of-self-2 : goal.invariant_of-self-2
invariant_of-self-2 c = still_known (c.args.byte ∷ []) c.self.invariant c.self.view_is (omega (arith, c.requires)) (omega arith) true c.in_ok-push.ensures.items
