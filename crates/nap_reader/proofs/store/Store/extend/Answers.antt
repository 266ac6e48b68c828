use Rattle.nap_reader.proofs.{arith, grown_by, on_ok_by, still_known}
use Rattle.nap_reader.proofs.store.Store.extend.Goals as goal

pub returns-then-bytes-ne1-clause-ok : goal.returns-then-bytes-ne1-clause-ok
returns-then-bytes-ne1-clause-ok c = on_ok_by c.extend_from_slice.result (λ a is. grown_by c.args.bytes.now c.self.invariant.0 c.self.view_is (rw is at c.extend_from_slice.ensures.items))

pub invariant_of-self : goal.invariant_of-self
invariant_of-self c = still_known _ c.self.invariant c.self.view_is c.requires (omega arith) _ c.extend_from_slice.ensures.items
