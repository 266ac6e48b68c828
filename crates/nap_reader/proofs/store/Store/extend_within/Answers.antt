use Rattle.nap_reader.proofs.{StoreState, ap, arith, store_grown, grown_by, length, length-sublist, on_ok_by, sublist, ◌+◌, ◌∙◌, still_known}
use Rattle.nap_reader.proofs.store.Store.extend_within.Goals as goal

pub returns-clause-ok : goal.returns-clause-ok
returns-clause-ok c =
    on_ok_by c.extend_from_within.result (λ a is.
    grown_by _ c.self.invariant.0 c.self.view_is (rw is at c.extend_from_within.ensures.items)
    ∙ ap (λ (t : StoreState). store_grown c.args.self.now (sublist t.bytes c.args.from (c.args.from + c.args.count))) c.self.view_is)

pub invariant_of-self : goal.invariant_of-self
invariant_of-self c = still_known _ c.self.invariant c.self.view_is (omega (arith, c.requires.few, length-sublist c.self.inside.bytes.items c.args.from (c.args.from + c.args.count) (omega arith) (omega (arith, c.requires.within, ap (λ (t : StoreState). length t.bytes) c.self.view_is)))) (omega arith) _ c.extend_from_within.ensures.items
