use Rattle.nap_reader.proofs.{◌∙◌, bound}
use Rattle.nap_reader.proofs.store.Store.bind.Goals as goal

pub returns : goal.returns
returns c =
    let s = c.self.inside in
    rw (c.from.ensures, ← c.self.view_is) (bound s.bytes.items s.spans s.from s.stored s.promise c.args.name c.len-end.result c.self.invariant.0.begun (c.len-end.ensures ∙ s.bytes.ok.0))
