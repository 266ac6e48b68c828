use Rattle.std.proofs.Common.{[], ◌∷◌, ◌≡◌, ◌++◌, sym, subst, append-nil}
use Rattle.nap_list.specs.declared.entry.Entry.{Entry}
use Rattle.nap_list.specs.PuttingLaws.{one_put, wanting_put}
use Rattle.nap_list.specs.Putting.{PutSome, SinkModel, sink_model}
use Rattle.nap_list.specs.Shapes.{entry_of_shape}
use Rattle.nap_list.specs.State.{start, walk}
use Rattle.nap_tests.specs.declared.faltering.Faltering.{Faltering}
use Rattle.nap_tests.proofs.faltering.FalteringSink.put_shape.Goals as goal

-- the model of the sink
abbrev faltering : SinkModel Faltering
faltering = sink_model (λ s. walk start s.list) (λ s d. Unit {0}) (λ s. s.failed) (λ s d t. t.list ≡ s.list ++ d) (λ s d e t. t.list ≡ s.list ++ d)

pub returns-in_err-entry : goal.returns-in_err-entry
returns-in_err-entry c =
    let s = c.args.self.now in
    wanting_put faltering s (entry_of_shape c.args.shape.now) c.from_residual.result c.from_residual.ensures.1 (sym (append-nil s.list)) c.if-self.false tt

pub returns : goal.returns
returns c =
    let put = c.put.ensures in
    let s = c.args.self.now in
    let t = c.put.new.self in
    let r = c.put.result in
    subst (λ (x : Entry). PutSome faltering (x ∷ []) s t r) c.in_ok-entry.ensures
    (one_put faltering s t c.in_ok-entry.entry r (sym (append-nil s.list)) put.took put.after put.memory put.wants put.refuses put.write put.only_write put.broke put.still)
