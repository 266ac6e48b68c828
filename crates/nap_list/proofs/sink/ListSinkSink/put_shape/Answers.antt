use Rattle.nap_list.proofs.{List, SinkModel, append-nil, entry_of_shape, false, one_put, refl, sink_model, start, sym, walk, wanting_put, ◌++◌, ◌≡◌}
use Rattle.nap_list.specs.declared.entry.Entry.{Entry}
use Rattle.nap_list.proofs.sink.ListSinkSink.put_shape.Goals as goal

abbrev listing : SinkModel (List Entry)
listing = sink_model (walk start) (λ s d. Unit {0}) (λ s. false) (λ s d t. t ≡ s ++ d) (λ s d e t. ⊥)

pub returns-in_err-entry : goal.returns-in_err-entry
returns-in_err-entry c =
    wanting_put listing c.args.self.now (entry_of_shape c.args.shape.now) c.from_residual.result c.from_residual.ensures.1 (sym (append-nil c.args.self.now)) refl tt

pub returns : goal.returns
returns c =
    let put = c.put.ensures in
    let s = c.args.self.now in
    let t = c.put.new.self in
    let r = c.put.result in
    rw (← c.in_ok-entry.ensures)
    (one_put listing s t c.in_ok-entry.entry r (sym (append-nil s)) put.took put.after put.memory put.wants put.refuses put.write put.only_write put.broke put.still)
