use Rattle.nap_reader.proofs.{CountedSink, Put, ap, batch_entries, length, made, puts, subst, sym, taken_of, ◌∙◌, ◌≡◌}
use Rattle.nap_reader.proofs.Common.{counting, sink_model_of}
use Rattle.nap_reader.proofs.counting.CountingSinkSink.put_batch.Goals as goal

pub returns : goal.returns
returns g c =
    let s = made c.self.inside.sink c.self.inside.count in
    let put = c.put_batch-put.result in
    let list = batch_entries c.args.batch.now in
    let t = made c.put_batch-put.new.self c.count_plus-self-inside.result in
    let is : c.match-put.taken ≡ taken_of (length list) put =
    elim c.match-put.branch [
      | goal.in-Ok w ↦ w.taken-is ∙ w.len-taken.ensures ∙ sym (ap (taken_of (length list)) w.in-Ok.is)
      | goal.in-Err w ↦ w.taken-is ∙ sym (ap (taken_of (length list)) w.in-Err.is)
    ] in
    subst (λ (x : CountedSink g.row.S.Denot). Put (sink_model_of (counting g.S.Sink)) list x t put) c.self.view_is
    (puts g.S.Sink list s t put c.match-put.taken is c.count_plus-self-inside.ensures.grows c.count_plus-self-inside.ensures.none c.put_batch-put.ensures)
