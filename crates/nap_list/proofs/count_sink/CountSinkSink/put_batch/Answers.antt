use Rattle.nap_list.proofs.{CountsEntries, [], arith, batch_entries, count_sink_model, length, length-append, length-take-le, refl, some_taken, take, ◌∷◌, ◌≤◌}
use Rattle.nap_list.proofs.count_sink.CountSinkSink.put_batch.Goals as goal

pub returns : goal.returns
returns c =
    let list = batch_entries c.args.batch.now in
    let n = c.min-taken.result in
    let s = c.args.self.now in
    let few : n ≤ length list = omega (arith, c.min-taken.ensures, c.len.ensures) in
    let size = length-take-le n list few in
    let took : CountsEntries s (take n list) _ = record { count = omega (arith, size); state = c.after_first-self.ensures } in
    some_taken count_sink_model s _ list n c.error_unless_all.result c.error_unless_all.ensures refl refl took took.state
    (λ less x. omega (arith, less, size, c.min-taken.ensures, c.len.ensures, length-append (take n list) (x ∷ [])))
