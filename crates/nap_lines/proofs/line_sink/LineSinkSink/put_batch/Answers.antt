use Rattle.nap_lines.proofs.{PrintLemmas.lines_shows, TakesLinesOf, batch_entries, refl, some_taken, take}
use Rattle.nap_lines.proofs.line_sink.LineSinkSink.put_batch.Goals as goal

pub returns : goal.returns
returns c =
    let list = batch_entries c.args.batch.now in
    let n = c.write_batch-taken.result in
    let took : TakesLinesOf _ (take n list) _ = record { text = c.write_batch-taken.ensures.text; state = c.after_first-self-inside.ensures } in
    rw (← c.self.view_is) (some_taken lines_shows _ _ list n c.error_unless_all.result c.error_unless_all.ensures refl refl took took.state (λ less x. tt))
