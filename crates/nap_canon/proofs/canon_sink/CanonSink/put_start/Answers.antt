use Rattle.nap_canon.proofs.{Batch, PutsSome, Sinks.next_put, Sinks.none_put, Sinks.sink_of_writer, batch_entries, subst, sym, ◌∙◌}
use Rattle.nap_list.specs.declared.batch.Batch.TheVariants as batches
use Rattle.nap_canon.proofs.canon_sink.CanonSink.put_start.Goals as goal

pub returns-then-failed : goal.returns-then-failed
returns-then-failed g c = none_put g.O.Outlet c.args.self.now (batch_entries c.args.batch.now) (sym c.failed.ensures ∙ c.if-failed.true)

pub returns-in-Text : goal.returns-in-Text
returns-in-Text g c =
    let batch : Batch = batches.Text c.in-Text.set c.in-Text.codes c.in-Text.pen c.in-Text.drawing in
    subst (λ (b : Batch). PutsSome g.O.Outlet (batch_entries b) c.args.self.now (sink_of_writer c.put_start.new.self) c.put_start.result) (sym c.in-Text.is)
    (next_put g.O.Outlet c.self.inside.writer c.args.self.now c.self.view_is (sym c.failed.ensures ∙ c.if-failed.false) c.put_start.result c.put_start.ensures)

pub returns-in_default : goal.returns-in_default
returns-in_default g c =
    next_put g.O.Outlet c.self.inside.writer c.args.self.now c.self.view_is (sym c.failed.ensures ∙ c.if-failed.false) c.put_start-in_default.result c.put_start-in_default.ensures
