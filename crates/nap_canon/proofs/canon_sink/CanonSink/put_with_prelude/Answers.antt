use Rattle.nap_canon.proofs.{Sinks.current_after, Sinks.rest_after, arith, batch_entries, canon_sink_model, put_begins, put_ends, refl, took_none}
use Rattle.nap_canon.proofs.canon_sink.CanonSink.put_with_prelude.Goals as goal

pub returns-then-is_empty : goal.returns-then-is_empty
returns-then-is_empty g c =
    let o = g.O.Outlet in
    let s = c.args.self.now in
    let list = batch_entries c.args.batch.now in
    put_ends (canon_sink_model o) s s list list (put_begins (canon_sink_model o) s list (took_none o s)) (c.if-is_empty.ensures.0 refl)

pub put_current-requires-clause-current : goal.put_current-requires-clause-current
put_current-requires-clause-current g c = grind (arith, current_after)

pub returns-in-Ok : goal.returns-in-Ok
returns-in-Ok g c = grind (arith, rest_after)
