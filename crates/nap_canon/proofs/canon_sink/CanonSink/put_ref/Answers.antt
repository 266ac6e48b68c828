use Rattle.nap_canon.proofs.{Sinks.broke_answered, Sinks.took_answered, sym}
use Rattle.nap_canon.proofs.canon_sink.CanonSink.put_ref.Goals as goal

pub returns-clause-took : goal.returns-clause-took
returns-clause-took g c =
    rw (← c.self.view_is) (took_answered g.O.Outlet c.args.entry.now c.put_ref.result (sym c.if-is_err.ensures.value) c.put_ref.ensures.sent c.put_ref.ensures.form c.put_ref.ensures.text_end c.put_ref.ensures.state)

pub returns-then-is_err-clause-broke : goal.returns-then-is_err-clause-broke
returns-then-is_err-clause-broke g c is before =
    rw (← c.self.view_is) (broke_answered g.O.Outlet c.args.entry.now c.put_ref.result (sym c.if-is_err.ensures.value) c.put_ref.ensures.sent c.put_ref.ensures.still)
