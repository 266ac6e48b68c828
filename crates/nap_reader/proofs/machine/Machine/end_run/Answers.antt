use Rattle.nap_reader.proofs.{ends_run, ends_still}
use Rattle.nap_reader.proofs.machine.Machine.end_run.Goals as goal

pub returns-in_default-clause-ends : goal.returns-in_default-clause-ends
returns-in_default-clause-ends g c = λ h between s budget p k. ends_still k between c.in_default.is

pub returns-in-Ok-clause-ends : goal.returns-in-Ok-clause-ends
returns-in-Ok-clause-ends g c =
    ends_run c.in-Ok.field-0 (record { more = g.met.S.Sink.took_more; broken = g.met.S.Sink.took_broke; wants = g.met.S.Sink.wants_more; none = g.met.S.Sink.took_none }) c.in-Ok.ensures
