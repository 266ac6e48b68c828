use Rattle.std.proofs.Common.{ap}
use Rattle.nap_list.specs.declared.count_sink.CountSink.{CountSink}
use Rattle.nap_mend.proofs.CountLemmas.{counted, not_counted, own_cause, refused_own}
use Rattle.nap_mend.proofs.reading.count_of.Goals as goal

pub returns-in-Ok : goal.returns-in-Ok
returns-in-Ok c =
    counted c.new.result c.in-Ok.sink c.mend_budget.result c.count.result c.args.bytes.now c.mend_budget.ensures (ap (λ (s : CountSink). s.count) c.new.ensures)
    c.in-Ok.ensures.collects.0 c.in-Ok.ensures.collects.1 c.count.ensures

pub returns-in_default : goal.returns-in_default
returns-in_default c =
    let r = c.in-Err.refusal in
    not_counted c.mend_budget.result c.args.bytes.now r c.mend_budget.ensures
    (refused_own c.new.result c.mend_budget.result c.args.bytes.now r c.in-Err.ensures (own_cause r.fault c.in_default.not-Memory c.in_default.not-Sink))
