use Rattle.nap_draw.proofs.{Execution.obeys_quietly, Execution.obeys_stop, Ok, Results.is_ended, Results.not_ended, ap}
use Rattle.nap_draw.proofs.work.Work.end_definition.Goals as goal

pub returns-then-is_none : goal.returns-then-is_none
returns-then-is_none g c =
    let w = c.args.self.now in
    obeys_quietly (g.met.S.Sink.took_none _) (ap Ok (not_ended w w.state.definition c.if-is_none.ensures))

pub returns-in_err-put : goal.returns-in_err-put
returns-in_err-put g c =
    let w = c.args.self.now in
    obeys_stop _ c.from_residual.ensures.1 (g.met.S.Sink.took_none _) g.met.S.Sink.wants_more (ap Ok (is_ended w w.state.definition c.if-is_none.ensures)) (λ none. cc) c.in_err-put.ensures
