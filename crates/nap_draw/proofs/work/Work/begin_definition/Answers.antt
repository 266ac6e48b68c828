use Rattle.nap_draw.proofs.{Execution.obeys_put, Execution.obeys_stop, Results.one_after, Results.start_fits, definition_ended, definition_start, refl, walk}
use Rattle.nap_draw.proofs.work.Work.begin_definition.Goals as goal

pub step-requires : goal.step-requires
step-requires g c = rw (c.definition_start.ensures, c.restore_saved.ensures) (start_fits c.args.self.now c.args.what c.requires.made)

pub returns : goal.returns
unfolding walk
returns g c = rw (c.step.ensures, c.definition_start.ensures, c.restore_saved.ensures) (obeys_put refl c.in_ok-put_start.ensures)

pub returns-in_err-put_start : goal.returns-in_err-put_start
returns-in_err-put_start g c =
    obeys_stop _ c.from_residual.ensures.1 (g.met.S.Sink.took_none _) g.met.S.Sink.wants_more refl (one_after (definition_ended c.args.self.now).entries (definition_start c.args.what)) c.in_err-put_start.ensures
