use Rattle.nap_draw.proofs.{Err, Execution.does_filled, Execution.does_refused, Execution.does_unfilled, ap, entries_result, figure_entry, pair_spans, refl}
use Rattle.nap_draw.proofs.work.Work.set_figures.Goals as goal

pub returns-in_err-require_pairs-clause-acts : goal.returns-in_err-require_pairs-clause-acts
returns-in_err-require_pairs-clause-acts g c = does_refused g.S.Sink _ (g.met.S.Sink.took_none _) _ _ _ c.from_residual.ensures.1 c.in_err-require_pairs.ensures.err.0 (c.in_err-require_pairs.ensures.err.1 _)

pub returns-in_err-pairs_into-clause-acts : goal.returns-in_err-pairs_into-clause-acts
returns-in_err-pairs_into-clause-acts g c =
    does_unfilled g.S.Sink _ (g.met.S.Sink.took_none _) _ _ _ _ _ c.from_residual-in_err-pairs_into.ensures.1 (entries_result c.args.self.now (figure_entry c.args.figure)) (c.in_ok-require_pairs.ensures.ok _) refl (λ xs. (_, refl)) c.in_err-pairs_into.ensures.fills (λ e. c.in_err-pairs_into.ensures.memory.1 (ap Err e))

pub returns-clause-acts : goal.returns-clause-acts
returns-clause-acts g c = does_filled g.S.Sink _ _ _ _ _ _ (entries_result c.args.self.now (figure_entry c.args.figure)) pair_spans _ _ (c.in_ok-require_pairs.ensures.ok _) c.in_ok-pairs_into.ensures.fills c.deref.ensures.value c.draw_pairs.ensures
