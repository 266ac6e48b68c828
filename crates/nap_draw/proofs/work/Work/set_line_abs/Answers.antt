use Rattle.nap_draw.proofs.{Err, Execution.does_filled, Execution.does_refused, Execution.does_unfilled, Results.between_points, ap, entries_result, option_map, pair_spans, refl, span_line_entry, ◌∙◌}
use Rattle.nap_draw.proofs.work.Work.set_line_abs.Goals as goal

pub returns-in_err-require_pairs-clause-acts : goal.returns-in_err-require_pairs-clause-acts
returns-in_err-require_pairs-clause-acts g c = does_refused g.S.Sink _ (g.met.S.Sink.took_none _) _ _ _ c.from_residual.ensures.1 c.in_err-require_pairs.ensures.err.0 (c.in_err-require_pairs.ensures.err.1 _)

pub returns-in_err-points_into-clause-acts : goal.returns-in_err-points_into-clause-acts
returns-in_err-points_into-clause-acts g c =
    does_unfilled g.S.Sink _ (g.met.S.Sink.took_none _) _ _ _ _ _ c.from_residual-in_err-points_into.ensures.1 (λ o. entries_result c.args.self.now span_line_entry (option_map pair_spans o))
    (c.in_ok-require_pairs.ensures.ok _ ∙ ap (entries_result c.args.self.now span_line_entry) (between_points _ c.in_ok-require_pairs.ensures.even)) refl (λ xs. (_, refl)) c.in_err-points_into.ensures.fills (λ e. c.in_err-points_into.ensures.memory.1 (ap Err e))

pub returns-clause-acts : goal.returns-clause-acts
returns-clause-acts g c =
    does_filled g.S.Sink _ _ _ _ _ _ (λ o. entries_result c.args.self.now span_line_entry (option_map pair_spans o)) (λ ps. ps) _ _
    (c.in_ok-require_pairs.ensures.ok _ ∙ ap (entries_result c.args.self.now span_line_entry) (between_points _ c.in_ok-require_pairs.ensures.even)) c.in_ok-points_into.ensures.fills c.deref.ensures.value c.draw_pairs.ensures
