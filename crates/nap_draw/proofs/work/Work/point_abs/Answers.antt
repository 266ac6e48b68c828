use Rattle.nap_draw.proofs.{Err, Execution.does_filled, Execution.does_refused, Execution.does_unfilled, Work, ap, entries_result, moves, operand_words, point_entry, points_at, refl, sym, ◌∙◌}
use Rattle.nap_draw.proofs.work.Work.point_abs.Goals as goal

pub returns-in_err-require_operand-clause-acts : goal.returns-in_err-require_operand-clause-acts
returns-in_err-require_operand-clause-acts g c = does_refused g.S.Sink _ (g.met.S.Sink.took_none _) _ _ _ c.from_residual.ensures.1 c.in_err-require_operand.ensures.err.0 (c.in_err-require_operand.ensures.err.1 _)

pub returns-in_err-points_into-clause-acts : goal.returns-in_err-points_into-clause-acts
returns-in_err-points_into-clause-acts g c =
    let kept = c.count_points_at.ensures.kept c.if-count_points_at.false in
    let all = ap (λ (w : Work). entries_result c.args.self.now point_entry (points_at (moves w.domain.multi (operand_words c.args.run.now)))) (sym kept.0) in
    rw (kept.0, kept.1) (does_unfilled g.S.Sink _ (g.met.S.Sink.took_none _) _ _ _ _ _ c.from_residual-in_err-points_into.ensures.1 (entries_result c.args.self.now point_entry) (c.in_ok-require_operand.ensures.ok _ ∙ all) refl (λ xs. (_, refl))
    c.in_err-points_into.ensures.fills (λ e. c.in_err-points_into.ensures.memory.1 (ap Err e)))

pub returns-clause-acts : goal.returns-clause-acts
returns-clause-acts g c =
    let kept = c.count_points_at.ensures.kept c.if-count_points_at.false in
    let all = ap (λ (w : Work). entries_result c.args.self.now point_entry (points_at (moves w.domain.multi (operand_words c.args.run.now)))) (sym kept.0) in
    does_filled g.S.Sink _ _ _ _ _ _ (entries_result c.args.self.now point_entry) (λ ps. ps) _ _ (c.in_ok-require_operand.ensures.ok _ ∙ all) c.in_ok-points_into.ensures.fills c.deref.ensures.value
    (rw (kept.0, kept.1) at c.draw_points.ensures)
