use Rattle.nap_draw.proofs.{Err, Execution.does_filled, Execution.does_refused, Execution.does_unfilled, Results.trail_inside, Results.trail_outside, Work, ap, moves, operand_words, points_reached, sym, trail_result, ◌∙◌}
use Rattle.nap_draw.proofs.work.Work.trail_rel.Goals as goal

pub returns-in_err-from-clause-acts : goal.returns-in_err-from-clause-acts
returns-in_err-from-clause-acts g c = does_refused g.S.Sink _ (g.met.S.Sink.took_none _) _ _ _ c.from_residual.ensures.1 c.in_err-from.ensures.err.0 (c.in_err-from.ensures.err.1 _)

pub returns-in_err-steps_into-clause-acts : goal.returns-in_err-steps_into-clause-acts
returns-in_err-steps_into-clause-acts g c =
    let kept = c.count_steps.ensures.kept c.if-count_steps.false in
    let all = ap (λ (w : Work). trail_result c.args.trail c.args.self.now c.in_ok-from.from (points_reached c.in_ok-from.from (moves w.domain.multi (operand_words c.args.run.now)))) (sym kept.0) in
    rw (kept.0, kept.1) (does_unfilled g.S.Sink _ (g.met.S.Sink.took_none _) _ _ _ _ _ c.from_residual-in_err-steps_into.ensures.1 (trail_result c.args.trail c.args.self.now c.in_ok-from.from) (c.in_ok-from.ensures.ok _ ∙ all) (trail_outside c.args.trail c.args.self.now c.in_ok-from.from) (trail_inside c.args.trail c.args.self.now c.in_ok-from.from)
    c.in_err-steps_into.ensures.fills (λ e. c.in_err-steps_into.ensures.memory.1 (ap Err e)))

pub returns-in-Points-clause-acts : goal.returns-in-Points-clause-acts
returns-in-Points-clause-acts g c =
    let kept = c.count_steps.ensures.kept c.if-count_steps.false in
    let all = ap (λ (w : Work). trail_result c.args.trail c.args.self.now c.in_ok-from.from (points_reached c.in_ok-from.from (moves w.domain.multi (operand_words c.args.run.now)))) (sym kept.0) in
    does_filled g.S.Sink _ _ _ _ _ _ (trail_result c.args.trail c.args.self.now c.in_ok-from.from) (λ ps. ps) _ _ (c.in_ok-from.ensures.ok _ ∙ all) c.in_ok-steps_into.ensures.fills c.deref.ensures.value
    (rw c.in-Points.is (rw (kept.0, kept.1) at c.draw_points.ensures))

pub returns-in-Lines-clause-acts : goal.returns-in-Lines-clause-acts
returns-in-Lines-clause-acts g c =
    let kept = c.count_steps.ensures.kept c.if-count_steps.false in
    let all = ap (λ (w : Work). trail_result c.args.trail c.args.self.now c.in_ok-from.from (points_reached c.in_ok-from.from (moves w.domain.multi (operand_words c.args.run.now)))) (sym kept.0) in
    does_filled g.S.Sink _ _ _ _ _ _ (trail_result c.args.trail c.args.self.now c.in_ok-from.from) (λ ps. ps) _ _ (c.in_ok-from.ensures.ok _ ∙ all) c.in_ok-steps_into.ensures.fills c.deref-in-Lines.ensures.value
    (rw c.in-Lines.is (rw (kept.0, kept.1) at c.draw_polyline.ensures))
