use Rattle.nap_draw.proofs.{Execution.does_put, Execution.does_stop, Fits.all_fit, None, Walks.draws_end, Walks.end_is_last, Walks.itself, Walks.point_lands, clears_nothing, last_or, refl, some_put, ◌∙◌}
use Rattle.nap_draw.proofs.work.Work.draw_points.Goals as goal

pub put_batch-requires : goal.put_batch-requires
put_batch-requires g c = (all_fit point_lands c.args.self.now.state None c.args.points.now _ c.requires).0

pub returns-in_err-put_batch : goal.returns-in_err-put_batch
returns-in_err-put_batch g c = does_stop g.S.Sink clears_nothing _ _ _ _ _ _ c.from_residual.ensures.1 refl (some_put _ (Unit {0}) _ _ _ _ _ c.in_err-put_batch.ensures)

pub returns : goal.returns
returns g c =
    let p = c.copied.result in
    let last = end_is_last c.args.points.now p (c.copied.ensures ∙ c.last.ensures.value) in
    rw c.move_pen_to.ensures (does_put g.S.Sink clears_nothing ⊥ c.args.self.now _ _ (tt {0})
    (draws_end point_lands c.args.self.now c.args.points.now p c.requires.drawing.mode (last ∙ itself (last_or None c.args.points.now))) c.in_ok-put_batch.ensures)
