use Rattle.nap_draw.proofs.{AllFit, Entry, Fits.all_fit, List, None, Ok, Walks.draws_end, Walks.end_is_last, Walks.line_lands, ap, clears_nothing, false, polyline_spans, rule_result, some_put, subst, with_pen_moved_to, ◌∙◌}
use Rattle.nap_draw.proofs.Execution.{does_put, does_stop, joined_end, joined_lines}
use Rattle.nap_draw.proofs.work.Work.draw_polyline.Goals as goal

pub put_batch-requires : goal.put_batch-requires
put_batch-requires g c =
    let w = c.args.self.now in
    subst (AllFit (g.S.Sink.state c.args.sink.now)) (joined_lines w.state.drawing c.args.from c.args.points.now)
    (all_fit line_lands w.state None (polyline_spans c.args.from c.args.points.now) _ c.requires).0

pub returns-in_err-put_batch : goal.returns-in_err-put_batch
returns-in_err-put_batch g c =
    let w = c.args.self.now in
    let by = ap (λ (list : List Entry). Ok (rule_result w list)) (joined_lines w.state.drawing c.args.from c.args.points.now) in
    does_stop g.S.Sink clears_nothing _ _ _ _ _ _ c.from_residual.ensures.1 by (some_put _ (Unit {0}) _ _ _ _ _ c.in_err-put_batch.ensures)

pub returns : goal.returns
returns g c =
    let w = c.args.self.now in
    let p = c.copied.result in
    let last = end_is_last c.args.points.now p (c.copied.ensures ∙ c.last.ensures.value) in
    let by = draws_end line_lands w (polyline_spans c.args.from c.args.points.now) p c.requires.drawing.mode (last ∙ joined_end None c.args.from c.args.points.now) in
    let lines = ap (λ (list : List Entry). Ok (record { entries = list; work = record w { state = with_pen_moved_to w.state p }; clears = false })) (joined_lines w.state.drawing c.args.from c.args.points.now) in
    rw c.move_pen_to.ensures (does_put g.S.Sink clears_nothing ⊥ w _ _ (tt {0}) (by ∙ lines) c.in_ok-put_batch.ensures)
