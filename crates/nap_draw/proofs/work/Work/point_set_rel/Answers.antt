use Rattle.nap_draw.proofs.{List, Results.end_after, Results.goes_end, Results.pen_reached, Runs.bytes_chunk, Runs.bytes_none, ap, arith, chunks_rest, chunks_size, displaced_point, last_or, moves, operand_words, pen_result, points_reached, refl, sym, ℕ, ◌∙◌}
use Rattle.nap_draw.proofs.Execution.{cons_if_all_more, cons_if_all_none, filling_begins, filling_end, filling_more, filling_none, reached_turn, sets_refused}
use Rattle.nap_draw.proofs.work.Work.point_set_rel.Goals as goal

pub returns-in_err-at : goal.returns-in_err-at
returns-in_err-at c = sets_refused _ _ _ _ c.from_residual.ensures.1 c.in_err-at.ensures.err.0 (c.in_err-at.ensures.err.1 _)

pub loop-operand-init : goal.loop-operand-init
unfolding last_or
loop-operand-init c =
    let given = c.into_iter-operand-iterator.ensures.into_iter_gives in
    record {
      can = omega (arith, c.from.ensures, c.multi.ensures.value, c.multi.ensures.least, c.chunks-operand-items.ensures.size, ap chunks_size given);
      finite = tt;
      size = omega (arith, c.from.ensures, c.multi.ensures.value, c.chunks-operand-items.ensures.size, ap chunks_size given);
      filling = filling_begins _ (ap (λ (run : List ℕ). points_reached c.in_ok-at.at (moves c.args.self.now.domain.multi (operand_words run))) (sym (ap chunks_rest given ∙ c.chunks-operand-items.ensures.rest))) refl;
    }

pub returns-in_default : goal.returns-in_default
returns-in_default c =
    let inv = c.loop-operand.invariant in
    let cut = bytes_chunk _ _ inv.size c.multi.ensures.value c.multi.ensures.least c.in-Some.ensures.steps.1 in
    let none = filling_none inv.filling (cons_if_all_none _ (reached_turn _ cut) (sym (c.by.ensures ∙ ap (displaced_point c.loop-operand.at) c.multi_bytes.ensures) ∙ c.in_default.is)) in
    (refl, c.in_ok-at.ensures.ok _ ∙ ap (pen_result c.args.self.now) none)

pub loop-operand-preserved : goal.loop-operand-preserved
loop-operand-preserved c =
    let inv = c.loop-operand.invariant in
    let steps = c.in-Some.ensures.steps in
    let cut = bytes_chunk _ _ inv.size c.multi.ensures.value c.multi.ensures.least steps.1 in
    record {
      can = omega (arith, steps.0, inv.can);
      finite = tt;
      size = steps.0 ∙ inv.size;
      filling = filling_more c.in-Some-by.point inv.filling
          (cons_if_all_more _ (reached_turn _ cut) (sym (c.by.ensures ∙ ap (displaced_point c.loop-operand.at) c.multi_bytes.ensures) ∙ c.in-Some-by.is))
          (λ e. e)
          (λ prefix e kept. end_after _ prefix c.in-Some-by.point);
    }

pub returns : goal.returns
unfolding points_reached
returns c =
    let filling = c.loop-operand.invariant.filling in
    let all = filling_end filling (ap (points_reached _) (bytes_none _ _ c.in-None.ensures.steps.1.0)) in
    let last = pen_reached c.args.self.now _ _ _ filling.prefix c.in_ok-at.ensures.ok all (filling.kept refl) in
    c.in_ok-at.ensures.ok _ ∙ (ap (pen_result c.args.self.now) all ∙ goes_end c.args.self.now filling.prefix _ last)
