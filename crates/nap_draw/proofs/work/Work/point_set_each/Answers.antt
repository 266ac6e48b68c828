use Rattle.nap_draw.proofs.{List, Results.goes_end, Results.pen_after, Results.pen_before, Runs.bytes_chunk, Runs.bytes_none, ap, arith, chunks_rest, chunks_size, moves, operand_words, pen_result, point_at, points_at, refl, sym, ℕ, ◌∙◌}
use Rattle.nap_draw.proofs.Execution.{cons_if_all_more, cons_if_all_none, filling_begins, filling_end, filling_more, filling_none, points_turn, sets_refused}
use Rattle.nap_draw.proofs.work.Work.point_set_each.Goals as goal

pub returns-in_err-require_operand : goal.returns-in_err-require_operand
returns-in_err-require_operand c = sets_refused _ _ _ _ c.from_residual.ensures.1 c.in_err-require_operand.ensures.err.0 (c.in_err-require_operand.ensures.err.1 _)

pub loop-operand-init : goal.loop-operand-init
loop-operand-init c =
    let given = c.into_iter-operand-iterator.ensures.into_iter_gives in
    record {
      can = omega (arith, c.from.ensures, c.multi.ensures.value, c.multi.ensures.least, c.chunks-operand-items.ensures.size, ap chunks_size given);
      finite = tt;
      size = omega (arith, c.from.ensures, c.multi.ensures.value, c.chunks-operand-items.ensures.size, ap chunks_size given);
      filling = filling_begins _ (ap (λ (run : List ℕ). points_at (moves c.args.self.now.domain.multi (operand_words run))) (sym (ap chunks_rest given ∙ c.chunks-operand-items.ensures.rest))) (pen_before c.args.self.now.state.drawing _ refl);
    }

pub returns-in_default : goal.returns-in_default
returns-in_default c =
    let inv = c.loop-operand.invariant in
    let cut = bytes_chunk _ _ inv.size c.multi.ensures.value c.multi.ensures.least c.in-Some.ensures.steps.1 in
    let none = filling_none inv.filling (cons_if_all_none _ (points_turn cut) (sym (c.point.ensures ∙ ap point_at c.multi_bytes.ensures) ∙ c.in_default.is)) in
    (refl, c.in_ok-require_operand.ensures.ok _ ∙ ap (pen_result c.args.self.now) none)

pub loop-operand-preserved : goal.loop-operand-preserved
loop-operand-preserved c =
    let inv = c.loop-operand.invariant in
    let steps = c.in-Some.ensures.steps in
    let cut = bytes_chunk _ _ inv.size c.multi.ensures.value c.multi.ensures.least steps.1 in
    record {
      can = omega (arith, steps.0, inv.can);
      finite = tt;
      size = steps.0 ∙ inv.size;
      filling = filling_more c.in-Some-point.point inv.filling
          (cons_if_all_more _ (points_turn cut) (sym (c.point.ensures ∙ ap point_at c.multi_bytes.ensures) ∙ c.in-Some-point.is))
          (λ e. e)
          (λ prefix e kept. pen_after _ prefix c.in-Some-point.point);
    }

pub returns : goal.returns
unfolding points_at
returns c =
    let filling = c.loop-operand.invariant.filling in
    let all = filling_end filling (ap points_at (bytes_none _ _ c.in-None.ensures.steps.1.0)) in
    c.in_ok-require_operand.ensures.ok _ ∙ (ap (pen_result c.args.self.now) all ∙ goes_end c.args.self.now filling.prefix _ (filling.kept refl))
