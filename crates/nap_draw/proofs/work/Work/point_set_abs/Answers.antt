use Rattle.nap_draw.proofs.{Results.goes_end, Results.pen_after, Results.sets_once, Runs.one_of_three, [], ap, arith, operand_words, point_at, refl, sym, ◌∙◌}
use Rattle.nap_draw.proofs.work.Work.point_set_abs.Goals as goal

pub returns-in_default : goal.returns-in_default
returns-in_default c =
    let w = c.args.self.now in
    let one = one_of_three w.domain.multi c.args.run.now (omega (arith, c.multi.ensures.value, c.if-multi-ne3.false)) (omega (arith, c.if-run-ne3.false)) in
    (refl, sets_once w (operand_words c.args.run.now) _ _ one (sym (c.point.ensures ∙ ap point_at c.multi_bytes.ensures) ∙ c.in_default.is))

pub returns : goal.returns
returns c =
    let w = c.args.self.now in
    let one = one_of_three w.domain.multi c.args.run.now (omega (arith, c.multi.ensures.value, c.if-multi-ne3.false)) (omega (arith, c.if-run-ne3.false)) in
    sets_once w (operand_words c.args.run.now) _ _ one (sym (c.point.ensures ∙ ap point_at c.multi_bytes.ensures) ∙ c.in-Some.is) ∙ goes_end w _ _ (pen_after w.state.drawing [] c.in-Some.point)
