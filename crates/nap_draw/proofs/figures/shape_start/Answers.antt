use Rattle.nap_draw.proofs.{Runs.bytes_none, Runs.bytes_some, ap, arith, err_from_is_err_and, length, moves_of, nat_tests, operand_words, point_at, refl, steps_limit, sym, ◌<◌, ◌∙◌, ◌≤◌}
use Rattle.nap_draw.proofs.Results.{at_operand, at_operand_lost, at_pen, at_pen_lost, cut_at, point_stream, start_many, start_missing}
use Rattle.nap_draw.proofs.figures.shape_start.Goals as goal

pub returns-then-is_empty-clause-err : goal.returns-then-is_empty-clause-err
returns-then-is_empty-clause-err c =
    let w = c.args.work.now in
    let cut = cut_at c.args.start c.args.run.now c.multi-size.ensures.value c.multi-size.ensures.least c.start_size.ensures.size c.split_at.ensures.front c.split_at.ensures.back in
    let none = ap length (bytes_none w.domain.multi c.split_at.result.1.now (grind (arith, nat_tests))) in
    (refl, λ kind filled. start_missing w kind filled _ _ _ c.args.start cut none)

pub returns-then-many_steps-clause-err : goal.returns-then-many_steps-clause-err
returns-then-many_steps-clause-err c =
    let w = c.args.work.now in
    let cut = cut_at c.args.start c.args.run.now c.multi-size.ensures.value c.multi-size.ensures.least c.start_size.ensures.size c.split_at.ensures.front c.split_at.ensures.back in
    let many : steps_limit < length (moves_of w (operand_words c.split_at.result.1.now)) = grind (arith, nat_tests) in
    (refl, λ kind filled. start_many w kind filled _ _ _ c.args.start cut many)

pub returns-in_err-pen_point-in-AtPen-clause-err : goal.returns-in_err-pen_point-in-AtPen-clause-err
returns-in_err-pen_point-in-AtPen-clause-err c = grind (arith, cut_at, bytes_some, nat_tests, err_from_is_err_and, point_stream, at_pen_lost)

pub returns-in-None-clause-err : goal.returns-in-None-clause-err
returns-in-None-clause-err c =
    let w = c.args.work.now in
    let cut = cut_at c.args.start c.args.run.now c.multi-size.ensures.value c.multi-size.ensures.least c.start_size.ensures.size c.split_at.ensures.front c.split_at.ensures.back in
    let some = bytes_some w.domain.multi c.split_at.result.1.now (grind (arith, nat_tests)) in
    let few : length (moves_of w (operand_words c.split_at.result.1.now)) ≤ steps_limit = grind (arith, nat_tests) in
    (refl, λ kind filled. at_operand_lost w kind filled _ _ _ c.args.start cut some few c.in-AtOperand.is (sym (c.point.ensures ∙ ap point_at c.multi_bytes.ensures) ∙ c.in-None.is))

pub returns-in_ok-pen_point-in-AtPen-clause-ok : goal.returns-in_ok-pen_point-in-AtPen-clause-ok
returns-in_ok-pen_point-in-AtPen-clause-ok c = grind (arith, cut_at, bytes_some, nat_tests, at_pen)

pub returns-in_ok-pen_point-in-AtPen-clause-some : goal.returns-in_ok-pen_point-in-AtPen-clause-some
returns-in_ok-pen_point-in-AtPen-clause-some c = bytes_some c.args.work.now.domain.multi c.split_at.result.1.now (grind (arith, nat_tests))

pub returns-in-Some-clause-ok : goal.returns-in-Some-clause-ok
returns-in-Some-clause-ok c =
    let w = c.args.work.now in
    let cut = cut_at c.args.start c.args.run.now c.multi-size.ensures.value c.multi-size.ensures.least c.start_size.ensures.size c.split_at.ensures.front c.split_at.ensures.back in
    let some = bytes_some w.domain.multi c.split_at.result.1.now (grind (arith, nat_tests)) in
    let few : length (moves_of w (operand_words c.split_at.result.1.now)) ≤ steps_limit = grind (arith, nat_tests) in
    λ kind filled. at_operand w kind filled _ _ _ c.args.start cut some few _ c.in-AtOperand.is (sym (c.point.ensures ∙ ap point_at c.multi_bytes.ensures) ∙ c.in-Some.is)

pub returns-in-Some-clause-some : goal.returns-in-Some-clause-some
returns-in-Some-clause-some c = bytes_some c.args.work.now.domain.multi c.split_at.result.1.now (grind (arith, nat_tests))
