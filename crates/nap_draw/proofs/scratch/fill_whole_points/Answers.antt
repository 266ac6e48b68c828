use Rattle.nap_draw.proofs.{Runs.bytes_turn, Runs.three_of_eight, ap, arith, point_at, refl, sym, ◌∙◌, ◌≡◌}
use Rattle.nap_draw.proofs.Execution.{cons_if_all_more, cons_if_all_none, filling_none, points_turn, threes_more}
use Rattle.nap_draw.proofs.scratch.fill_whole_points.Goals as goal

pub returns-in_default-point-clause-err : goal.returns-in_default-point-clause-err
returns-in_default-point-clause-err c =
    let three : c.args.size ≡ 3 = omega arith in
    let cut = three_of_eight c.loop-block.rest.now c.in-Some.block.now _ (omega (arith, c.in-Some.ensures.cases.2)) c.in-Some.ensures.cases.0 c.split_at.ensures.back in
    rw three (refl, filling_none c.loop-block.invariant.threes.filling (cons_if_all_none _ (points_turn cut) (sym (c.point.ensures ∙ ap point_at c.multi_first_three.ensures) ∙ c.in_default-point.is)))

pub loop-block-preserved : goal.loop-block-preserved
loop-block-preserved c =
    let cut = three_of_eight c.loop-block.rest.now c.in-Some.block.now _ (omega (arith, c.in-Some.ensures.cases.2)) c.in-Some.ensures.cases.0 c.split_at.ensures.back in
    let is = cons_if_all_more _ (points_turn cut) (sym (c.point.ensures ∙ ap point_at c.multi_first_three.ensures) ∙ c.in-Some-point.is) in
    record { vacant = c.loop-block.invariant.vacant; threes = threes_more _ c.loop-block.invariant.threes (omega (arith, c.in-Some.ensures.cases.2)) c.split_at.ensures.back is c.push_reserved.ensures.items c.push_reserved.ensures.len c.push_reserved.ensures.capacity }

pub returns-in_default-point-2-clause-err : goal.returns-in_default-point-2-clause-err
returns-in_default-point-2-clause-err c =
    let three : c.args.size ≡ 3 = omega arith in
    let cut = bytes_turn 3 3 c.loop-rest.rest.now _ _ (omega arith) (omega arith) (omega arith) c.split_at-in-loop-rest.ensures.front c.split_at-in-loop-rest.ensures.back in
    rw three (refl, filling_none c.loop-rest.invariant.threes.filling (cons_if_all_none _ (points_turn cut) (sym (c.point-in-loop-rest.ensures ∙ ap point_at c.multi_bytes.ensures) ∙ c.in_default-point-2.is)))

pub loop-rest-preserved : goal.loop-rest-preserved
loop-rest-preserved c =
    let cut = bytes_turn 3 3 c.loop-rest.rest.now _ _ (omega arith) (omega arith) (omega arith) c.split_at-in-loop-rest.ensures.front c.split_at-in-loop-rest.ensures.back in
    let is = cons_if_all_more _ (points_turn cut) (sym (c.point-in-loop-rest.ensures ∙ ap point_at c.multi_bytes.ensures) ∙ c.in-Some-point-2.is) in
    record { vacant = c.loop-rest.invariant.vacant; threes = threes_more _ c.loop-rest.invariant.threes (omega arith) c.split_at-in-loop-rest.ensures.back is c.push_reserved-in-loop-rest.ensures.items c.push_reserved-in-loop-rest.ensures.len c.push_reserved-in-loop-rest.ensures.capacity }

pub returns-clause-ok : goal.returns-clause-ok
returns-clause-ok c = let three : c.args.size ≡ 3 = omega arith in rw (three, c.put_back-2.ensures) c.loop-rest.invariant.threes.filling
