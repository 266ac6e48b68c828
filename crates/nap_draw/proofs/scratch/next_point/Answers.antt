use Rattle.nap_draw.proofs.{Execution.moved, Execution.moved_none, Runs.three_of_eight, ap, arith, displaced_point, drop, refl, ◌∙◌}
use Rattle.nap_draw.proofs.scratch.next_point.Goals as goal

pub returns-clause-some : goal.returns-clause-some
returns-clause-some c =
    let cut = three_of_eight c.args.bytes.now c.in_ok-block.block.now (drop 3 c.args.bytes.now) (omega (arith, c.requires)) c.in_ok-block.ensures.cases.0 refl in
    moved _ _ cut (c.advance.ensures.point ∙ ap (displaced_point c.args.walk.now) c.multi_first_three.ensures) c.advance.ensures.place

pub returns-clause-none : goal.returns-clause-none
returns-clause-none c =
    let cut = three_of_eight c.args.bytes.now c.in_ok-block.block.now (drop 3 c.args.bytes.now) (omega (arith, c.requires)) c.in_ok-block.ensures.cases.0 refl in
    moved_none _ c.args.walk.now cut (c.advance.ensures.point ∙ ap (displaced_point c.args.walk.now) c.multi_first_three.ensures)
