use Rattle.nap_canon.proofs.{All, All-more, IsInSquare, arith, subst, take_all}
use Rattle.nap_canon.proofs.ranges.points_in_range.Goals as goal

pub loop-at-preserved : goal.loop-at-preserved
loop-at-preserved c =
    All-more IsInSquare c.args.points.now c.loop-at.at-index c.at-item.result c.loop-at-test.true c.loop-at.invariant
    (subst IsInSquare c.at-item.is c.point_in_range.ensures)

pub returns : goal.returns
returns c =
    subst (All IsInSquare) (take_all c.loop-at.at-index c.args.points.now (omega (arith, c.loop-at-test.false))) c.loop-at.invariant
