use Rattle.nap_canon.proofs.{All, IsInSquare, take}
use Rattle.nap_canon.proofs.ranges.points_in_range.Given as goal

-- the points so far
abbrev pub invariant-loop-at : goal.invariant-loop-at
invariant-loop-at l = All IsInSquare (take l.at-index l.points)
