use Rattle.nap_draw.proofs.{Execution.Along, length, true, ◌≡◌}
use Rattle.nap_draw.proofs.counted.end_of_steps.Given as goal

-- the points so far, if all are on the unit screen
abbrev pub invariant-loop-rest : goal.invariant-loop-rest
invariant-loop-rest l = l.walk.inside ≡ true → Along l.fn.from l.fn.run l.walk.point l.rest

abbrev pub decreases-loop-rest : goal.decreases-loop-rest
decreases-loop-rest l = length l.rest

abbrev pub invariant-loop-rest-2 : goal.invariant-loop-rest-2
invariant-loop-rest-2 l = l.walk.inside ≡ true → Along l.fn.from l.fn.run l.walk.point l.rest

abbrev pub decreases-loop-rest-2 : goal.decreases-loop-rest-2
decreases-loop-rest-2 l = length l.rest
