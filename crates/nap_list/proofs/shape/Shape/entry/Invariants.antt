use Rattle.nap_list.proofs.{take, ◌∷◌, ◌≡◌}
use Rattle.nap_list.proofs.shape.Shape.entry.Given as goal

abbrev pub invariant-loop-point : goal.invariant-loop-point
invariant-loop-point l = l.points ≡ l.self.from ∷ take l.point-index l.self.others.now
