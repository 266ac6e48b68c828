use Rattle.nap_make.proofs.{LineLemmas.HasPointsSo, Coordinates, List, length, true, ◌≡◌}
use Rattle.nap_make.proofs.reading.read_points.Given as goal

abbrev pub invariant-loop-count : goal.invariant-loop-count
invariant-loop-count l = (all : List Coordinates) × HasPointsSo l.bytes all l.rest × (l.count ≡ length all) × (l.kept ≡ true → l.points ≡ all)

abbrev pub decreases-loop-count : goal.decreases-loop-count
decreases-loop-count l = length l.rest
