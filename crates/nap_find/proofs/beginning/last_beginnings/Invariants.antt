use Rattle.std.proofs.Common.{◌-◌, ◌≡◌, ◌≤◌}
use Rattle.nap_find.specs.{Beginnings.begins, Searching.last_few}
use Rattle.nap_find.proofs.beginning.last_beginnings.Given as goal

abbrev pub invariant-loop-count : goal.invariant-loop-count
invariant-loop-count l = (last_few (begins l.bytes) l.left 1 l.count ≡ last_few (begins l.bytes) l.most 1 (l.reach - 1)) × (l.count ≤ l.reach - 1)

abbrev pub decreases-loop-count : goal.decreases-loop-count
decreases-loop-count l = l.count
