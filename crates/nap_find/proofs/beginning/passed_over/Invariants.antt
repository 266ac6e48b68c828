use Rattle.std.proofs.Common.{◌+◌, ◌-◌, ◌≡◌, ◌≤◌}
use Rattle.nap_find.specs.{Beginnings.begins, Searching.count_from}
use Rattle.nap_find.proofs.beginning.passed_over.Given as goal

abbrev pub invariant-loop-at : goal.invariant-loop-at
invariant-loop-at l = (l.count + count_from (begins l.bytes) l.at (l.end - l.at) ≡ count_from (begins l.bytes) 1 (l.end - 1)) × (l.count ≤ l.at)
