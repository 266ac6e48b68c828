use Rattle.std.proofs.Common.{◌-◌, ◌≡◌, ◌≤◌}
use Rattle.nap_find.specs.{Ends.is_code_byte, Ends.last_code, Searching.greatest}
use Rattle.nap_find.proofs.end.last_code.Given as goal

abbrev pub invariant-loop-at : goal.invariant-loop-at
invariant-loop-at l = (greatest (is_code_byte l.bytes) l.at ≡ last_code l.bytes l.reach) × (l.at ≤ l.reach - 1)

abbrev pub decreases-loop-at : goal.decreases-loop-at
decreases-loop-at l = l.at
