use Rattle.std.proofs.Common.{length, ◌-◌, ◌≡◌, ◌≤◌}
use Rattle.nap_find.specs.Searching.{first_from}
use Rattle.nap_mend.specs.Sets.{first_in, is_in_at}
use Rattle.nap_mend.proofs.sets.first_in.Given as goal

abbrev pub invariant-loop-at : goal.invariant-loop-at
invariant-loop-at l = (first_from (is_in_at l.set l.bytes) l.at (length l.bytes - l.at) ≡ first_in l.set l.bytes l.from) × (l.from ≤ l.at)
