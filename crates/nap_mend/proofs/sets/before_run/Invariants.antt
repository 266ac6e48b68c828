use Rattle.std.proofs.Common.{◌≡◌, ◌≤◌}
use Rattle.nap_find.specs.Searching.{greatest}
use Rattle.nap_mend.specs.Sets.{before_run, ends_outside}
use Rattle.nap_mend.proofs.sets.before_run.Given as goal

abbrev pub invariant-loop-end : goal.invariant-loop-end
invariant-loop-end l = (greatest (ends_outside l.set l.bytes) l.end ≡ before_run l.set l.bytes l.count) × (l.end ≤ l.count)

abbrev pub decreases-loop-end : goal.decreases-loop-end
decreases-loop-end l = l.end
