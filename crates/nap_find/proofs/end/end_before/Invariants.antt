use Rattle.std.proofs.Common.{◌-◌, ◌≡◌}
use Rattle.nap_find.specs.{Ends.end_before, Ends.end_tries, Readings.accepts, Searching.first_down}
use Rattle.nap_find.proofs.end.end_before.Given as goal

abbrev pub invariant-loop-tried : goal.invariant-loop-tried
invariant-loop-tried l = first_down (accepts l.bytes) (l.end - l.tried) (end_tries - l.tried) ≡ end_before l.bytes l.end
