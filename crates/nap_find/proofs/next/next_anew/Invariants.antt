use Rattle.std.proofs.Common.{◌&&◌, ◌-◌, ◌≡◌}
use Rattle.nap_find.specs.{Beginnings.begins_anew, Ends.is_next, Ends.next_anew, Searching.first_down}
use Rattle.nap_find.proofs.next.next_anew.Given as goal

abbrev pub invariant-loop-tried : goal.invariant-loop-tried
invariant-loop-tried l = first_down (λ at. begins_anew l.bytes at && is_next l.asked l.bytes l.reach at) (l.last - l.tried) (l.count - l.tried) ≡ next_anew l.asked l.bytes l.reach
