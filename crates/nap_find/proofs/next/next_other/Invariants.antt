use Rattle.std.proofs.Common.{not, ◌&&◌, ◌-◌, ◌≡◌}
use Rattle.nap_find.specs.{Beginnings.begins_anew, Ends.is_next, Ends.next_other, Searching.first_from}
use Rattle.nap_find.proofs.next.next_other.Given as goal

abbrev pub invariant-loop-at : goal.invariant-loop-at
invariant-loop-at l = first_from (λ at. not (begins_anew l.bytes at) && is_next l.asked l.bytes l.reach at) l.at (l.reach - l.at) ≡ next_other l.asked l.bytes l.reach
