use Rattle.std.proofs.Common.{length, ◌-◌, ◌≡◌}
use Rattle.nap_find.specs.{Beginnings.begins, Searching.first_from, Verdicts.next_beginning}
use Rattle.nap_find.proofs.beginning.next_beginning.Given as goal

abbrev pub invariant-loop-at : goal.invariant-loop-at
invariant-loop-at l = first_from (begins l.bytes) l.at (length l.bytes - l.at) ≡ next_beginning l.bytes l.from
