use Rattle.nap_reader.proofs.{drop, is_from, length, prefix_len, ◌+◌, ◌-◌, ◌≡◌, ◌≤◌}
use Rattle.nap_reader.proofs.prefix.prefix_from.Given as goal

-- the bytes so far are of the range
abbrev pub invariant-loop-at : goal.invariant-loop-at
invariant-loop-at l = (prefix_len (is_from l.least) l.piece ≡ l.at + prefix_len (is_from l.least) (drop l.at l.piece)) × (l.at ≤ length l.piece)

abbrev pub decreases-loop-at : goal.decreases-loop-at
decreases-loop-at l = length l.piece - l.at
