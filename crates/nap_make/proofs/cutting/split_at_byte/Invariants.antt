use Rattle.nap_make.proofs.{All, length, take, ◌-◌, ◌≢◌, ◌≤◌}
use Rattle.nap_make.proofs.cutting.split_at_byte.Given as goal

abbrev pub invariant-loop-at : goal.invariant-loop-at
invariant-loop-at l = (l.at ≤ length l.bytes) × All (λ b. b ≢ l.byte) (take l.at l.bytes)

abbrev pub decreases-loop-at : goal.decreases-loop-at
decreases-loop-at l = length l.bytes - l.at
