use Rattle.nap_reader.proofs.{List, drop, is_from, length, prefix_len, ℕ, ◌+◌, ◌-◌, ◌≡◌, ◌≤◌}
use Rattle.nap_reader.proofs.prefix.prefix_end.Given as goal

-- the bytes between are of the range
abbrev Between : ℕ → ℕ → ℕ → List ℕ → Type 0
Between least from at piece = (from + prefix_len (is_from least) (drop from piece) ≡ at + prefix_len (is_from least) (drop at piece)) × (at ≤ length piece)

abbrev pub invariant-loop-at : goal.invariant-loop-at
invariant-loop-at l = Between l.least l.from l.at l.piece

abbrev pub decreases-loop-at : goal.decreases-loop-at
decreases-loop-at l = length l.piece - l.at

abbrev pub invariant-loop-at-2 : goal.invariant-loop-at-2
invariant-loop-at-2 l = Between l.least l.from l.at l.piece

abbrev pub decreases-loop-at-2 : goal.decreases-loop-at-2
decreases-loop-at-2 l = length l.piece - l.at
