use Rattle.nap_reader.proofs.{drop, is_fill, length, prefix_len, ◌+◌, ◌-◌, ◌≡◌, ◌≤◌}
use Rattle.nap_reader.proofs.machine.codes.fill_prefix_len.Given as goal

-- the bytes so far have no effect
abbrev pub invariant-loop-count : goal.invariant-loop-count
invariant-loop-count l = (prefix_len is_fill l.bytes ≡ l.count + prefix_len is_fill (drop l.count l.bytes)) × (l.count ≤ length l.bytes)

abbrev pub decreases-loop-count : goal.decreases-loop-count
decreases-loop-count l = length l.bytes - l.count
