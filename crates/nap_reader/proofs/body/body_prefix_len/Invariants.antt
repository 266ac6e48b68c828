use Rattle.nap_reader.proofs.{drop, is_of_body, length, prefix_len, ◌+◌, ◌-◌, ◌≡◌, ◌≤◌}
use Rattle.nap_reader.proofs.body.body_prefix_len.Given as goal

-- the bytes so far are of a body
abbrev pub invariant-loop-count : goal.invariant-loop-count
invariant-loop-count l = (prefix_len is_of_body l.bytes ≡ l.count + prefix_len is_of_body (drop l.count l.bytes)) × (l.count ≤ length l.bytes)

abbrev pub decreases-loop-count : goal.decreases-loop-count
decreases-loop-count l = length l.bytes - l.count
