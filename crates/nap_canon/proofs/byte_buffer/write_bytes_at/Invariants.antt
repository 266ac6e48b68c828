use Rattle.nap_canon.proofs.{take, with_bytes_at, ◌≡◌}
use Rattle.nap_canon.proofs.byte_buffer.write_bytes_at.Given as goal

-- the bytes so far
abbrev pub invariant-loop-i : goal.invariant-loop-i
invariant-loop-i l = l.bytes ≡ with_bytes_at l.fn.bytes l.fn.at (take l.i l.more)
