use Rattle.nap_canon.proofs.{List, displacement_bytes, drop, length, with_bytes_at, ℕ, ◌*◌, ◌++◌, ◌≡◌}
use Rattle.nap_canon.proofs.byte_buffer.write_displacements_at.Given as goal

-- the displacements so far, and those left, are all of them
abbrev pub invariant-loop-i : goal.invariant-loop-i
invariant-loop-i l =
    (done : List ℕ) × (l.bytes ≡ with_bytes_at l.fn.bytes l.fn.at done) × (length done ≡ 8 * l.i) × (done ++ displacement_bytes l.from (drop l.i l.others) ≡ displacement_bytes l.fn.first l.others)
