use Rattle.nap_canon.proofs.{length, points_bytes, take, with_bytes_at, ◌*◌, ◌+◌, ◌≡◌}
use Rattle.nap_canon.proofs.byte_buffer.write_points_at.Given as goal

-- the points so far
abbrev pub invariant-loop-point : goal.invariant-loop-point
invariant-loop-point l = record {
  bytes : l.bytes ≡ with_bytes_at l.fn.bytes l.fn.at (points_bytes (take l.point-index l.points));
  until : l.until ≡ l.fn.at + 8 * l.point-index;
  size : length (points_bytes (take l.point-index l.points)) ≡ 8 * l.point-index;
}
