use Rattle.nap_lines.proofs.{drop, length, points_text, ◌*◌, ◌++◌, ◌+◌, ◌-◌, ◌≡◌, ◌≤◌}
use Rattle.nap_lines.proofs.backward_buffer.BackwardBuffer.push_points.Given as goal

-- the last points so far
abbrev pub invariant-loop-i : goal.invariant-loop-i
invariant-loop-i l = record {
  text : l.self ≡ points_text (drop (length l.points - l.i) l.points) ++ l.fn.self;
  size : length l.self ≤ l.i * 16 + length l.fn.self;
}
