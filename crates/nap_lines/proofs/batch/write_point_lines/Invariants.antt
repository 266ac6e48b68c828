use Rattle.nap_lines.proofs.{List, ℕ, line_limit, lines, map, point_entry, take, vec_capacity, vec_len, ◌*◌, ◌++◌, ◌+◌, ◌≡◌, ◌≤◌}
use Rattle.nap_lines.proofs.batch.write_point_lines.Given as goal

abbrev pub invariant-loop-at : goal.invariant-loop-at
invariant-loop-at l = record {
  front : List ℕ;
  buffer : l.buffer ≡ front ++ l.initial.buffer;
  written : l.written ≡ l.at-index;
  few : vec_len l.text ≤ vec_len l.initial.text + line_limit * l.at-index;
  capacity : vec_capacity l.initial.text ≤ vec_capacity l.text;
  text : l.text.items ≡ l.initial.text.items ++ lines (take l.at-index (map (point_entry l.drawing) l.points));
}
