use Rattle.nap_lines.proofs.{IsUtf8, length, points_text, take, vec_capacity, vec_len, ◌*◌, ◌++◌, ◌+◌, ◌-◌, ◌≡◌, ◌≤◌}
use Rattle.nap_lines.proofs.line.write_points.Given as goal

abbrev pub invariant-loop-written : goal.invariant-loop-written
invariant-loop-written l = record {
  within : l.written ≤ length l.points;
  text : l.text.items ≡ l.initial.text.items ++ points_text (take l.written l.points);
  few : vec_len l.text ≤ vec_len l.initial.text + 16 * l.written;
  capacity : vec_capacity l.initial.text ≤ vec_capacity l.text;
  utf8 : IsUtf8 l.initial.text.items → IsUtf8 l.text.items;
}

abbrev pub decreases-loop-written : goal.decreases-loop-written
decreases-loop-written l = length l.points - l.written
