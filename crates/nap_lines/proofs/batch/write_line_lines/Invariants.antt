use Rattle.nap_lines.proofs.{Coordinates, List, [], codes, drop, ink_of, ink_text, length, line_limit, lines, point_text, polyline_entries, take, vec_capacity, vec_len, ℕ, ◌*◌, ◌++◌, ◌+◌, ◌∷◌, ◌≡◌, ◌≤◌}
use Rattle.nap_lines.proofs.batch.write_line_lines.Given as goal

abbrev pub invariant-loop-to : goal.invariant-loop-to
invariant-loop-to l = record {
  front : List ℕ;
  buffer : l.buffer ≡ front ++ (codes " " ++ ink_text (ink_of l.drawing) ++ 10 ∷ []);
  written : l.written ≡ l.to-index;
  few : vec_len l.text ≤ vec_len l.fn.text + line_limit * l.to-index;
  capacity : vec_capacity l.fn.text ≤ vec_capacity l.text;
  at : Coordinates;
  kept : l.kept ≡ point_text at;
  short : length l.kept ≤ 15;
  text : l.text.items ≡ l.fn.text.items ++ lines (take l.to-index (polyline_entries l.drawing l.fn.from l.points));
  rest : drop l.to-index (polyline_entries l.drawing l.fn.from l.points) ≡ polyline_entries l.drawing at (drop l.to-index l.points);
}
