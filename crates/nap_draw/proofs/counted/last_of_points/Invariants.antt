use Rattle.nap_draw.proofs.{Execution.Spelt, chunks_rest, chunks_size, length, true, ◌≡◌, ◌≤◌}
use Rattle.nap_draw.proofs.counted.last_of_points.Given as goal

abbrev pub invariant-loop-operand : goal.invariant-loop-operand
invariant-loop-operand l = record {
  can : (goal.iterator-loop-operand).can_next l.operand-iterator;
  finite : (goal.iterator-loop-operand).is_finite l.operand-iterator;
  size : chunks_size l.operand-iterator ≡ l.fn.domain.multi;
  short : length l.last ≤ 8;
  spelt : l.inside ≡ true → Spelt l.fn.domain.multi l.fn.run (chunks_rest l.operand-iterator) l.last;
}
