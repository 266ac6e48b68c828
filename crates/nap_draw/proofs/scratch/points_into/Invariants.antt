use Rattle.nap_draw.proofs.{Filling, Holding, chunks_rest, chunks_size, length, moves, operand_words, points_at, ◌≡◌}
use Rattle.nap_draw.proofs.scratch.points_into.Given as goal

abbrev pub invariant-loop-operand : goal.invariant-loop-operand
invariant-loop-operand l = record {
  can : (goal.iterator-loop-operand).can_next l.operand-iterator;
  finite : (goal.iterator-loop-operand).is_finite l.operand-iterator;
  size : chunks_size l.operand-iterator ≡ l.fn.domain.multi;
  filling : Filling (points_at (moves l.fn.domain.multi (operand_words l.fn.run))) (points_at (moves l.fn.domain.multi (operand_words (chunks_rest l.operand-iterator)))) l.full (λ prefix. l.scratch.items ≡ prefix);
  held : Holding l.fn.scratch l.scratch (length l.fn.run) (length (chunks_rest l.operand-iterator)) l.full;
}
