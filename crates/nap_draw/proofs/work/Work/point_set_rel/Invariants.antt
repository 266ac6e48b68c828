use Rattle.nap_draw.proofs.{Filling, Some, chunks_rest, chunks_size, false, last_or, moves, operand_words, points_reached, ◌≡◌}
use Rattle.nap_draw.proofs.work.Work.point_set_rel.Given as goal

abbrev pub invariant-loop-operand : goal.invariant-loop-operand
invariant-loop-operand l = record {
  can : (goal.iterator-loop-operand).can_next l.operand-iterator;
  finite : (goal.iterator-loop-operand).is_finite l.operand-iterator;
  size : chunks_size l.operand-iterator ≡ l.fn.self.domain.multi;
  filling : Filling (points_reached l.initial.at (moves l.fn.self.domain.multi (operand_words l.fn.run))) (points_reached l.at (moves l.fn.self.domain.multi (operand_words (chunks_rest l.operand-iterator)))) false (λ prefix. last_or (Some l.initial.at) prefix ≡ Some l.at);
}
