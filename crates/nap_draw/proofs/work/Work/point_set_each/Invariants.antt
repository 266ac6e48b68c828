use Rattle.nap_draw.proofs.{Filling, None, chunks_rest, chunks_size, false, last_or, moves, operand_words, points_at, with_pen, with_pen_at, ◌≡◌}
use Rattle.nap_draw.proofs.work.Work.point_set_each.Given as goal

abbrev pub invariant-loop-operand : goal.invariant-loop-operand
invariant-loop-operand l = record {
  can : (goal.iterator-loop-operand).can_next l.operand-iterator;
  finite : (goal.iterator-loop-operand).is_finite l.operand-iterator;
  size : chunks_size l.operand-iterator ≡ l.fn.self.domain.multi;
  filling : Filling (points_at (moves l.fn.self.domain.multi (operand_words l.fn.run))) (points_at (moves l.fn.self.domain.multi (operand_words (chunks_rest l.operand-iterator)))) false (λ prefix. with_pen l.pen l.fn.self.state.drawing ≡ with_pen_at (last_or None prefix) l.fn.self.state.drawing);
}
