use Rattle.nap_draw.proofs.{Coordinates, Filling, Holding, List, chunks_rest, chunks_size, length, moves, operand_words, rect_chain_spans, rect_spans, ◌++◌, ◌≡◌}
use Rattle.nap_draw.proofs.scratch.corners_into.Given as goal

abbrev pub invariant-loop-operand : goal.invariant-loop-operand
invariant-loop-operand l = record {
  can : (goal.iterator-loop-operand).can_next l.operand-iterator;
  finite : (goal.iterator-loop-operand).is_finite l.operand-iterator;
  size : chunks_size l.operand-iterator ≡ l.fn.domain.multi;
  filling : Filling (rect_chain_spans l.fn.from (moves l.fn.domain.multi (operand_words l.fn.run))) (rect_chain_spans l.at (moves l.fn.domain.multi (operand_words (chunks_rest l.operand-iterator)))) l.full (λ prefix. (qs : List Coordinates) → rect_spans l.fn.from (l.scratch.items ++ qs) ≡ prefix ++ rect_spans l.at qs);
  held : Holding l.fn.scratch l.scratch (length l.fn.run) (length (chunks_rest l.operand-iterator)) l.full;
}
