use Rattle.nap_draw.proofs.{Filling, Holding, chunks_rest, chunks_size, length, moves, operand_words, relative_spans, span_ends, ◌≡◌}
use Rattle.nap_draw.proofs.scratch.pairs_into.Given as goal

abbrev pub invariant-loop-first : goal.invariant-loop-first
invariant-loop-first l = record {
  size : chunks_size l.operands ≡ l.fn.domain.multi;
  filling : Filling (relative_spans (moves l.fn.domain.multi (operand_words l.fn.run))) (relative_spans (moves l.fn.domain.multi (operand_words (chunks_rest l.operands)))) l.full (λ prefix. l.scratch.items ≡ span_ends prefix);
  held : Holding l.fn.scratch l.scratch (length l.fn.run) (length (chunks_rest l.operands)) l.full;
}

abbrev pub decreases-loop-first : goal.decreases-loop-first
decreases-loop-first l = length (chunks_rest l.operands)
