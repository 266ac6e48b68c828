use Rattle.nap_draw.proofs.{None, PutsSoFar, chunks_exact_rest, chunks_exact_size, figure_entry, last_or, map, pair_spans, ◌≡◌}
use Rattle.nap_draw.proofs.work.Work.draw_pairs.Given as goal

abbrev pub invariant-loop-pair : goal.invariant-loop-pair
invariant-loop-pair g l = record {
  can : (goal.iterator-loop-pair g).can_next l.pair-iterator;
  finite : (goal.iterator-loop-pair g).is_finite l.pair-iterator;
  size : chunks_exact_size l.pair-iterator ≡ 2;
  last : last_or l.last (pair_spans (chunks_exact_rest l.pair-iterator)) ≡ last_or None (pair_spans l.points);
  putting : PutsSoFar g.S.Sink l.fn.sink l.sink (map (figure_entry l.figure l.fn.self.state.drawing) (pair_spans l.points)) (map (figure_entry l.figure l.fn.self.state.drawing) (pair_spans (chunks_exact_rest l.pair-iterator)));
}
