use Rattle.nap_canon.proofs.{List, chunks_rest, chunks_size, displacement_bytes, false, ℕ, ◌++◌, ◌≡◌}
use Rattle.nap_canon.proofs.writer.Writer.write_displacements.Given as goal

-- the displacements sent so far, and those left, are all of them
abbrev pub invariant-loop-chunk : goal.invariant-loop-chunk
invariant-loop-chunk g l = record {
  can : (goal.iterator-loop-chunk g).can_next l.chunk-iterator;
  finite : (goal.iterator-loop-chunk g).is_finite l.chunk-iterator;
  size : chunks_size l.chunk-iterator ≡ 128;
  sent : (done : List ℕ) × g.T.ByteSink.sent l.fn.self.target done false l.self.target
      × (done ++ displacement_bytes l.from (chunks_rest l.chunk-iterator) ≡ displacement_bytes l.fn.first l.others);
  text_end : l.self.pending.text_end ≡ l.fn.self.pending.text_end;
  kept : (l.self.form ≡ l.fn.self.form) × (l.self.state ≡ l.fn.self.state);
}
