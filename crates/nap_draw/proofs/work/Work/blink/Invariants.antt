use Rattle.nap_draw.proofs.{PutsSoFar, blink, chunks_rest, chunks_size, map, operand_words, Common.operands, ◌+◌, ◌≡◌}
use Rattle.nap_draw.proofs.work.Work.blink.Given as goal

abbrev pub invariant-loop-group : goal.invariant-loop-group
invariant-loop-group g l = record {
  can : (goal.iterator-loop-group g).can_next l.group-iterator;
  finite : (goal.iterator-loop-group g).is_finite l.group-iterator;
  size : chunks_size l.group-iterator ≡ l.fn.self.domain.single + 3;
  putting : PutsSoFar g.S.Sink l.fn.sink l.sink (map (blink l.fn.self.domain.single l.fn.self.state.drawing.colour) (operands (l.fn.self.domain.single + 3) (operand_words l.fn.run)))
      (map (blink l.fn.self.domain.single l.fn.self.state.drawing.colour) (operands (l.fn.self.domain.single + 3) (operand_words (chunks_rest l.group-iterator))));
}
