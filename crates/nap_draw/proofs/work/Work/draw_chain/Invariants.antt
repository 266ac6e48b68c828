use Rattle.nap_draw.proofs.{None, PutsSoFar, drop, last_or, map, rect_on, rect_spans, ◌≡◌}
use Rattle.nap_draw.proofs.work.Work.draw_chain.Given as goal

abbrev pub invariant-loop-to : goal.invariant-loop-to
invariant-loop-to g l = record {
  last : last_or l.last (rect_spans l.at (drop l.to-index l.points)) ≡ last_or None (rect_spans l.fn.from l.points);
  putting : PutsSoFar g.S.Sink l.fn.sink l.sink (map (rect_on l.filled l.fn.self.state.drawing) (rect_spans l.fn.from l.points))
      (map (rect_on l.filled l.fn.self.state.drawing) (rect_spans l.at (drop l.to-index l.points)));
}
