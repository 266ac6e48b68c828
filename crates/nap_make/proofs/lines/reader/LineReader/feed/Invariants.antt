use Rattle.nap_make.proofs.{FeedLemmas.HasReadTo, HasReadLines, IsReady, List, length, ℕ, ◌++◌}
use Rattle.nap_make.proofs.lines.reader.LineReader.feed.Given as goal

abbrev pub invariant-loop-next : goal.invariant-loop-next
invariant-loop-next g l = record {
  ready : IsReady g.S.Sink l.self;
  read : (s : g.row.S.Denot) (p : List ℕ) → HasReadLines g.S.Sink s p l.fn.self → HasReadTo g.S.Sink s (p ++ l.fn.piece) l.self l.rest;
}

abbrev pub decreases-loop-next : goal.decreases-loop-next
decreases-loop-next g l = length l.rest
