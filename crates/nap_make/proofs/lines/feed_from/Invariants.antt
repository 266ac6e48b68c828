use Rattle.nap_make.proofs.{Consumes, HasReadLines, IsReady, List, [], length, ℕ, ◌+◌, ◌≡◌, ◌≤◌}
use Rattle.nap_make.proofs.lines.feed_from.Given as goal

abbrev pub invariant-loop : goal.invariant-loop
invariant-loop g l = record {
  buffer : length l.buffer ≡ length l.fn.buffer;
  calls : g.I.Inlet.calls l.input ≡ g.I.Inlet.calls l.fn.input + l.counter;
  flag : g.I.Inlet.failed l.input ≡ g.I.Inlet.failed l.fn.input;
  ready : IsReady g.S.Sink l.reader;
  read : (p : List ℕ) × Consumes (g.I.Inlet.left l.fn.input) (g.I.Inlet.left l.input) p × (l.counter ≤ length p)
      × ((s : g.row.S.Denot) → HasReadLines g.S.Sink s [] l.fn.reader → HasReadLines g.S.Sink s p l.reader);
}
