use Rattle.nap_reader.proofs.{Gives, HasRead, List, None, [], budget_of, false, fed_of, length, refusal_of, sink_of, ℕ, ◌*◌, ◌≡◌, ◌≤◌}
use Rattle.nap_reader.proofs.feeding.feed_from.Given as goal

abbrev pub invariant-loop : goal.invariant-loop
invariant-loop g l = record {
  room : length l.room ≡ length l.fn.room;
  budget : budget_of l.reader ≡ budget_of l.fn.reader;
  unrefused : refusal_of l.reader ≡ None;
  fed : fed_of l.reader ≤ l.counter * length l.fn.room;
  clear : g.S.Sink.failed (sink_of l.fn.reader) ≡ false → g.S.Sink.failed (sink_of l.reader) ≡ false;
  read : (p : List ℕ) × Gives g.I.Inlet l.fn.input l.input l.counter p × ((s : g.row.S.Denot) → HasRead l.fn.reader s [] → HasRead l.reader s p);
}
