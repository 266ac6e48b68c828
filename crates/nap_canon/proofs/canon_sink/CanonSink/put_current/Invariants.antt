use Rattle.nap_canon.proofs.{EachIsCurrent, Putting, Sinks.sink_of_writer, batch_entries, canon_sink_model, drop, false, length, ◌-◌, ◌≡◌, ◌≤◌}
use Rattle.nap_canon.proofs.canon_sink.CanonSink.put_current.Given as goal

-- the entries so far
abbrev pub invariant-loop-taken : goal.invariant-loop-taken
invariant-loop-taken g l = record {
  from : l.first ≤ l.taken;
  few : l.taken ≤ length (batch_entries l.batch);
  putting : Putting (canon_sink_model g.O.Outlet) l.fn.self (sink_of_writer l.self-inside.writer) (drop l.first (batch_entries l.batch)) (drop l.taken (batch_entries l.batch));
  current : EachIsCurrent l.self-inside.writer.state (drop l.taken (batch_entries l.batch));
  works : g.O.Outlet.failed l.self-inside.writer.target.outlet ≡ false;
}

abbrev pub decreases-loop-taken : goal.decreases-loop-taken
decreases-loop-taken g l = l.count - l.taken
