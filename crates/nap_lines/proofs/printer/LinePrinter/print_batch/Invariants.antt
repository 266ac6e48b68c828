use Rattle.nap_lines.proofs.{SendsPart, batch_entries, false, length, lines, sending, sending_by, take, vec_capacity, vec_len, ◌-◌, ◌<◌, ◌≡◌, ◌≤◌}
use Rattle.nap_lines.proofs.printer.LinePrinter.print_batch.Given as goal

abbrev pub invariant-loop-taken : goal.invariant-loop-taken
invariant-loop-taken g l = record {
  within : l.taken ≤ length (batch_entries l.batch);
  passes : SendsPart (sending_by g.O.Outlet l.fn.self) l.fn.self.buffered (lines (take l.taken (batch_entries l.batch))) l.self-inside.buffered.items (sending g.O.Outlet l.self-inside.outlet l.self-inside.written);
  works : g.O.Outlet.failed l.self-inside.outlet ≡ false;
  state : l.self-inside.state.state ≡ l.fn.self.state;
  space : l.self-inside.space ≡ l.fn.self.space;
  memory : l.self-inside.space ≤ vec_capacity l.self-inside.buffered;
  few : vec_len l.self-inside.buffered < 98304;
}

abbrev pub decreases-loop-taken : goal.decreases-loop-taken
decreases-loop-taken g l = length (batch_entries l.batch) - l.taken
