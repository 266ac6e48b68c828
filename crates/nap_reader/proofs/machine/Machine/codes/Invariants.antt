use Rattle.nap_reader.proofs.{None, Nothing, TakesUnder, length, placed_by_step, ◌-◌, ◌<◌, ◌≡◌}
use Rattle.nap_reader.proofs.machine.Machine.codes.Given as goal

abbrev pub invariant-loop-count : goal.invariant-loop-count
invariant-loop-count g l = record {
  takes : TakesUnder {S = g.row.S.Denot} {g = g.S.Sink} l.store.names l.fn.self l.self (placed_by_step l.slice.place l.slice.step l.bytes) l.ended l.count Nothing;
  closed : l.count < length l.bytes → l.self.open_run ≡ None;
}

abbrev pub decreases-loop-count : goal.decreases-loop-count
decreases-loop-count g l = length l.bytes - l.count
