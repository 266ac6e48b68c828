use Rattle.nap_reader.proofs.{Goes, IsLive, None, is_open, to_come, ◌*◌, ◌+◌, ◌≡◌}
use Rattle.nap_reader.proofs.machine.Machine.take_body.Given as goal

-- some bytes were consumed so far
abbrev pub invariant-loop-input : goal.invariant-loop-input
invariant-loop-input g l = record {
  live : IsLive {S = g.row.S.Denot} {g = g.S.Sink} l.self;
  run : l.fn.self.open_run ≡ None → l.self.open_run ≡ None;
  goes : Goes {S = g.row.S.Denot} {g = g.S.Sink} l.piece 0 l.fn.self l.fn.input l.self l.input;
}

-- the number of bytes that may still be consumed, and then the end of the body
abbrev pub decreases-loop-input : goal.decreases-loop-input
decreases-loop-input g l = 2 * to_come l.input l.piece + is_open l.input.body
