use Rattle.nap_reader.proofs.{Gives, List, length, ℕ, ◌≡◌}
use Rattle.nap_reader.proofs.feeding.drain.Given as goal

abbrev pub invariant-loop : goal.invariant-loop
invariant-loop g l = record {
  buffer : length l.buffer ≡ length l.fn.buffer;
  read : (p : List ℕ) × Gives g.I.Inlet l.fn.input l.input l.counter p;
}
