use Rattle.nap_command.proofs.{READ_SIZE, SessionLemmas.Going, length, pipes, ◌≡◌}
use Rattle.nap_command.proofs.batch.service.serve.Given as goal

abbrev pub invariant-loop : goal.invariant-loop
invariant-loop g l = record {
  scratch : length l.scratch ≡ READ_SIZE;
  going : Going (pipes g.I.Inlet g.O.Outlet l.fn.input l.fn.output) (pipes g.I.Inlet g.O.Outlet l.input l.output) l.buffer.bytes l.written l.counter;
}
