use Rattle.nap_command.proofs.{Consumes, KeepsWithin, List, READ_SIZE, length, ℕ, ◌++◌, ◌≡◌, ◌≤◌}
use Rattle.nap_command.proofs.batch.waiting.wait.Given as goal

abbrev pub invariant-loop-reads : goal.invariant-loop-reads
invariant-loop-reads g l = record {
  scratch : length l.scratch ≡ READ_SIZE;
  bytes : List ℕ;
  read : Consumes (g.I.Inlet.left l.fn.input) (g.I.Inlet.left l.input) bytes;
  buffer : l.buffer.bytes ≡ l.fn.buffer.bytes ++ bytes;
  some : l.reads ≤ length bytes;
  flag : g.I.Inlet.failed l.input ≡ g.I.Inlet.failed l.fn.input;
  keeps : KeepsWithin l.buffer.bytes l.fn.buffer.memory l.buffer.memory;
}
