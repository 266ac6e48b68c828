use Rattle.nap_command.proofs.{Consumes, List, length, ℕ, ◌+◌, ◌≡◌, ◌≤◌}
use Rattle.nap_command.proofs.batch.waiting.skip.Given as goal

abbrev pub invariant-loop : goal.invariant-loop
invariant-loop g l = record {
  scratch : length l.scratch ≡ length l.fn.scratch;
  bytes : List ℕ;
  read : Consumes (g.I.Inlet.left l.fn.input) (g.I.Inlet.left l.input) bytes;
  size : length bytes + l.left ≡ l.fn.missing;
  some : l.counter ≤ length bytes;
  flag : g.I.Inlet.failed l.input ≡ g.I.Inlet.failed l.fn.input;
}
