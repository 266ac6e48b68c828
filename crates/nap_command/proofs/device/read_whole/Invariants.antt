use Rattle.nap_command.proofs.{Consumes, READ_SIZE, length, ◌*◌, ◌+◌, ◌≡◌, ◌≤◌}
use Rattle.nap_command.proofs.device.read_whole.Given as goal

abbrev pub invariant-loop : goal.invariant-loop
invariant-loop g l = record {
  buffer : length l.buffer ≡ READ_SIZE;
  calls : g.I.Inlet.calls l.input ≡ g.I.Inlet.calls l.fn.input + l.counter;
  flag : g.I.Inlet.failed l.input ≡ g.I.Inlet.failed l.fn.input;
  read : Consumes (g.I.Inlet.left l.fn.input) (g.I.Inlet.left l.input) l.bytes.items;
  small : length l.bytes.items ≤ READ_SIZE * l.counter;
  some : l.counter ≤ length l.bytes.items;
}
