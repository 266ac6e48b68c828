use Rattle.nap_lines.proofs.{append_assoc, rules}
use Rattle.nap_lines.proofs.backward_buffer.BackwardBuffer.push_blink_line.Goals as goal

pub returns : goal.returns
returns c = simp append_assoc (search rules)
