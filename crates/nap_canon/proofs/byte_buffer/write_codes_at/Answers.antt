use Rattle.nap_canon.proofs.{arith, drop-drop, length}
use Rattle.nap_canon.proofs.byte_buffer.write_codes_at.Goals as goal

pub returns : goal.returns
returns c = grind (arith, length, drop-drop)
