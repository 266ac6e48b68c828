use Rattle.nap_canon.proofs.{Texts.appended_ends, Texts.displacements_size, arith, length}
use Rattle.nap_canon.proofs.byte_buffer.ByteBuffer.append_displacements.Goals as goal

pub returns-clause-bytes : goal.returns-clause-bytes
returns-clause-bytes c = grind (arith, appended_ends, length, displacements_size)
