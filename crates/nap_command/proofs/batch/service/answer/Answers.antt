use Rattle.nap_command.proofs.{inr, no_memory, refl}
use Rattle.nap_command.proofs.batch.service.answer.Goals as goal

pub returns-in-Err : goal.returns-in-Err
returns-in-Err g c = (no_memory, inr refl, c.send.ensures)
