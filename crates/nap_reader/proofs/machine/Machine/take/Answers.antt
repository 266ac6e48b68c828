use Rattle.nap_reader.proofs.{takes_under}
use Rattle.nap_reader.proofs.machine.Machine.take.Goals as goal

pub returns-in-Some-clause-takes : goal.returns-in-Some-clause-takes
returns-in-Some-clause-takes g c = takes_under c.join.ensures.takes
