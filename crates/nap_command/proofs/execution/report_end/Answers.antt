use Rattle.nap_command.proofs.{Appends-nil, [], refl}
use Rattle.nap_command.proofs.execution.report_end.Goals as goal

pub returns-in-Ok : goal.returns-in-Ok
returns-in-Ok g c = ([], Appends-nil _, rw (c.in-Ok.is) (record { prefix = refl; all = λ _. refl }, c.status.ensures))
