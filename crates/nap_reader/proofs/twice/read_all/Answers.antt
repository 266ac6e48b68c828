use Rattle.std.proofs.Common.{rules}
use Rattle.nap_reader.proofs.twice.read_all.Goals as goal

pub returns-in-Ok-clause-list : goal.returns-in-Ok-clause-list
returns-in-Ok-clause-list c = search rules
