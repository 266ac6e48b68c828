use Rattle.nap_make.proofs.PublicLaws.{line_tells_entry}
use Rattle.nap_make.proofs.laws.lines_tell_apart.Goals as goal

pub returns-clause-entries : goal.returns-clause-entries
returns-clause-entries c = line_tells_entry
