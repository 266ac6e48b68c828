use Rattle.nap_make.proofs.LineLemmas.{tells_alone, tells_at_name}
use Rattle.nap_make.proofs.reading.entry_of_line.Goals as goal

pub returns-in-None : goal.returns-in-None
returns-in-None c = tells_alone c.args.bytes.now c.in_default.ensures c.in-None.ensures

pub returns-in-None-of : goal.returns-in-None-of
returns-in-None-of c = tells_at_name c.in-Some.ensures c.in-None-of.ensures c.column_at_name.ensures
