use Rattle.nap_make.proofs.FieldLemmas.{HasRead}
use Rattle.nap_make.proofs.reading.read_row.Given as goal

abbrev pub invariant-loop-sort : goal.invariant-loop-sort
invariant-loop-sort l = HasRead l.row.0.now l.sort-index l.bytes l.values.items l.rest
