use Rattle.nap_make.proofs.{ValueLemmas.reads_tried}
use Rattle.nap_make.proofs.number.word.Goals as goal

pub returns : goal.returns
returns c = reads_tried c.try_new.result c.in_ok-number.ensures c.try_new.ensures.found c.try_new.ensures.value
