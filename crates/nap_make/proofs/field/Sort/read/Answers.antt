use Rattle.nap_make.proofs.FieldLemmas.{no_times}
use Rattle.nap_make.proofs.field.Sort.read.Goals as goal

pub returns-in-None-three_words : goal.returns-in-None-three_words
returns-in-None-three_words c = rw (c.in-Times.is) (no_times c.args.word.now c.in-None-three_words.ensures)
