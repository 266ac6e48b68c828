use Rattle.nap_make.proofs.ValueLemmas.{no_byte, no_first, no_second, word_triple}
use Rattle.nap_make.proofs.number.three_words.Goals as goal

pub returns-in_err-first : goal.returns-in_err-first
returns-in_err-first c = rw (c.from_residual.ensures) (no_byte word_triple c.in_err-first.ensures)

pub returns-in_err-word : goal.returns-in_err-word
returns-in_err-word c = rw (c.from_residual-in_err-word.ensures) (no_first word_triple c.in_ok-first.ensures c.in_err-word.ensures)

pub returns-in_err-two_words : goal.returns-in_err-two_words
returns-in_err-two_words c = rw (c.from_residual-in_err-two_words.ensures) (no_second word_triple c.in_ok-first.ensures c.in_err-two_words.ensures)
