use Rattle.nap_make.proofs.ValueLemmas.{no_byte, no_first, no_second, word_pair}
use Rattle.nap_make.proofs.number.two_words.Goals as goal

pub returns-in_err-first : goal.returns-in_err-first
returns-in_err-first c = rw (c.from_residual.ensures) (no_byte word_pair c.in_err-first.ensures)

pub returns-in_err-word : goal.returns-in_err-word
returns-in_err-word c = rw (c.from_residual-in_err-word.ensures) (no_first word_pair c.in_ok-first.ensures c.in_err-word.ensures)

pub returns-in_err-word-2 : goal.returns-in_err-word-2
returns-in_err-word-2 c = rw (c.from_residual-in_err-word-2.ensures) (no_second word_pair c.in_ok-first.ensures c.in_err-word-2.ensures)
