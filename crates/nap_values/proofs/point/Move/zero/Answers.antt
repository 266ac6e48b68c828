use Rattle.nap_values.proofs.{WordLemmas.move_words, WordLemmas.zero_words, digits_of, refl, value_of, words_in, x_in, y_in}
use Rattle.nap_values.proofs.point.Move.zero.Goals as goal

pub invariant_of-result : goal.invariant_of-result
invariant_of-result c = (zero_words, move_words 0 zero_words)

pub returns : goal.returns
unfolding value_of digits_of words_in x_in y_in
returns c = refl
