use Rattle.nap_values.proofs.{WordLemmas.packed_coordinates-in, WordLemmas.zero_words, arith, digits_of, refl, value_of, words_in, x_in, y_in}
use Rattle.nap_values.proofs.point.Point.origin.Goals as goal

pub invariant_of-result : goal.invariant_of-result
unfolding value_of digits_of words_in x_in y_in
invariant_of-result c = (zero_words, packed_coordinates-in 0 zero_words, omega arith, omega arith)

pub returns : goal.returns
unfolding value_of digits_of words_in x_in y_in
returns c = refl
