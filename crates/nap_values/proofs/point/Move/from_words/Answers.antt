use Rattle.nap_values.proofs.{WordLemmas.move_words, ap, multi_of, words_in, x_in, y_in}
use Rattle.nap_values.proofs.point.Move.from_words.Goals as goal

pub invariant_of-result : goal.invariant_of-result
invariant_of-result c = (c.get.ensures.words, move_words _ c.get.ensures.words)

pub returns : goal.returns
unfolding multi_of x_in y_in
returns c = ap (λ n. multi_of (words_in n)) c.get.ensures.value
