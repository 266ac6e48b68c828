use Rattle.nap_values.proofs.{ColourLemmas.packed_colour-in, ap, b_in, colour_of, g_in, r_in, words_in}
use Rattle.nap_values.proofs.colours.Grb.from_words.Goals as goal

pub invariant_of-result : goal.invariant_of-result
invariant_of-result c = (c.get.ensures.words, packed_colour-in c.get.result c.get.ensures.words)

pub returns : goal.returns
unfolding colour_of g_in r_in b_in
returns c = ap (λ n. colour_of (words_in n)) c.get.ensures.value
