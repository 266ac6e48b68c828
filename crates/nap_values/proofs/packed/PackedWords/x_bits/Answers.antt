use Rattle.nap_values.proofs.{WordLemmas.x_digits-below, WordLemmas.x_digits_are, WordLemmas.x_in-below, ap, value_of, words_in, x_in, ◌∙◌}
use Rattle.nap_values.proofs.packed.PackedWords.x_bits.Goals as goal

pub collected_digits-requires : goal.collected_digits-requires
collected_digits-requires c = rw (x_digits_are _ c.self.invariant) (x_digits-below (words_in _) c.self.invariant)

pub returns-clause-value : goal.returns-clause-value
unfolding x_in
returns-clause-value c = rw (← c.self.view_is) (c.collected_digits.ensures ∙ ap (value_of 8 8) (x_digits_are _ c.self.invariant))

pub returns-clause-below : goal.returns-clause-below
unfolding x_in
returns-clause-below c = rw (c.collected_digits.ensures, x_digits_are _ c.self.invariant) (x_in-below _ c.self.invariant)
