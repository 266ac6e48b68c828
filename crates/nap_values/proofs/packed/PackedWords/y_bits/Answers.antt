use Rattle.nap_values.proofs.{WordLemmas.y_digits-below, WordLemmas.y_digits_are, WordLemmas.y_in-below, ap, value_of, words_in, y_in, ◌∙◌}
use Rattle.nap_values.proofs.packed.PackedWords.y_bits.Goals as goal

pub collected_digits-requires : goal.collected_digits-requires
collected_digits-requires c = rw (y_digits_are _ c.self.invariant) (y_digits-below (words_in _) c.self.invariant)

pub returns-clause-value : goal.returns-clause-value
unfolding y_in
returns-clause-value c = rw (← c.self.view_is) (c.collected_digits.ensures ∙ ap (value_of 8 8) (y_digits_are _ c.self.invariant))

pub returns-clause-below : goal.returns-clause-below
unfolding y_in
returns-clause-below c = rw (c.collected_digits.ensures, y_digits_are _ c.self.invariant) (y_in-below _ c.self.invariant)
