use Rattle.nap_values.proofs.{ColourLemmas.b_digits_are, Components, WordLemmas.b_digits-below, ap, b_in, value_of, words_in, ◌∙◌}
use Rattle.nap_values.proofs.colours.Grb.b.Goals as goal

pub collected_digits-requires : goal.collected_digits-requires
collected_digits-requires c = rw (b_digits_are _ c.self.invariant.0) (b_digits-below (words_in _) c.self.invariant.0)

pub returns : goal.returns
unfolding b_in
returns c = c.collected_digits.ensures ∙ ap (value_of 4 8) (b_digits_are _ c.self.invariant.0) ∙ ap (λ (v : Components). v.b) c.self.view_is
