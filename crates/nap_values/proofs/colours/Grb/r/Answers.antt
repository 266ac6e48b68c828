use Rattle.nap_values.proofs.{ColourLemmas.r_digits_are, Components, WordLemmas.r_digits-below, ap, r_in, value_of, words_in, ◌∙◌}
use Rattle.nap_values.proofs.colours.Grb.r.Goals as goal

pub collected_digits-requires : goal.collected_digits-requires
collected_digits-requires c = rw (r_digits_are _ c.self.invariant.0) (r_digits-below (words_in _) c.self.invariant.0)

pub returns : goal.returns
unfolding r_in
returns c = c.collected_digits.ensures ∙ ap (value_of 4 8) (r_digits_are _ c.self.invariant.0) ∙ ap (λ (v : Components). v.r) c.self.view_is
