use Rattle.nap_values.proofs.{ColourLemmas.g_digits_are, Components, WordLemmas.g_digits-below, ap, g_in, value_of, words_in, ◌∙◌}
use Rattle.nap_values.proofs.colours.Grb.g.Goals as goal

pub collected_digits-requires : goal.collected_digits-requires
collected_digits-requires c = rw (g_digits_are _ c.self.invariant.0) (g_digits-below (words_in _) c.self.invariant.0)

pub returns : goal.returns
unfolding g_in
returns c = c.collected_digits.ensures ∙ ap (value_of 4 8) (g_digits_are _ c.self.invariant.0) ∙ ap (λ (v : Components). v.g) c.self.view_is
