use Rattle.nap_values.proofs.{ColourLemmas.words_of_colour, ap, grb_bytes, operand_bytes, ◌∙◌}
use Rattle.nap_values.proofs.operand.put_grb.Goals as goal

pub returns : goal.returns
unfolding grb_bytes
returns c =
    c.put_words.ensures ∙ ap operand_bytes (words_of_colour _ c.words.ensures.words _ _ _ c.words.ensures.g c.words.ensures.r c.words.ensures.b)
