use Rattle.nap_values.proofs.{OperandLemmas.colour_of-padded, ap, colour_of, ◌∙◌}
use Rattle.nap_values.proofs.operand.colour.Goals as goal

pub returns : goal.returns
returns c = c.colour_bytes.ensures ∙ ap colour_of c.padded_bytes.ensures ∙ colour_of-padded _
