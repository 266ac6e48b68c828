use Rattle.nap_values.proofs.{OperandLemmas.multi_of-padded, ap, multi_of, ◌∙◌}
use Rattle.nap_values.proofs.operand.multi.Goals as goal

pub returns : goal.returns
returns c = c.multi_bytes.ensures ∙ ap multi_of c.padded_bytes.ensures ∙ multi_of-padded _
