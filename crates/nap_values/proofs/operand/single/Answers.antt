use Rattle.nap_values.proofs.{OperandLemmas.single_of-padded, ◌∙◌}
use Rattle.nap_values.proofs.operand.single.Goals as goal

pub returns : goal.returns
returns c = c.single_bytes.ensures ∙ single_of-padded _ _ c.padded_bytes.ensures
