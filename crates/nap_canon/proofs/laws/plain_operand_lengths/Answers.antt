use Rattle.nap_canon.proofs.PublicLaws.{plain_operand_lengths}
use Rattle.nap_canon.proofs.laws.plain_operand_lengths.Goals as goal

pub returns : goal.returns
returns c = plain_operand_lengths
