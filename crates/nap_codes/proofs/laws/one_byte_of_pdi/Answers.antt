use Rattle.nap_codes.proofs.PublicLaws.{one_byte_opcode, one_byte_operand}
use Rattle.nap_codes.proofs.laws.one_byte_of_pdi.Goals as goal

pub returns-clause-opcode : goal.returns-clause-opcode
returns-clause-opcode c = one_byte_opcode

pub returns-clause-operand : goal.returns-clause-operand
returns-clause-operand c = one_byte_operand
