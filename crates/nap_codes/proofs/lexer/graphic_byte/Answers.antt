use Rattle.nap_codes.proofs.{TableLemmas.opcode_missing, sym}
use Rattle.nap_codes.proofs.lexer.graphic_byte.Goals as goal

pub overflow_sub-byte : goal.overflow_sub-byte
overflow_sub-byte c = opcode_missing _ (sym c.in-None.ensures) c.requires.from
