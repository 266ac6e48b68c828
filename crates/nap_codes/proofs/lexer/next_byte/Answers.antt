use Rattle.nap_codes.proofs.{LexerLemmas.designation_final, SpacedDesignation, designation_front, final_front, one_byte_later, refl}
use Rattle.nap_codes.proofs.lexer.next_byte.Goals as goal

pub returns-in-Designation : goal.returns-in-Designation
unfolding designation_front one_byte_later final_front
returns-in-Designation c =
    rw (c.in-Designation.is, c.if-byte-eq32.true) (SpacedDesignation _, refl, refl, rw c.in-Designation.is at c.requires)

pub returns-in-Designation-2 : goal.returns-in-Designation-2
returns-in-Designation-2 c =
    rw c.in-Designation-2.is (designation_final _ _ _ _ c.if-byte-eq32.false c.final_byte.ensures)
