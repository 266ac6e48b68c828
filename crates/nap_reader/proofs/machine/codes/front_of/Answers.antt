use Rattle.nap_reader.proofs.{are_characters, opcode_alone, opens_drawn, refl}
use Rattle.nap_reader.proofs.Common.{Code}
use Rattle.nap_reader.proofs.machine.codes.front_of.Goals as goal

pub returns-in-Some : goal.returns-in-Some
returns-in-Some c =
    let front = c.in-Some.ensures.front in
    record { rested = ((c.opcode.ensures.is c.in-Some.op).0 c.in-Some.is).0; drawn = opens_drawn _ _ (Code.Op c.in-Some.op) _ _ _ front refl; alone = opcode_alone _ _ _ front; names = front }

pub returns-in-Some-char_set : goal.returns-in-Some-char_set
returns-in-Some-char_set c = are_characters ((c.char_set.ensures c.in-Some-char_set.set).0 c.in-Some-char_set.is)
