use Rattle.nap_reader.proofs.{are_characters}
use Rattle.nap_reader.proofs.machine.codes.effector_front.Goals as goal

pub returns-in-Some : goal.returns-in-Some
returns-in-Some c = are_characters ((c.char_set.ensures c.in-Some.set).0 c.in-Some.is)

pub returns-in-Some-format_effector : goal.returns-in-Some-format_effector
returns-in-Some-format_effector c =
    (((c.format_effector.ensures.is c.in-Some-format_effector.step).0 c.in-Some-format_effector.is).0, c.in-Some-format_effector.ensures.front)
