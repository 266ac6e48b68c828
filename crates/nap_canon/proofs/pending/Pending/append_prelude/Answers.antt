use Rattle.nap_canon.proofs.{Preludes.prelude_of_colour, Preludes.prelude_of_pen, Texts.commands_as, arith}
use Rattle.nap_canon.proofs.pending.Pending.append_prelude.Goals as goal

pub returns-in-Field-clause-appends : goal.returns-in-Field-clause-appends
returns-in-Field-clause-appends c = grind (arith, commands_as, prelude_of_pen)

pub returns-in-Blink-clause-appends : goal.returns-in-Blink-clause-appends
returns-in-Blink-clause-appends c = grind (arith, prelude_of_colour)
