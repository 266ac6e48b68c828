use Rattle.nap_canon.proofs.{Sinks.refuses_counted, arith}
use Rattle.nap_canon.proofs.conversion.refusal_or_memory.Goals as goal

pub returns-in-Ok : goal.returns-in-Ok
returns-in-Ok c = grind arith

pub returns-in-Err : goal.returns-in-Err
returns-in-Err c = grind (arith, refuses_counted)
