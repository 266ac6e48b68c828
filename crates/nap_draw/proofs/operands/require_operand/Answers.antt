use Rattle.nap_draw.proofs.{Runs.carried_length, Runs.more_of, Runs.none_of, arith, nat_tests, operand_words, refl}
use Rattle.nap_draw.proofs.operands.require_operand.Goals as goal

pub returns-then-is_empty-clause-err : goal.returns-then-is_empty-clause-err
returns-then-is_empty-clause-err c = (refl, none_of c.args.work.now (operand_words c.args.run.now) (grind (arith, nat_tests, carried_length)))

pub returns-clause-ok : goal.returns-clause-ok
returns-clause-ok c = more_of c.args.work.now (operand_words c.args.run.now) (grind (arith, nat_tests, carried_length))
