use Rattle.nap_draw.proofs.{Results.not_started, Results.started, Runs.carried_length, Runs.none_of, arith, nat_tests, operand_words, refl}
use Rattle.nap_draw.proofs.operands.require_start.Goals as goal

pub returns-then-is_empty-clause-err : goal.returns-then-is_empty-clause-err
returns-then-is_empty-clause-err c = (refl, λ f. none_of c.args.work.now (operand_words c.args.run.now) (grind (arith, nat_tests, carried_length)) _)

pub returns-clause-ok : goal.returns-clause-ok
returns-clause-ok c = started c.args.work.now (operand_words c.args.run.now) (grind (arith, nat_tests, carried_length)) _ c.pen_point.ensures

pub returns-clause-err : goal.returns-clause-err
returns-clause-err c = not_started c.args.work.now (operand_words c.args.run.now) (grind (arith, nat_tests, carried_length)) _ c.pen_point.ensures
