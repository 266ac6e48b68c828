use Rattle.nap_draw.proofs.{Execution.filling_begins, ap, arith, moves, operand_words, points_reached, sym}
use Rattle.nap_draw.proofs.scratch.fill_any_steps.Goals as goal

pub returns-then-multi-ne3-clause-fills : goal.returns-then-multi-ne3-clause-fills
returns-then-multi-ne3-clause-fills c =
    let begins = ap (λ p. points_reached p (moves c.args.domain.multi (operand_words c.args.run.now))) (sym c.from_point.ensures) in
    c.fill_more_steps.ensures.fills _ (filling_begins _ begins c.reset_scratch-full.ensures.items)

pub returns-then-multi-ne3-clause-memory : goal.returns-then-multi-ne3-clause-memory
returns-then-multi-ne3-clause-memory c = grind arith

pub fill_by_four-requires-clause-empty : goal.fill_by_four-requires-clause-empty
fill_by_four-requires-clause-empty c = c.reset_scratch-full.ensures.items
