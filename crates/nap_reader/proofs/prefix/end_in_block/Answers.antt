use Rattle.nap_reader.proofs.{arith, ends_at, goes_through, leaves_fewer, leaves_others, next_within, sym, ◌∙◌}
use Rattle.nap_reader.proofs.prefix.end_in_block.Goals as goal

pub loop-rest-init : goal.loop-rest-init
loop-rest-init c = rw c.requires.others (leaves_others c.args.piece.now c.args.at c.requires.within)

pub bounds-piece-index : goal.bounds-piece-index
bounds-piece-index c = omega (arith, next_within c.requires.within c.loop-rest.invariant (omega arith), c.requires.within)

pub returns-then-not-is_effector : goal.returns-then-not-is_effector
returns-then-not-is_effector c = ends_at c.requires.within c.loop-rest.invariant (omega arith) (sym c.is_effector.ensures ∙ c.if-not-is_effector.true)

pub loop-rest-preserved : goal.loop-rest-preserved
loop-rest-preserved c = leaves_fewer c.requires.within c.loop-rest.invariant (omega arith) (sym c.is_effector.ensures ∙ c.if-not-is_effector.false)

pub returns : goal.returns
returns c = goes_through c.requires.within c.loop-rest.invariant (omega arith)
