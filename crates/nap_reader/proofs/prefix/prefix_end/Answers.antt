use Rattle.nap_reader.proofs.{arith, in_block, past_block}
use Rattle.nap_reader.proofs.prefix.prefix_end.Goals as goal

pub returns-then-others-ne0 : goal.returns-then-others-ne0
returns-then-others-ne0 c =
    let ended = in_block c.args.least 8 c.args.piece.now c.loop-at.at (omega arith) _ c.others_in_eight-others.ensures (omega arith) (omega arith) in
    omega (arith, ended, c.loop-at.invariant.0)

pub loop-at-preserved : goal.loop-at-preserved
loop-at-preserved c =
    let passed = past_block c.args.least 8 c.args.piece.now c.loop-at.at (omega arith) (omega (arith, c.others_in_eight-others.ensures)) in
    (omega (arith, passed, c.loop-at.invariant.0), omega arith)
