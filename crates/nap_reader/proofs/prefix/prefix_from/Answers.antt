use Rattle.nap_reader.proofs.{arith, in_block, past_block, sym}
use Rattle.nap_reader.proofs.prefix.prefix_from.Goals as goal

pub returns-then-others-ne0 : goal.returns-then-others-ne0
returns-then-others-ne0 c = sym (in_block c.args.least 16 c.args.piece.now 0 (omega arith) _ c.others_in_sixteen-others.ensures (omega arith) (omega arith))

pub loop-at-init : goal.loop-at-init
loop-at-init c =
    elim c.if-piece-ge16.branch [
      | goal.then-piece-ge16+else-others-ne0 w ↦
          let passed = past_block c.args.least 16 c.args.piece.now 0 (omega (arith, w.if-piece-ge16.true)) (omega (arith, w.others_in_sixteen-others.ensures, w.if-others-ne0.false)) in
          rw w.at-is (passed, omega (arith, w.if-piece-ge16.true))
      | goal.else-piece-ge16 w ↦ rw w.at-is (omega arith, omega arith)
    ]

pub returns-then-others-ne0-2 : goal.returns-then-others-ne0-2
returns-then-others-ne0-2 c =
    omega (arith, (in_block c.args.least 32 c.args.piece.now c.loop-at.at (omega arith) _ c.others_in-others.ensures (omega arith) (omega arith)), c.loop-at.invariant.0)

pub loop-at-preserved : goal.loop-at-preserved
loop-at-preserved c =
    let passed = past_block c.args.least 32 c.args.piece.now c.loop-at.at (omega arith) (omega (arith, c.others_in-others.ensures)) in
    (omega (arith, passed, c.loop-at.invariant.0), omega arith)
