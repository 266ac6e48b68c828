use Rattle.nap_reader.proofs.{IsTextByte, arith, is_of_text, of_text_is, past_text, prefix_all}
use Rattle.nap_reader.proofs.prefix.text_bytes.Goals as goal

pub returns-in-Some-clause-typed : goal.returns-in-Some-clause-typed
returns-in-Some-clause-typed c = prefix_all IsTextByte is_of_text c.args.piece.now c.in-Some.end of_text_is (omega (arith, c.loop-at.invariant.0, c.in-Some.ensures.0))

pub returns-clause-typed : goal.returns-clause-typed
returns-clause-typed c = prefix_all IsTextByte is_of_text c.args.piece.now c.loop-at-3.at of_text_is (omega (arith, c.loop-at-3.invariant.0))

pub loop-at-2-preserved : goal.loop-at-2-preserved
loop-at-2-preserved c =
    (omega (arith, (past_text 8 c.args.piece.now c.loop-at-2.at (omega arith) (omega (arith, c.others_in_eight.ensures))), c.loop-at-2.invariant.0), omega arith)
