use Rattle.nap_values.proofs.{DigitLemmas.IsSumSoFar-all, DigitLemmas.IsSumSoFar-more, arith, refl, single_of, ◌∙◌}
use Rattle.nap_values.proofs.operand.single_bytes.Goals as goal

pub loop-byte-preserved : goal.loop-byte-preserved
loop-byte-preserved c =
    rw c.from.ensures (IsSumSoFar-more 64 4 _ _ _ _ _ c.loop-byte.invariant _ (omega arith) c.loop-byte-test.true (omega arith) refl (omega arith))

pub returns : goal.returns
unfolding single_of
returns c = c.new.ensures ∙ IsSumSoFar-all 64 4 _ _ _ _ _ c.loop-byte.invariant c.loop-byte-test.false
