use Rattle.nap_values.proofs.{DigitLemmas.IsSumSoFar, ◌%◌}
use Rattle.nap_values.proofs.operand.single_bytes.Given as goal

abbrev pub invariant-loop-byte : goal.invariant-loop-byte
invariant-loop-byte l = IsSumSoFar 64 4 (λ byte. byte % 64) l.operand l.byte-index l.unit l.number
