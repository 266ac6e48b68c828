use Rattle.nap_values.proofs.{length, operand_words, replicate, take, ◌++◌, ◌-◌, ◌≡◌}
use Rattle.nap_values.proofs.operand.padded_bytes.Given as goal

abbrev pub invariant-loop-at : goal.invariant-loop-at
invariant-loop-at l = record {
  size : length l.bytes ≡ 8;
  words : operand_words l.bytes ≡ take l.at l.run ++ replicate (8 - l.at) 0;
}
