use Rattle.nap_draw.proofs.{length, operand_words, run_limit, take, ◌≡◌}
use Rattle.nap_draw.proofs.copied.word_bytes.Given as goal

abbrev pub invariant-loop-at : goal.invariant-loop-at
invariant-loop-at l = record {
  size : length l.bytes ≡ run_limit;
  words : operand_words (take l.at l.bytes) ≡ take l.at l.run;
}
