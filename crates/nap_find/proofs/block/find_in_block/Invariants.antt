use Rattle.std.proofs.Common.{length, ◌+◌, ◌-◌, ◌≤◌}
use Rattle.nap_find.specs.Verdicts.{block_of, block_within}
use Rattle.nap_find.proofs.BlockLemmas.{Goes}
use Rattle.nap_find.proofs.block.find_in_block.Given as goal

abbrev pub invariant-loop : goal.invariant-loop
invariant-loop l = record {
  goes : Goes l.place l.fn.found.finds.items l.fn.found.passed (block_of l.asked l.more l.row) l.found.finds.items l.found.passed (block_within l.asked l.more l.row (length l.row + 1 - l.counter) l.at);
  within : l.at ≤ length l.row;
}
