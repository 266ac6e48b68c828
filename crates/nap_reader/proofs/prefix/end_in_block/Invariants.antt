use Rattle.nap_reader.proofs.{LeavesOthers}
use Rattle.nap_reader.proofs.prefix.end_in_block.Given as goal

-- the bits left tell which bytes may not belong to the text
abbrev pub invariant-loop-rest : goal.invariant-loop-rest
invariant-loop-rest l = LeavesOthers l.piece l.at l.rest

abbrev pub decreases-loop-rest : goal.decreases-loop-rest
decreases-loop-rest l = l.rest
