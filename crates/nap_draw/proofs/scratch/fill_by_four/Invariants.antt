use Rattle.nap_draw.proofs.{Execution.Threes, length, moves, operand_words, points_reached, ◌≡◌}
use Rattle.nap_draw.proofs.scratch.fill_by_four.Given as goal

abbrev pub invariant-loop-rest : goal.invariant-loop-rest
invariant-loop-rest l = record {
  vacant : l.scratch.cap ≡ 0;
  threes : Threes (points_reached l.fn.from (moves 3 (operand_words l.fn.run))) (points_reached l.walk (moves 3 (operand_words l.rest))) l.fn.run l.rest l.points l.fn.scratch.cap;
}

abbrev pub decreases-loop-rest : goal.decreases-loop-rest
decreases-loop-rest l = length l.rest
