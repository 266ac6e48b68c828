use Rattle.nap_draw.proofs.{Execution.Threes, length, moves, operand_words, points_at, ◌≡◌}
use Rattle.nap_draw.proofs.scratch.fill_whole_points.Given as goal

abbrev pub invariant-loop-block : goal.invariant-loop-block
invariant-loop-block l = record {
  vacant : l.scratch.cap ≡ 0;
  threes : Threes (points_at (moves 3 (operand_words l.fn.run))) (points_at (moves 3 (operand_words l.rest))) l.fn.run l.rest l.points l.fn.scratch.cap;
}

abbrev pub decreases-loop-block : goal.decreases-loop-block
decreases-loop-block l = length l.rest

abbrev pub invariant-loop-rest : goal.invariant-loop-rest
invariant-loop-rest l = record {
  vacant : l.scratch.cap ≡ 0;
  threes : Threes (points_at (moves 3 (operand_words l.fn.run))) (points_at (moves 3 (operand_words l.rest))) l.fn.run l.rest l.points l.fn.scratch.cap;
}

abbrev pub decreases-loop-rest : goal.decreases-loop-rest
decreases-loop-rest l = length l.rest
