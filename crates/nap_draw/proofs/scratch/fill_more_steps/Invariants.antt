use Rattle.nap_draw.proofs.{Coordinates, Filling, List, Option, chunks_rest, chunks_size, length, moves, operand_words, points_reached, true, vec_capacity, vec_len, ◌+◌, ◌<◌, ◌≡◌, ◌≤◌, ◌⊎◌}
use Rattle.nap_draw.proofs.scratch.fill_more_steps.Given as goal

abbrev pub invariant-loop-operand : goal.invariant-loop-operand
invariant-loop-operand l = record {
  can : (goal.iterator-loop-operand).can_next l.operand-iterator;
  finite : (goal.iterator-loop-operand).is_finite l.operand-iterator;
  size : chunks_size l.operand-iterator ≡ l.fn.domain.multi;
  filling : (all : Option (List Coordinates)) → Filling all (points_reached l.fn.walk (moves l.fn.domain.multi (operand_words l.fn.run))) l.fn.lacks (λ prefix. l.fn.scratch.items ≡ prefix) →
      Filling all (points_reached l.walk (moves l.fn.domain.multi (operand_words (chunks_rest l.operand-iterator)))) l.full (λ prefix. l.scratch.items ≡ prefix);
  space : vec_capacity l.fn.scratch ≤ vec_capacity l.scratch;
  few : vec_len l.scratch + length (chunks_rest l.operand-iterator) ≤ vec_len l.fn.scratch + length l.fn.run;
  memory : l.full ≡ true → (l.fn.lacks ≡ true) ⊎ (vec_capacity l.fn.scratch < vec_len l.fn.scratch + length l.fn.run);
}
