use Rattle.nap_draw.proofs.{Runs.bytes_turn, ap, arith, displaced_point, refl, ◌∙◌}
use Rattle.nap_draw.proofs.Execution.{filling_none, moved, moved_none, threes_more}
use Rattle.nap_draw.proofs.scratch.fill_steps_of_three.Goals as goal

pub loop-rest-preserved : goal.loop-rest-preserved
loop-rest-preserved c = record {
  vacant = c.loop-rest.invariant.vacant;
  threes = threes_more _ c.loop-rest.invariant.threes (omega arith) c.split_at.ensures.back (rw c.split_at.ensures.back c.in-Some.ensures.some)
      c.push_reserved.ensures.items c.push_reserved.ensures.len c.push_reserved.ensures.capacity;
}

pub returns-in_default-advance-clause-err : goal.returns-in_default-advance-clause-err
returns-in_default-advance-clause-err c =
    let cut = bytes_turn 3 3 c.loop-rest-2.rest.now _ _ (omega arith) (omega arith) (omega arith) c.split_at-in-loop-rest-2.ensures.front c.split_at-in-loop-rest-2.ensures.back in
    (refl, filling_none c.loop-rest-2.invariant.threes.filling (moved_none _ c.loop-rest-2.walk cut (c.advance.ensures.point ∙ ap (displaced_point c.loop-rest-2.walk) c.multi_bytes.ensures) c.in_default-advance.is))

pub loop-rest-2-preserved : goal.loop-rest-2-preserved
loop-rest-2-preserved c =
    let cut = bytes_turn 3 3 c.loop-rest-2.rest.now _ _ (omega arith) (omega arith) (omega arith) c.split_at-in-loop-rest-2.ensures.front c.split_at-in-loop-rest-2.ensures.back in
    let is = rw c.in-Some-advance.is at (moved _ _ cut (c.advance.ensures.point ∙ ap (displaced_point c.loop-rest-2.walk) c.multi_bytes.ensures) c.advance.ensures.place) in
    record {
      vacant = c.loop-rest-2.invariant.vacant;
      threes = threes_more _ c.loop-rest-2.invariant.threes (omega arith) c.split_at-in-loop-rest-2.ensures.back is
          c.push_reserved-in-loop-rest-2.ensures.items c.push_reserved-in-loop-rest-2.ensures.len c.push_reserved-in-loop-rest-2.ensures.capacity;
    }
