use Rattle.nap_draw.proofs.{Execution.filling_four, arith}
use Rattle.nap_draw.proofs.scratch.fill_by_four.Goals as goal

pub loop-rest-preserved : goal.loop-rest-preserved
loop-rest-preserved c =
    let t = c.loop-rest.invariant.threes in
    let one = c.push_reserved.ensures in
    let two = c.push_reserved-in-loop-rest.ensures in
    let three = c.push_reserved-in-loop-rest-2.ensures in
    let four = c.push_reserved-in-loop-rest-3.ensures in
    record {
      vacant = c.loop-rest.invariant.vacant;
      threes = record {
        room = omega (arith, t.room, c.split_at.ensures.back_len, one.len, one.capacity, two.len, two.capacity, three.len, three.capacity, four.len, four.capacity);
        few = omega (arith, t.few, c.split_at.ensures.back_len, one.len, two.len, three.len, four.len);
        space = omega (arith, t.space, one.capacity, two.capacity, three.capacity, four.capacity);
        filling = rw c.split_at.ensures.back (filling_four _ _ _ _ _ _ _ _ _ _ _ _ t.filling c.in-Some.ensures.some one.items two.items three.items four.items);
      };
    }
