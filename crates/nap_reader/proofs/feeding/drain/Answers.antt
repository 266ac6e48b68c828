use Rattle.nap_reader.proofs.{arith, gives_more, take, ◌++◌}
use Rattle.nap_reader.proofs.feeding.drain.Goals as goal

pub loop-preserved : goal.loop-preserved
loop-preserved g c =
    let (p, k) = c.loop.invariant.read in
    let piece = take c.in-Ok.count c.read.new.room in
    record {
      buffer = omega (arith, c.read.auto.room, c.loop.invariant.buffer);
      read = (
        p ++ piece,
        gives_more k piece (omega (arith, c.in-Ok.ensures.calls, k.calls, c.requires.calls, c.loop-test.true)) c.in-Ok.ensures.failed c.in-Ok.ensures.bytes.0
            (omega (arith, c.in-Ok.ensures.bound.1, c.if-count-eq0.false)),
      );
    }
