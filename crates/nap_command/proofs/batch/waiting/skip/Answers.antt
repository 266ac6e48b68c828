use Rattle.nap_command.proofs.{Consumes-trans, arith, length-append, ◌++◌, ◌∙◌}
use Rattle.nap_command.proofs.batch.waiting.skip.Goals as goal

pub loop-preserved : goal.loop-preserved
loop-preserved g c =
    let inv = c.loop.invariant in
    let (piece, read, size, most, end, flag) = c.in-Ok.ensures.reads in
    let all = length-append inv.bytes piece in
    record {
      scratch = c.read_some.ensures.space ∙ inv.scratch;
      bytes = inv.bytes ++ piece;
      read = Consumes-trans _ _ _ inv.bytes piece inv.read read;
      size = omega (arith, all, size, most, inv.size);
      some = omega (arith, all, size, inv.some, c.if-count-eq0.false);
      flag = flag ∙ inv.flag;
    }
