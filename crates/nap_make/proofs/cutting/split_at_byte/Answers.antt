use Rattle.nap_make.proofs.{ValueLemmas.no_split, ValueLemmas.one_more, arith, common_steps, ◌+◌}
use Rattle.nap_make.proofs.cutting.split_at_byte.Goals as goal

pub returns-then-bytes-next : goal.returns-then-bytes-next
returns-then-bytes-next c = record {
  joins = grind (arith, common_steps, c.if-bytes-next.true, c.loop-at-test.true);
  first = one_more c.args.byte c.args.bytes.now c.loop-at.at (omega (arith, c.loop-at-test.true)) c.loop-at.invariant.1 c.if-bytes-at.false;
}

pub loop-at-preserved : goal.loop-at-preserved
loop-at-preserved c = (
  omega (arith, c.loop-at-test.true),
  one_more c.args.byte c.args.bytes.now (c.loop-at.at + 1) c.loop-at-test.true
      (one_more c.args.byte c.args.bytes.now c.loop-at.at (omega (arith, c.loop-at-test.true)) c.loop-at.invariant.1 c.if-bytes-at.false) c.if-bytes-next.false,
)

pub returns : goal.returns
returns c prefix back cuts =
    elim c.else-at-bytes.branch [
      | goal.else-at-bytes-via-then-at-bytes+else-bytes-at-2 w ↦ no_split c.args.byte c.args.bytes.now prefix back (c.loop-at.at + 1) c.loop-at-test.false
          (one_more c.args.byte c.args.bytes.now c.loop-at.at w.if-at-bytes.true c.loop-at.invariant.1 w.if-bytes-at-2.false) cuts.joins
      | goal.else-at-bytes-via-else-at-bytes w ↦ no_split c.args.byte c.args.bytes.now prefix back c.loop-at.at w.if-at-bytes.false c.loop-at.invariant.1 cuts.joins
    ]
