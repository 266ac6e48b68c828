use Rattle.nap_make.proofs.{Bool, Consumes, Consumes-kept, Consumes-trans, [], ap, append-nil, arith, err_from_is_err_and, false, inl, inr, length, length-append, or-false, or-true, subst, take, ◌++◌, ◌||◌, ◌∙◌, ◌≡◌}
use Rattle.nap_make.proofs.lines.feed_from.Goals as goal

-- a call that doesn't fail keeps the flag
flag_stays : (first before after : Bool) → before ≡ first → after ≡ (before || false) → after ≡ first
flag_stays first before after h k = k ∙ or-false before ∙ h

-- a read failed
pub returns-in_default-clause-feeds : goal.returns-in_default-clause-feeds
returns-in_default-clause-feeds g c =
    let (p, read, gave, has_read) = c.loop.invariant.read in (
      p,
      Consumes-kept _ _ _ p read c.in_default.ensures.bytes,
      λ s h. (
        inl (record {
          failed = c.in_default.ensures.failed ∙ or-true _;
          some = omega (arith, c.in_default.ensures.calls, c.loop.invariant.calls, c.requires.calls, gave);
          gave = omega (arith, c.in_default.ensures.calls, c.loop.invariant.calls, c.requires.calls, gave);
        }),
        c.loop.invariant.ready,
        has_read s h,
      ),
    )

-- the input ended
pub returns-then-count-eq0-clause-feeds : goal.returns-then-count-eq0-clause-feeds
returns-then-count-eq0-clause-feeds g c =
    let (p, read, gave, has_read) = c.loop.invariant.read in
    let piece = take c.in-Ok.count c.read.new.room in
    let none : piece ≡ [] = ap (λ n. take n c.read.new.room) c.if-count-eq0.true in
    let same : p ++ piece ≡ p = ap (p ++◌) none ∙ append-nil p in (
      p,
      subst (Consumes (g.I.Inlet.left c.args.input.now) (g.I.Inlet.left c.read.new.self)) same (Consumes-trans _ _ _ p piece read c.in-Ok.ensures.bytes.0),
      λ s h. (
        record {
          none_failed = flag_stays _ _ _ c.loop.invariant.flag c.in-Ok.ensures.failed;
          end = c.in-Ok.ensures.bytes.1 c.if-count-eq0.true (omega (arith, c.read.auto.room, c.loop.invariant.buffer, c.requires.buffer));
          gave = omega (arith, c.in-Ok.ensures.calls, c.loop.invariant.calls, c.requires.calls, gave);
        },
        has_read s h,
      ),
    )

-- the lines make no list
pub returns-in_err-feed-clause-feeds : goal.returns-in_err-feed-clause-feeds
returns-in_err-feed-clause-feeds g c =
    let (p, read, gave, has_read) = c.loop.invariant.read in
    let piece = take c.in-Ok.count c.read.new.room in
    let few : c.in-Ok.count ≡ length piece = c.in-Ok.ensures.bound.1 in
    let fault = err_from_is_err_and c.from_residual.result c.from_residual.ensures.1 in (
      p ++ piece,
      Consumes-trans _ _ _ p piece read c.in-Ok.ensures.bytes.0,
      λ s h. rw (fault.1, fault.2) (
        flag_stays _ _ _ c.loop.invariant.flag c.in-Ok.ensures.failed,
        omega (arith, length-append p piece, few, c.in-Ok.ensures.calls, c.loop.invariant.calls, c.requires.calls, gave, c.if-count-eq0.false),
        c.in_err-feed.ensures.feeds s p (has_read s h),
      ),
    )

pub loop-preserved : goal.loop-preserved
loop-preserved g c =
    let (p, read, gave, has_read) = c.loop.invariant.read in
    let piece = take c.in-Ok.count c.read.new.room in
    let few : c.in-Ok.count ≡ length piece = c.in-Ok.ensures.bound.1 in
    record {
      buffer = omega (arith, c.read.auto.room, c.loop.invariant.buffer);
      calls = omega (arith, c.in-Ok.ensures.calls, c.loop.invariant.calls, c.requires.calls, gave, c.loop-test.true);
      flag = flag_stays _ _ _ c.loop.invariant.flag c.in-Ok.ensures.failed;
      ready = c.in_ok-feed.ensures.ready;
      read = (
        p ++ piece,
        Consumes-trans _ _ _ p piece read c.in-Ok.ensures.bytes.0,
        omega (arith, length-append p piece, few, gave, c.if-count-eq0.false),
        λ s h. c.in_ok-feed.ensures.feeds s p (has_read s h),
      );
    }

-- there were too many reads
pub returns-clause-feeds : goal.returns-clause-feeds
returns-clause-feeds g c =
    let (p, read, gave, has_read) = c.loop.invariant.read in (
      p,
      read,
      λ s h. (
        inr (record {
          none_failed = c.loop.invariant.flag;
          often = omega (arith, c.loop.invariant.calls, c.loop-test.false);
          gave = omega (arith, gave, c.loop-test.false);
        }),
        c.loop.invariant.ready,
        has_read s h,
      ),
    )
