use Rattle.nap_reader.proofs.{Consumes-kept, Consumes-nil, Err, Ok, [], append-nil, arith, err_from_is_err_and, feeds, gives_more, inl, inr, or-false, or-true, refl, sym, take, ◌++◌, ◌∙◌, FeedFault}
use Rattle.nap_reader.proofs.feeding.feed_from.Goals as goal

-- a read failed
pub returns-in_default-clause-feeds : goal.returns-in_default-clause-feeds
returns-in_default-clause-feeds g c =
    let (p, k, had_read) = c.loop.invariant.read in
    let failed = c.in_default.ensures in
    feeds k (c.loop.invariant.budget, c.loop.invariant.unrefused) had_read p [] (sym (append-nil p)) (Consumes-kept _ _ _ [] (Consumes-nil _) failed.bytes, omega (arith, failed.calls)) (Err FeedFault.Read) (
      inl (record {
        failed = failed.failed ∙ or-true _;
        some = omega (arith, failed.calls, k.calls, c.requires.calls, k.few);
        gave = omega (arith, failed.calls, k.calls, c.requires.calls, k.few);
      }),
      c.loop.invariant.unrefused,
    ) (λ s h. (h, tt))

-- the input ended
pub returns-then-count-eq0-clause-feeds : goal.returns-then-count-eq0-clause-feeds
returns-then-count-eq0-clause-feeds g c =
    let (p, k, had_read) = c.loop.invariant.read in
    let none = rw c.if-count-eq0.true at c.in-Ok.ensures.bytes.0 in
    feeds k (c.loop.invariant.budget, c.loop.invariant.unrefused) had_read p [] (sym (append-nil p)) (none, omega (arith, c.in-Ok.ensures.calls)) (Ok tt) (
      record {
        none_failed = c.in-Ok.ensures.failed ∙ or-false _ ∙ k.flag;
        end = c.in-Ok.ensures.bytes.1 c.if-count-eq0.true (omega (arith, c.read.auto.room, c.loop.invariant.room, c.requires.room));
        gave = omega (arith, c.in-Ok.ensures.calls, k.calls, c.requires.calls, k.few);
      },
      c.loop.invariant.unrefused,
    ) (λ s h. (h, tt))

-- the piece was refused
pub returns-in_err-feed-clause-feeds : goal.returns-in_err-feed-clause-feeds
returns-in_err-feed-clause-feeds g c =
    let (p, k, had_read) = c.loop.invariant.read in
    let piece = take c.in-Ok.count c.read.new.room in
    let (n, stops) = c.in_err-feed.ensures.stops c.loop.invariant.unrefused in
    let fault = err_from_is_err_and c.from_residual.result c.from_residual.ensures.1 in
    rw (fault.1, fault.2) (feeds k (c.loop.invariant.budget, c.loop.invariant.unrefused) had_read (p ++ piece) piece refl (c.in-Ok.ensures.bytes.0, omega (arith, c.in-Ok.ensures.calls)) (Err (FeedFault.Refused c.in_err-feed.field-0.0))
    (c.in-Ok.ensures.failed ∙ or-false _ ∙ k.flag, c.in_err-feed.ensures.answered) (λ s h. (c.feed.ensures.has_read s p h, (n, stops.within, rw c.loop.invariant.budget at (stops.there s p h)))))

pub loop-preserved : goal.loop-preserved
loop-preserved g c =
    let (p, k, had_read) = c.loop.invariant.read in
    let piece = take c.in-Ok.count c.read.new.room in
    let read = c.in-Ok.ensures in
    record {
      room = omega (arith, c.read.auto.room, c.loop.invariant.room);
      budget = c.feed.ensures.budget ∙ c.loop.invariant.budget;
      unrefused = c.in_ok-feed.ensures.answered;
      fed = omega (arith, c.in_ok-feed.ensures.fed, c.loop.invariant.fed, read.bound.0, read.bound.1, c.read.auto.room, c.loop.invariant.room);
      clear = λ before. c.in_ok-feed.ensures.clear (c.loop.invariant.clear before);
      read = (
        p ++ piece,
        gives_more k piece (omega (arith, read.calls, k.calls, c.requires.calls, k.few, c.loop-test.true)) read.failed read.bytes.0 (omega (arith, read.bound.1, c.if-count-eq0.false)),
        λ s h. c.feed.ensures.has_read s p (had_read s h),
      );
    }

-- there were too many reads
pub returns-clause-feeds : goal.returns-clause-feeds
returns-clause-feeds g c =
    let (p, k, had_read) = c.loop.invariant.read in
    feeds k (c.loop.invariant.budget, c.loop.invariant.unrefused) had_read p [] (sym (append-nil p)) (Consumes-nil _, omega arith) (Err FeedFault.Read)
    (inr (record { none_failed = k.flag; often = omega (arith, k.calls, c.loop-test.false); gave = omega (arith, k.few, c.loop-test.false) }), c.loop.invariant.unrefused) (λ s h. (h, tt))
