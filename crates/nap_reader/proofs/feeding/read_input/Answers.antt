use Rattle.nap_reader.proofs.{Ok, Err, ap, arith, budget_of, collected, ends_at_end, err_from_is_err_and, leads_unrefused, reads_limit, refused_early, ◌-◌, ◌∙◌}
use Rattle.nap_reader.proofs.feeding.read_input.Goals as goal

-- the rest of the input was cut off
pub returns-in_err-drain-in-Err-Refused-clause-collected : goal.returns-in_err-drain-in-Err-Refused-clause-collected
returns-in_err-drain-in-Err-Refused-clause-collected g c =
    let refused = rw c.in-Err-Refused.field-0-is at c.in-Err-Refused.ensures in
    let e = err_from_is_err_and c.from_residual.result c.from_residual.ensures.1 in
    rw (e.1) (collected c.drain.new.input (reads_limit - (c.calls.result - c.calls-before.result)) c.new-reader.ensures.budget c.new-reader.ensures.has_read (refused.fails (ap g.S.Sink.failed c.new-reader.ensures.sink ∙ c.requires.works)).0 refused.feeds (refused.more, c.drain.ensures.more)
    (omega (arith, c.calls.ensures, c.calls-before.ensures, refused.few, refused.more)) (Err c.in_err-drain-in-Err-Refused.field-0.0) c.in_err-drain-in-Err-Refused.ensures.read)

-- the input was read to its end
pub returns-clause-collected : goal.returns-clause-collected
returns-clause-collected g c =
    let refused = rw c.in-Err-Refused.field-0-is at c.in-Err-Refused.ensures in
    collected c.drain.new.input (reads_limit - (c.calls.result - c.calls-before.result)) c.new-reader.ensures.budget c.new-reader.ensures.has_read (refused.fails (ap g.S.Sink.failed c.new-reader.ensures.sink ∙ c.requires.works)).0 refused.feeds (refused.more, c.drain.ensures.more)
    (omega (arith, c.calls.ensures, c.calls-before.ensures, refused.few, refused.more)) (Ok tt) c.in_ok-drain-in-Err-Refused.ensures.read

-- the page is refused at its end
pub returns-in-Ok-clause-collected : goal.returns-in-Ok-clause-collected
returns-in-Ok-clause-collected g c =
    let begun = c.new-reader.ensures in
    let (p, given, fed) = c.in-Ok.ensures.feeds in
    let feeds = fed c.args.sink begun.has_read in
    let (whole, live) = feeds.ends in
    let end = c.in-Err.ensures in (
      p,
      given,
      (
        whole,
        record {
          collects = refused_early g.S.Sink c.args.sink c.args.budget p c.in-Err.stopped.sink c.in-Err.stopped.refusal
              (rw (c.feed_from.ensures.budget ∙ begun.budget) at (ends_at_end g.S.Sink c.args.sink (budget_of c.feed_from.new.reader) c.in-Err.stopped.sink c.in-Err.stopped.refusal (end.failed live) p (leads_unrefused (feeds.has_read.continues live))
              (λ own. (end.err own c.args.sink p feeds.has_read).0) (λ broke. end.breaks live broke c.args.sink p feeds.has_read)));
        },
      ),
    )
