use Rattle.nap_reader.proofs.{[], budget_of, ends_at_end, err_from_is_err_and, leads_unrefused, piece_ends, refused_early, sink_of, ◌∙◌}
use Rattle.nap_reader.proofs.feeding.read_stream.Goals as goal

-- the stream is refused before its end
pub returns-in_err-feed : goal.returns-in_err-feed
returns-in_err-feed g c =
    let begun = c.new-reader.ensures in
    let feed = c.in_err-feed.ensures in
    let e = err_from_is_err_and c.from_residual.result c.from_residual.ensures.1 in
    rw (e.1, e.2) (record { collects = refused_early g.S.Sink c.args.sink c.args.budget c.args.stream.now (sink_of c.feed.new.self) c.in_err-feed.field-0.0 (piece_ends begun.budget (feed.failed begun.unrefused) begun.has_read (feed.stops begun.unrefused)) })

-- it is refused at its end
pub returns-in-Err : goal.returns-in-Err
returns-in-Err g c =
    let begun = c.new-reader.ensures in
    let live = c.in_ok-feed.ensures.answered in
    let has_read = c.feed.ensures.has_read c.args.sink [] begun.has_read in
    let end = c.in-Err.ensures in
    record {
      collects = refused_early g.S.Sink c.args.sink c.args.budget c.args.stream.now c.in-Err.stopped.sink c.in-Err.stopped.refusal
          (rw (c.feed.ensures.budget ∙ begun.budget) at (ends_at_end g.S.Sink c.args.sink (budget_of c.feed.new.self) c.in-Err.stopped.sink c.in-Err.stopped.refusal (end.failed live) c.args.stream.now (leads_unrefused (has_read.continues live))
          (λ own. (end.err own c.args.sink c.args.stream.now has_read).0) (λ broke. end.breaks live broke c.args.sink c.args.stream.now has_read)));
    }
