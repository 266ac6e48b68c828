use Rattle.nap_make.proofs.{Err, Makes, MakesList, PageLemmas.makes_none, Common.reading, subst, sym}
use Rattle.nap_make.proofs.lines.make_list.Goals as goal

pub returns-in-Err-clause-makes : goal.returns-in-Err-clause-makes
returns-in-Err-clause-makes g c =
    let (p, read, feeds) = c.in-Err.ensures.feeds in
    let seen = reading g.I.Inlet c.args.input.now c.feed_from.new.input in
    let f = c.in-Err.fault in (
      p,
      read,
      subst (λ t. Makes g.S.Sink c.args.sink p seen t (Err f)) (sym c.into_sink.ensures)
          (makes_none g.S.Sink c.args.sink p seen c.feed_from.new.reader f (feeds c.args.sink c.new-reader.ensures.has_read)),
    )

pub returns-in-Ok-clause-makes : goal.returns-in-Ok-clause-makes
returns-in-Ok-clause-makes g c =
    let (p, read, feeds) = c.in_default.ensures.feeds in
    let h = feeds c.args.sink c.new-reader.ensures.has_read in (
      p,
      read,
      (h.0, subst (λ t. MakesList g.S.Sink c.args.sink p t) (sym c.into_sink-sink.ensures) (c.in-Ok.ensures c.args.sink p h.1).0),
    )
