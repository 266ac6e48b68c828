use Rattle.nap_make.proofs.{Err, FeedLemmas.put_more, Fits, [], ap, append-nil, subst}
use Rattle.nap_make.proofs.lines.maker.LineMaker.put_entry.Goals as goal

pub returns-in-Ok-clause-puts : goal.returns-in-Ok-clause-puts
returns-in-Ok-clause-puts g c s es holds proper =
    put_more g.S.Sink (record { sink = c.put.new.self; state = c.step.new.self; lines = c.args.line; opening = c.opening_after-self.result }) holds proper
    (c.fits.ensures.0 c.if-not-fits.false) g.met.S.Sink.took_more c.in-Ok.ensures.took (λ fails. let bad = c.in-Ok.ensures.only_write fails in cc) c.step.ensures c.requires.line
    c.opening_after-self.ensures.open c.opening_after-self.ensures.closed

pub returns-in-Err-Write-clause-puts : goal.returns-in-Err-Write-clause-puts
returns-in-Err-Write-clause-puts g c s es holds proper =
    let e = c.args.entry in
    let write = ap Err c.in-Err-Write.field-0-is in
    let broke = g.met.S.Sink.took_broke s c.args.self.now.sink c.put.new.self es [] e holds.kept.took (c.in-Err-Write.ensures.broke write holds.kept.works) in (
      subst (λ u. Fits u e) holds.state (c.fits.ensures.0 c.if-not-fits.false),
      record { broke = subst (λ d. g.S.Sink.broke s d e c.put.new.self) (append-nil es) broke; failed = c.in-Err-Write.ensures.write write },
    )
