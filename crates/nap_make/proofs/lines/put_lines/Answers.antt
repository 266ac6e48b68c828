use Rattle.nap_make.proofs.{Err, PageLemmas.puts_all, PageLemmas.puts_none, PutsLines, [], subst, sym}
use Rattle.nap_make.proofs.lines.put_lines.Goals as goal

pub returns-in-Err : goal.returns-in-Err
returns-in-Err g c =
    let p = c.args.lines.now in
    let f = c.in-Err.fault in
    subst (λ t. PutsLines g.S.Sink c.args.sink p t (Err f)) (sym c.into_sink.ensures)
    (puts_none g.S.Sink c.args.sink p _ f (c.in-Err.ensures.feeds c.args.sink [] c.new-reader.ensures.has_read))

pub returns : goal.returns
returns g c =
    let p = c.args.lines.now in
    subst (λ t. PutsLines g.S.Sink c.args.sink p t c.finish-made.result) (sym c.into_sink-2.ensures)
    (puts_all g.S.Sink c.args.sink p _ c.finish-made.result (c.finish-made.ensures c.args.sink p (c.in_default.ensures.feeds c.args.sink [] c.new-reader.ensures.has_read)))
