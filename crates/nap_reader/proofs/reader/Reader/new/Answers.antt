use Rattle.nap_reader.proofs.{[], arith, begins, has_read_by}
use Rattle.nap_reader.proofs.reader.Reader.new.Goals as goal

pub returns-clause-has_read : goal.returns-clause-has_read
returns-clause-has_read g c =
    has_read_by _ c.args.sink [] c.new.ensures.none.1 c.new-2.ensures.counts.0
    (rw (c.new.ensures.work, c.new.ensures.lexer, c.new.ensures.none.0, c.new.ensures.sink, c.new-2.ensures.store, c.new-2.ensures.none.0)
    (begins g.S.Sink c.args.sink c.new-2.result.budget _ (omega (arith, c.new-2.ensures.counts.2)) (g.met.S.Sink.took_none c.args.sink)))
