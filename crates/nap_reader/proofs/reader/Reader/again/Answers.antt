use Rattle.nap_reader.proofs.{[], arith, begins, has_read_by}
use Rattle.nap_reader.proofs.reader.Reader.again.Goals as goal

pub returns-in-Ok-clause-has_read : goal.returns-in-Ok-clause-has_read
returns-in-Ok-clause-has_read g c =
    let machine = c.in_ok-first.ensures in
    let input = c.in-Ok.ensures in
    has_read_by _ c.args.sink [] machine.none.1 input.counts.0
    (rw (machine.work, machine.lexer, machine.none.0, machine.sink, input.store, input.none.0)
    (begins g.T.Sink c.args.sink c.in-Ok.input.budget _ (omega (arith, input.counts.2)) (g.met.T.Sink.took_none c.args.sink)))
