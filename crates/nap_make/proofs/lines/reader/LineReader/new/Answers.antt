use Rattle.nap_make.proofs.{FeedLemmas.put_none, [], sym}
use Rattle.nap_make.proofs.lines.reader.LineReader.new.Goals as goal

pub returns-clause-has_read : goal.returns-clause-has_read
returns-clause-has_read g c =
    record { entries = []; holds = put_none g.S.Sink c.args.sink c.start.result 0 (g.met.S.Sink.took_none c.args.sink) c.requires.works c.start.ensures; parts = sym c.new.ensures.items }
