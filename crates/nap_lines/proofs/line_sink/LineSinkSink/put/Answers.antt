use Rattle.nap_lines.proofs.{append-nil, append_assoc, arith, walk}
use Rattle.nap_lines.proofs.line_sink.LineSinkSink.put.Goals as goal

pub returns-clause-took : goal.returns-clause-took
unfolding walk
returns-clause-took c = grind (arith, append_assoc, append-nil)
