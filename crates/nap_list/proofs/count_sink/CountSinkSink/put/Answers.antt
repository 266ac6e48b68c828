use Rattle.nap_list.proofs.{arith, walk}
use Rattle.nap_list.proofs.count_sink.CountSinkSink.put.Goals as goal

pub returns-clause-took : goal.returns-clause-took
unfolding walk
returns-clause-took c = record { count = omega (arith, c.in-Some.ensures); state = c.after-self.ensures }
