use Rattle.nap_list.proofs.{Putting, batch_entries, drop, sink_model_of}
use Rattle.nap_list.proofs.sink.Sink.put_batch.Given as goal

abbrev pub invariant-loop-taken : goal.invariant-loop-taken
invariant-loop-taken g l = Putting (sink_model_of g.Self.Sink) l.fn.self l.self (batch_entries l.batch) (drop l.taken (batch_entries l.batch))
