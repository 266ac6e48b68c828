use Rattle.nap_list.proofs.{NotTaken, arith, batch_entries, next_stops, one_fits, one_goes, put_begins, sink_model_of}
use Rattle.nap_list.proofs.sink.Sink.put_batch.Goals as goal

pub loop-taken-init : goal.loop-taken-init
loop-taken-init g c = put_begins (sink_model_of g.Self.Sink) c.args.self.now _ (g.met.Self.Sink.took_none c.args.self.now)

pub put-requires : goal.put-requires
put-requires g c = one_fits (sink_model_of g.Self.Sink) _ _ _ _ _ _ c.loop-taken.invariant c.entry.ensures c.requires

pub returns-in-Err : goal.returns-in-Err
returns-in-Err g c =
    let h = sink_model_of g.Self.Sink in
    let met = g.met.Self.Sink in
    let put = c.in-Err.ensures in
    let is_put : NotTaken h c.loop-taken.self c.put.new.self c.entry.result c.in-Err.fault = search in
    next_stops h c.args.self.now c.loop-taken.self (batch_entries c.args.batch.now) c.loop-taken.taken (omega (arith, c.loop-taken-test.true, c.len-taken-end.ensures)) c.loop-taken.invariant
    (met.took_none c.loop-taken.self) met.took_more met.took_broke met.wants_more c.put.new.self c.entry.result _ c.in-Err.fault c.entry.ensures is_put

pub loop-taken-preserved : goal.loop-taken-preserved
loop-taken-preserved g c =
    let put = c.in_default.ensures in
    one_goes (sink_model_of g.Self.Sink) c.args.self.now c.loop-taken.self (batch_entries c.args.batch.now) _ c.loop-taken.invariant g.met.Self.Sink.took_more c.put.new.self c.entry.result _ c.entry.ensures
    put.took put.after put.only_write put.refuses
