use Rattle.nap_canon.proofs.{JoinedEntries.joined_cut, JoinedEntries.joined_whole, JoinedEntries.whole_few, arith, opening}
use Rattle.nap_canon.proofs.writer.Writer.put_more.Goals as goal

pub step_from-requires-in-Err-clause-few : goal.step_from-requires-in-Err-clause-few
step_from-requires-in-Err-clause-few g c =
    let w = c.args.self.now in
    whole_few g.T.ByteSink.sent w.target c.write_joined.new.self.target (opening w.pending.text_end c.args.batch.now c.joining_count-count.result) c.args.batch.now c.args.first c.joining_count-count.result c.in-Err.whole
    (omega arith) c.joining_count-count.ensures.few c.in-Err.ensures.sent

pub returns-in-Ok : goal.returns-in-Ok
returns-in-Ok g c =
    joined_whole g.T.ByteSink.sent c.args.self.now c.args.batch.now c.args.first c.joining_count-count.result (omega arith) c.joining_count-count.ensures.few c.requires.current (c.joining_count-count.ensures.joins (omega arith))
    c.in-Ok.ensures c.step_from.ensures

pub returns-in-Err : goal.returns-in-Err
returns-in-Err g c =
    joined_cut g.T.ByteSink.sent c.args.self.now c.args.batch.now c.args.first c.joining_count-count.result (omega arith) c.joining_count-count.ensures.few c.requires.current (c.joining_count-count.ensures.joins (omega arith))
    c.in-Err.ensures c.step_from-in-Err.ensures
