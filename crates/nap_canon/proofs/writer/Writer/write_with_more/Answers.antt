use Rattle.nap_canon.proofs.{List, arith, false, length, length-append, subst, ℕ}
use Rattle.nap_canon.proofs.JoinedEntries.{rest_size, sends_cut, sends_none, sends_whole}
use Rattle.nap_canon.proofs.writer.Writer.write_with_more.Goals as goal

pub overflow_sub-begun : goal.overflow_sub-begun
overflow_sub-begun g c = grind (arith, rest_size, length, length-append)

pub returns-in-Ok-clause-sends : goal.returns-in-Ok-clause-sends
returns-in-Ok-clause-sends g c before none appended rest_current =
    let w = c.args.self.now in
    let more = c.joining_count_after-more in
    let u = c.append_joined.new.self in
    let to = c.write_counted.new.self in
    sends_whole w.form w.state c.args.batch.now c.args.index more.result c.requires rest_current more.ensures.few before none w.pending appended more.ensures.joins
    u c.append_joined.ensures.bytes c.append_joined.ensures.text_end g.T.ByteSink.sent w.target to (subst (λ (bs : List ℕ). g.T.ByteSink.sent w.target bs false to) c.as_slice.ensures c.in-Ok.ensures)

pub returns-then-taken-first_end-clause-sends : goal.returns-then-taken-first_end-clause-sends
returns-then-taken-first_end-clause-sends g c before none appended rest_current = grind (arith, sends_none)

pub returns-else-taken-first_end-clause-sends : goal.returns-else-taken-first_end-clause-sends
returns-else-taken-first_end-clause-sends g c before none appended rest_current = grind (arith, length, sends_cut)
