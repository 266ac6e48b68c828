use Rattle.nap_make.proofs.{All-append, StopsLines, ValueLemmas.uncut, err_from_is_err_and, subst, sym, ◌++◌, ◌≢◌}
use Rattle.nap_make.proofs.FeedLemmas.{HasReadTo, ended_ready, next_parts, read_before, read_last, read_more, ready_last}
use Rattle.nap_make.proofs.lines.reader.LineReader.feed.Goals as goal

pub loop-next-init : goal.loop-next-init
loop-next-init g c = record { ready = c.requires; read = λ s p has_read. read_before has_read }

pub returns-in_err-rest-clause-feeds : goal.returns-in_err-rest-clause-feeds
returns-in_err-rest-clause-feeds g c s p has_read =
    let f = c.in_err-rest.field-0.0 in
    let e = err_from_is_err_and c.from_residual.result c.from_residual.ensures.1 in
    let prefix = c.in-Some.next.0.now in
    let more = c.in-Some.next.1.now in
    let all = p ++ c.args.piece.now in
    let here = subst (HasReadTo g.S.Sink s all c.loop-next.self) c.in-Some.ensures.joins (c.loop-next.invariant.read s p has_read) in
    rw (e.1, e.2) (subst (λ xs. StopsLines g.S.Sink s xs c.end_line.new.self.maker.sink f) (sym (next_parts prefix more here))
    (c.in_err-rest.ensures.takes s here.entries here.holds))

pub loop-next-preserved : goal.loop-next-preserved
loop-next-preserved g c =
    let prefix = c.in-Some.next.0.now in
    let more = c.in-Some.next.1.now in
    record {
      ready = ended_ready g.S.Sink c.in_ok-rest.ensures.part c.in_ok-rest.ensures.leaves.agrees;
      read = λ s p has_read.
          let all = p ++ c.args.piece.now in
          let here = subst (HasReadTo g.S.Sink s all c.loop-next.self) c.in-Some.ensures.joins (c.loop-next.invariant.read s p has_read) in
          read_more prefix more here (c.in_ok-rest.ensures.takes s here.entries here.holds) c.in_ok-rest.ensures.part;
    }

pub keep_part-requires : goal.keep_part-requires
keep_part-requires g c = (c.loop-next.invariant.ready, uncut 10 c.loop-next.rest.now c.in_default.ensures)

pub returns-clause-ready : goal.returns-clause-ready
returns-clause-ready g c =
    ready_last g.S.Sink c.keep_part.new.self c.loop-next.rest.now c.keep_part.result c.loop-next.invariant.ready (uncut 10 c.loop-next.rest.now c.in_default.ensures)
    c.keep_part.ensures.part c.keep_part.ensures.maker c.keep_part.ensures.short c.keep_part.ensures.memory

pub returns-clause-feeds : goal.returns-clause-feeds
returns-clause-feeds g c s p has_read =
    read_last c.keep_part.new.self c.keep_part.result (c.loop-next.invariant.read s p has_read)
    c.keep_part.ensures.part c.keep_part.ensures.maker
    (All-append (λ b. b ≢ 10) c.loop-next.self.part.items c.loop-next.rest.now c.loop-next.invariant.ready.whole (uncut 10 c.loop-next.rest.now c.in_default.ensures)) c.keep_part.ensures.keeps
