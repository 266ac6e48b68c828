use Rattle.nap_draw.proofs.{Entry, Execution.does_put, Execution.does_stop, Execution.sets_does, List, Ok, Results.wait_none, Results.wait_some, Runs.carried_length, Walks.pause_left, Walks.stays_fit, Walks.wait_stays, ap, arith, clears_nothing, drop_all, length, map, nat_tests, one_fits, one_goes, one_stops, operand_words, put_begins, put_ends, refl, ℕ}
use Rattle.nap_draw.proofs.work.Work.wait.Goals as goal

pub returns-then-is_empty : goal.returns-then-is_empty
returns-then-is_empty g c =
    sets_does g.S.Sink c.args.sink.now (g.met.S.Sink.took_none _) ⊥ _ c.args.self.now _ (Ok (tt {0})) (ap Ok (wait_none c.args.self.now _ (grind (arith, nat_tests, carried_length))))

pub loop-byte-init : goal.loop-byte-init
loop-byte-init g c = put_begins _ _ _ (g.met.S.Sink.took_none _)

pub put-requires : goal.put-requires
put-requires g c =
    let s = c.args.self.now.state in
    one_fits _ _ _ _ _ _ (Entry.Wait c.of_byte.result) c.loop-byte.invariant (pause_left c.args.run.now c.loop-byte.byte-index c.of_byte.result c.loop-byte-test.true c.of_byte.ensures)
    (stays_fit (wait_stays s.drawing) s s.last (operand_words c.args.run.now) _ c.requires).0

pub loop-byte-preserved : goal.loop-byte-preserved
loop-byte-preserved g c =
    let put = c.in_ok-put.ensures in
    one_goes _ _ _ _ _ c.loop-byte.invariant g.met.S.Sink.took_more _ (Entry.Wait c.of_byte.result) _ (pause_left c.args.run.now c.loop-byte.byte-index c.of_byte.result c.loop-byte-test.true c.of_byte.ensures)
    put.took put.after put.only_write put.refuses

pub returns-in_err-put : goal.returns-in_err-put
returns-in_err-put g c =
    does_stop g.S.Sink clears_nothing _ _ _ _ _ _ c.from_residual.ensures.1 refl (one_stops _ (Unit {0}) _ _ _ _ c.loop-byte.invariant (g.met.S.Sink.took_none _) g.met.S.Sink.took_more g.met.S.Sink.took_broke g.met.S.Sink.wants_more _ (Entry.Wait c.of_byte.result) _ _
    (pause_left c.args.run.now c.loop-byte.byte-index c.of_byte.result c.loop-byte-test.true c.of_byte.ensures) (grind arith))

pub returns : goal.returns
returns g c =
    does_put g.S.Sink clears_nothing ⊥ c.args.self.now _ _ (tt {0}) (ap Ok (wait_some c.args.self.now _ (grind (arith, nat_tests, carried_length))))
    (put_ends _ _ _ _ _ c.loop-byte.invariant (ap (λ (left : List ℕ). map Entry.Wait (operand_words left)) (drop_all c.loop-byte.byte-index c.args.run.now (omega arith))))
