use Rattle.nap_draw.proofs.{Common.operands, Entry, EqualCurrent, Execution.does_as, Execution.does_put, Execution.does_stop, List, PutsSoFar, Results.blink_none, Results.blink_some, Runs.byte_operands_none, Runs.carried_length, Walks.blink_left, Walks.blink_stays, Walks.left_by, Walks.stays_fit, ap, arith, blink, chunks_rest, chunks_size, clears_nothing, colour_only, length, map, nat_tests, one_fits, one_goes, one_stops, operand_words, put_begins, put_ends, refl, rules, subst, sym, ℕ, ◌+◌, ◌∙◌, ◌≡◌}
use Rattle.nap_draw.proofs.work.Work.blink.Goals as goal

pub returns-then-is_empty : goal.returns-then-is_empty
returns-then-is_empty g c =
    does_as g.S.Sink clears_nothing _ _ _ _ _ _ (blink_none c.args.self.now _ (grind (arith, nat_tests, carried_length))) c.put_and_set_pen.ensures.does

pub put_and_set_pen-requires : goal.put_and_set_pen-requires
put_and_set_pen-requires g c =
    let s = c.args.self.now.state in
    let current : EqualCurrent (colour_only s.drawing.colour) s.drawing = record { pen = tt; pel = tt; colour = refl; texture = tt; text = tt } in
    record {
      agrees = c.requires;
      follows = record { holds = current; made = tt; comes = tt };
      leaves = left_by s (Entry.BlinkEnd s.drawing.colour) current c.requires.drawing.mode;
    }

pub loop-group-init : goal.loop-group-init
loop-group-init g c =
    let k = c.args.self.now.domain.single in
    let size : chunks_size c.into_iter-group-iterator.result ≡ c.args.self.now.domain.single + 3 = search rules in
    let all : chunks_rest c.into_iter-group-iterator.result ≡ c.args.run.now = search rules in
    let entries = λ (run : List ℕ). map (blink k c.args.self.now.state.drawing.colour) (operands (k + 3) (operand_words run)) in
    record {
      can = omega arith;
      finite = tt;
      size = size;
      putting = subst (λ (run : List ℕ). PutsSoFar g.S.Sink c.args.sink.now c.args.sink.now (entries c.args.run.now) (entries run))
          (sym all) (put_begins _ _ _ (g.met.S.Sink.took_none _));
    }

pub put-requires : goal.put-requires
put-requires g c =
    let inv = c.loop-group.invariant in
    let s = c.args.self.now.state in
    let k = c.args.self.now.domain.single in
    one_fits _ _ _ _ _ _ c.blink_of.result inv.putting (blink_left k _ _ _ inv.size c.in-Some.ensures.steps.1 c.blink_of.ensures)
    (stays_fit (blink_stays s.drawing k c.requires.drawing.mode) s s.last (operands (k + 3) (operand_words c.args.run.now)) _ c.requires).0

pub loop-group-preserved : goal.loop-group-preserved
loop-group-preserved g c =
    let inv = c.loop-group.invariant in
    let steps = c.in-Some.ensures.steps in
    let put = c.in_ok-put.ensures in
    record {
      can = omega (arith, steps.0, inv.can);
      finite = tt;
      size = steps.0 ∙ inv.size;
      putting = one_goes _ _ _ _ _ inv.putting g.met.S.Sink.took_more _ c.blink_of.result _ (blink_left c.args.self.now.domain.single _ _ _ inv.size steps.1 c.blink_of.ensures)
          put.took put.after put.only_write put.refuses;
    }

pub returns-in_err-put : goal.returns-in_err-put
returns-in_err-put g c =
    let inv = c.loop-group.invariant in
    does_stop g.S.Sink clears_nothing _ _ _ _ _ _ c.from_residual.ensures.1 (blink_some c.args.self.now _ c.requires.drawing.mode (grind (arith, nat_tests, carried_length)))
    (one_stops _ (Unit {0}) _ _ _ _ inv.putting (g.met.S.Sink.took_none _) g.met.S.Sink.took_more g.met.S.Sink.took_broke g.met.S.Sink.wants_more _ c.blink_of.result _ _
    (blink_left c.args.self.now.domain.single _ _ _ inv.size c.in-Some.ensures.steps.1 c.blink_of.ensures) (grind arith))

pub returns : goal.returns
returns g c =
    let k = c.args.self.now.domain.single in
    does_put g.S.Sink clears_nothing ⊥ c.args.self.now _ _ (tt {0}) (blink_some c.args.self.now _ c.requires.drawing.mode (grind (arith, nat_tests, carried_length)))
    (put_ends _ _ _ _ _ c.loop-group.invariant.putting (ap (map (blink k c.args.self.now.state.drawing.colour)) (byte_operands_none (k + 3) _ c.in-None.ensures.steps.1.0)))
