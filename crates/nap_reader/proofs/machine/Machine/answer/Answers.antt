use Rattle.nap_reader.proofs.{Lawful, MatchResult-weaker, StoreState, ap, arith, call_goes, call_moved, call_refuses, goes_then, inl, moves_then, no_names, on_ok_by, refl, stop_passes, stops_then, stores_moves, turn_counts, turn_goes, turn_passes, turn_stops, turn_takes, ◌+◌, ◌∙◌}
use Rattle.nap_reader.proofs.machine.Machine.answer.Goals as goal

pub advance-requires : goal.advance-requires
advance-requires g c = turn_passes c.requires.1

pub returns-in-Nothing : goal.returns-in-Nothing
returns-in-Nothing g c = record {
  live = (rw c.in-Nothing.is at c.requires.1).takes.leaves.live;
  run = λ none. none;
  ends = inl (c.advance.ensures.body ∙ c.requires.1.between);
  on = λ stop. cc;
  goes = λ old turn. let t = rw c.in-Nothing.is at turn in turn_goes t c.advance.ensures (turn_takes t) refl t.takes.leaves;
}

pub returns-in-Clear : goal.returns-in-Clear
returns-in-Clear g c =
    let adv = c.advance.ensures in
    let sets = c.clear.ensures in
    record {
      live = (rw c.in-Clear.is at c.requires.1).takes.leaves.live;
      run = λ none. none;
      ends = inl (sets.body ∙ adv.body ∙ c.requires.1.between);
      on = λ stop. cc;
      goes = λ old turn.
          let t = rw c.in-Clear.is at turn in
          turn_goes t (moves_then c.args.taken.count (omega arith) adv (stores_moves sets refl) (ap (λ (store : StoreState). record store { names = no_names }) adv.store_is) adv.body) (turn_takes t) refl t.takes.leaves;
    }

pub call-requires : goal.call-requires
call-requires g c = (turn_takes (rw c.in-Call.is at c.requires.1)).2.named

pub returns-in-Ok : goal.returns-in-Ok
returns-in-Ok g c =
    let adv = c.advance.ensures in
    record {
      live = (rw c.in-Call.is at c.requires.1).takes.leaves.live;
      run = λ none. none;
      ends = inl (c.in-Ok.ensures.body ∙ adv.body ∙ c.requires.1.between);
      on = λ stop. cc;
      goes = λ old turn.
          let t = rw c.in-Call.is at turn in
          let calls = turn_takes t in
          call_goes t calls.1 calls.2 t.takes.leaves (call_moved c.in-Call.name c.args.place adv c.in-Ok.ensures);
    }

pub returns-in-Err-clause-goes : goal.returns-in-Err-clause-goes
returns-in-Err-clause-goes g c =
    let laws : Lawful g.S.Sink = record { more = g.met.S.Sink.took_more; broken = g.met.S.Sink.took_broke; wants = g.met.S.Sink.wants_more; none = g.met.S.Sink.took_none } in
    rw c.refuse.ensures.answer (λ old turn.
    let t = rw c.in-Call.is at turn in
    let calls = turn_takes t in
    call_refuses t calls.1 calls.2 laws t.takes.leaves c.advance.ensures c.in-Err.ensures c.refuse.ensures.latched.is c.refuse.ensures.latched.sink)

pub set_body-requires : goal.set_body-requires
set_body-requires g c = (turn_takes (rw c.in-Define.is at c.requires.1)).0

pub take_body-requires-clause-live : goal.take_body-requires-clause-live
take_body-requires-clause-live g c = (rw c.in-Define.is at c.requires.1).takes.leaves.live

pub take_body-requires-clause-reads : goal.take_body-requires-clause-reads
take_body-requires-clause-reads g c = (turn_counts c.requires.1 (moves_then c.args.taken.count (omega arith) c.advance.ensures (stores_moves c.set_body.ensures refl) refl refl)).reads

pub returns-in-Define-clause-on : goal.returns-in-Define-clause-on
returns-in-Define-clause-on g c = on_ok_by c.take_body.result (λ a is stop. cc)

pub returns-in-Define-clause-goes : goal.returns-in-Define-clause-goes
returns-in-Define-clause-goes g c = λ old turn.
    let t = rw c.in-Define.is at turn in
    let adv = c.advance.ensures in
    let first = turn_goes t (moves_then c.args.taken.count (omega arith) adv (stores_moves c.set_body.ensures refl) adv.store_is refl) (turn_takes t).1 refl t.takes.leaves in
    MatchResult-weaker c.take_body.result c.take_body.ensures.goes (λ _ later. goes_then first later) (λ _ later. stops_then first.on later)

pub advance-requires-in-Stop : goal.advance-requires-in-Stop
advance-requires-in-Stop g c = let t = rw c.in-Stop.is at c.requires.1 in stop_passes t c.advance.ensures (turn_takes t).2

pub returns-in-Stop-clause-goes : goal.returns-in-Stop-clause-goes
returns-in-Stop-clause-goes g c = λ old turn.
    let laws : Lawful g.S.Sink = record { more = g.met.S.Sink.took_more; broken = g.met.S.Sink.took_broke; wants = g.met.S.Sink.wants_more; none = g.met.S.Sink.took_none } in
    let t = rw c.in-Stop.is at turn in
    let stops = turn_takes t in
    turn_stops t laws (moves_then (c.args.taken.count + 1) refl c.advance.ensures c.advance-in-Stop.ensures c.advance.ensures.store_is c.advance.ensures.body) t.takes.leaves stops.1 stops.2
