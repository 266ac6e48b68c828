use Rattle.nap_reader.proofs.{RuleResult, RunsWhole, Err, ap, arith, drop, false, length, length-drop, opcode_acts, opcode_stops, refl, run_spares, take_all, true, ◌-◌}
use Rattle.nap_reader.proofs.machine.Machine.opcode.Goals as goal
use Rattle.nap_reader.proofs.machine.Machine.opcode.Goals.{In-Some}

-- The run of the opcode is complete.
runs_whole : (g : _) (c : In-Some g) → RunsWhole c.args.self.now c.args.op c.args.bytes.now c.args.ended c.in-Some.run'.now
runs_whole g c =
    let rest = take_all (length c.args.bytes.now - 1) (drop 1 c.args.bytes.now) (omega (arith, length-drop 1 c.args.bytes.now)) in
    record { some = c.requires.some; closed = c.requires.closed; is = c.requires.is; short = c.in-Some.ensures.short; whole = λ following over. rw rest at (c.in-Some.ensures.whole following over) }

pub returns-in-Ok-false : goal.returns-in-Ok-false
returns-in-Ok-false g c =
    let acted = c.in-Ok-false.ensures.acts in
    let drawn : RuleResult = record { entries = acted.0; work = c.act.new.self; clears = false } in
    opcode_acts (runs_whole g (goal.at.returns-in-Ok-false g c).In-Some) drawn (grind arith) (grind arith) (grind arith) g.met.S.Sink.took_more g.met.S.Sink.wants_more

pub returns-in-Ok-true : goal.returns-in-Ok-true
returns-in-Ok-true g c =
    let acted = c.in-Ok-true.ensures.acts in
    let drawn : RuleResult = record { entries = acted.0; work = c.act.new.self; clears = true } in
    opcode_acts (runs_whole g (goal.at.returns-in-Ok-true g c).In-Some) drawn (grind arith) (grind arith) (grind arith) g.met.S.Sink.took_more g.met.S.Sink.wants_more

pub returns-in-Err : goal.returns-in-Err
returns-in-Err g c = rw c.from.ensures (opcode_stops (runs_whole g (goal.at.returns-in-Err g c).In-Some) c.in-Err.fault refl c.in-Err.ensures.acts.1 (grind arith) (run_spares {g = g.S.Sink} c.args.self.now _ c.in-Err.fault (λ is. c.in-Err.ensures.lacks (ap Err is)) c.in-Some.ensures.short))
