use Rattle.nap_reader.proofs.{Joins, List, ap, arith, bytes_of-placed_by_step, clear_request_if, is_operand_byte, length, length-placed_by_step, length-take-le, operands_in, over_after, place_at, place_at-placed_by_step, placed_by_step, prefix_len, prefix_len-le-length, refl, run_acts, run_lacks, run_stops, run_too_long, run_waits, sym, takes_then, true, ℕ, ◌+◌, ◌<◌, ◌∙◌, ◌≡◌, vec_capacity, vec_len}
use Rattle.nap_reader.specs.declared.machine.Machine.{Machine}
use Rattle.nap_reader.proofs.machine.Machine.join.Goals as goal
use Rattle.nap_reader.proofs.machine.Machine.join.Goals.{After-execute, Else-is_err}

-- the number of operand bytes
counted : (place step : ℕ) (bytes : List ℕ) → prefix_len is_operand_byte bytes ≡ operands_in (placed_by_step place step bytes)
counted place step bytes = ap (prefix_len is_operand_byte) (sym (bytes_of-placed_by_step place step bytes))

pub returns-then-count-most-clause-takes : goal.returns-then-count-most-clause-takes
returns-then-count-most-clause-takes g c =
    let slice = c.args.slice.now in
    let n = c.operand_prefix_len-count.ensures ∙ counted slice.place slice.step slice.bytes.now in
    rw c.stop.ensures.answer (run_too_long c.args.ended _ c.requires.run (omega (arith, n, c.if-count-most.true)) (omega (arith, c.args.self.now.short)) c.stop.ensures.kept.is c.stop.ensures.kept.sink)

pub returns-then-is_err-clause-takes : goal.returns-then-is_err-clause-takes
returns-then-is_err-clause-takes g c =
    let m = c.args.self.now in
    let slice = c.args.slice.now in
    let bytes = slice.bytes.now in
    let count = c.operand_prefix_len-count in
    let n = count.ensures ∙ counted slice.place slice.step bytes in
    let most = prefix_len-le-length is_operand_byte bytes in
    let less : 0 < count.result = grind (arith, length-take-le count.result bytes (omega (arith, count.ensures, most))) in
    let first : slice.place ≡ place_at (placed_by_step slice.place slice.step bytes) 0 = rw (place_at-placed_by_step slice.place slice.step bytes 0 (omega (arith, less, count.ensures, most))) (grind arith) in
    let kept = rw first at c.stop-then-is_err.ensures.kept in
    let full : vec_capacity m.run < vec_len m.run + count.result = grind (arith, length-take-le count.result bytes (omega (arith, count.ensures, most))) in
    rw c.stop-then-is_err.ensures.answer (run_lacks c.args.ended c.requires.run (omega (arith, n, less)) (omega (arith, n, c.if-count-most.false, m.short)) kept.is kept.sink (λ space. omega (arith, space.0, full, c.if-count-most.false, m.short)))

-- the machine with the operand bytes
abbrev mid : (g : _) → Else-is_err g → Machine g.row.S.Denot g.S.Sink
mid g c = record c.args.self.now { run = c.append.new.run; short = c.self-1.given.0; rule = c.self-1.given.1.0; drawing = c.self-1.given.1.1.0 }

join_of : (g : _) (c : Else-is_err g) → Joins c.args.self.now (mid g c) c.args.open_run (placed_by_step c.args.slice.now.place c.args.slice.now.step c.args.slice.now.bytes.now) c.operand_prefix_len-count.result
join_of g c = record {
  is = c.requires.run;
  counted = c.operand_prefix_len-count.ensures ∙ counted c.args.slice.now.place c.args.slice.now.step c.args.slice.now.bytes.now;
  short = omega (arith, c.if-count-most.false, c.args.self.now.short);
  items = rw bytes_of-placed_by_step (grind arith);
  same = (refl, refl, refl, refl);
  kept = (c.append.ensures.kept, omega arith);
}

pub returns-then-not-ended-clause-takes : goal.returns-then-not-ended-clause-takes
returns-then-not-ended-clause-takes g c = rw c.took.ensures (run_waits (join_of g (goal.at.returns-then-not-ended-clause-takes g c).Else-is_err) c.requires.live)

-- The run has ended.
over : (g : _) (c : After-execute g) → c.operand_prefix_len-count.result ≡ length (placed_by_step c.args.slice.now.place c.args.slice.now.step c.args.slice.now.bytes.now) → c.args.ended ≡ true
over g c all = grind (arith, length-placed_by_step)

pub returns-then-clears-clause-takes : goal.returns-then-clears-clause-takes
returns-then-clears-clause-takes g c =
    let joins = join_of g (goal.at.returns-then-clears-clause-takes g c).Else-is_err in
    let none = over_after _ _ c.args.ended joins.counted (over g (goal.at.returns-then-clears-clause-takes g c).After-execute) in
    rw (← (ap clear_request_if c.if-clears.true)) (takes_then (run_waits joins c.requires.live) (run_acts none g.met.S.Sink.took_more c.in-Ok.clears c.in-Ok.ensures) (omega arith))

pub returns-else-clears-clause-takes : goal.returns-else-clears-clause-takes
returns-else-clears-clause-takes g c =
    let joins = join_of g (goal.at.returns-else-clears-clause-takes g c).Else-is_err in
    let none = over_after _ _ c.args.ended joins.counted (over g (goal.at.returns-else-clears-clause-takes g c).After-execute) in
    rw (← (ap clear_request_if c.if-clears.false)) (takes_then (run_waits joins c.requires.live) (run_acts none g.met.S.Sink.took_more c.in-Ok.clears c.in-Ok.ensures) (omega arith))

pub returns-in-Err-clause-takes : goal.returns-in-Err-clause-takes
returns-in-Err-clause-takes g c =
    let joins = join_of g (goal.at.returns-in-Err-clause-takes g c).Else-is_err in
    let none = over_after _ _ c.args.ended joins.counted (over g (goal.at.returns-in-Err-clause-takes g c).After-execute) in
    rw c.stop-in-Err.ensures.answer (takes_then (run_waits joins c.requires.live) (run_stops none c.in-Err.ensures c.stop-in-Err.ensures.kept) (omega arith))
