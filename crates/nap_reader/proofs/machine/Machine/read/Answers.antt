use Rattle.nap_reader.proofs.{inl, Reads, ReadsTo, StopsFrom, TakesSlice, ap, arith, comes_rested, err_from_is_err_and, length-placed_by_step, smaller, stops_then, subst, sym, turn_is, turn_less, ℕ, ◌*◌, ◌+◌, ◌-◌, ◌∙◌, ◌≡◌}
use Rattle.nap_reader.proofs.machine.Machine.read.Goals as goal
use Rattle.nap_reader.proofs.machine.Machine.read.Goals.{After-place_of-place}

-- the bytes that were consumed
turned : (g : _) (c : After-place_of-place g) → TakesSlice {S = g.row.S.Denot} {g = g.S.Sink} c.loop-slice.self c.take-taken.new.self c.loop-slice.input c.args.piece.now c.take-taken.result.count c.take-taken.result.request c.place_of-place.result
turned g c =
    let last : c.saturating_sub.result ≡ c.take-taken.result.count - 1 = omega (arith, c.saturating_sub.ensures) in
    turn_is c.loop-slice.invariant.reads c.loop-slice.invariant.ends c.in-Some.ensures c.take-taken.ensures.takes (c.place_of-place.ensures ∙ ap (λ (i : ℕ). c.in-Some.slice.place + c.in-Some.slice.step * i) last)

pub take_body-requires-clause-reads : goal.take_body-requires-clause-reads
take_body-requires-clause-reads g c = subst (λ i. Reads i c.args.piece.now) (sym c.begin_piece.ensures) (record { within = omega arith; small = omega (arith, c.requires.few); few = omega (arith, c.requires.few) })

pub loop-slice-init : goal.loop-slice-init
loop-slice-init g c = elim c.if-is_some.branch [
  | goal.then-is_some+in_ok-take_body w ↦ rw (w.self-is, w.input-is) record { live = w.in_ok-take_body.ensures.live; reads = w.in_ok-take_body.ensures.goes.counts.reads; ends = w.in_ok-take_body.ensures.ends; goes = λ old by. w.in_ok-take_body.ensures.goes.on old (subst (λ i. ReadsTo {S = g.row.S.Denot} {g = g.S.Sink} old c.args.piece.now c.args.self.now i) (sym c.begin_piece.ensures) by) }
  | goal.else-is_some w ↦ rw (w.self-is, w.input-is) record { live = c.requires.live; reads = subst (λ i. Reads i c.args.piece.now) (sym c.begin_piece.ensures) (record { within = omega arith; small = omega (arith, c.requires.few); few = omega (arith, c.requires.few) }); ends = inl (grind arith); goes = λ old by. subst (λ i. ReadsTo {S = g.row.S.Denot} {g = g.S.Sink} old c.args.piece.now c.args.self.now i) (sym c.begin_piece.ensures) by }
]

pub returns-in_err-take_body-clause-reads : goal.returns-in_err-take_body-clause-reads
returns-in_err-take_body-clause-reads g c =
    let e = err_from_is_err_and c.from_residual.result c.from_residual.ensures.1 in
    rw e.1 (subst (λ i. StopsFrom {S = g.row.S.Denot} {g = g.S.Sink} c.args.piece.now c.args.self.now i c.take_body.new.self c.take_body.new.input) c.begin_piece.ensures c.in_err-take_body.ensures.goes)

pub place_of-place-requires : goal.place_of-place-requires
place_of-place-requires g c = omega (arith, c.take-taken.ensures.takes.within, length-placed_by_step c.in-Some.slice.place c.in-Some.slice.step c.in-Some.slice.bytes.now, c.saturating_sub.ensures)

pub answer-requires : goal.answer-requires
answer-requires g c = (c.loop-slice.self, turned g (goal.at.answer-requires g c).After-place_of-place)

pub loop-slice-preserved : goal.loop-slice-preserved
loop-slice-preserved g c =
    let goes = c.in_ok-answer.ensures.goes c.loop-slice.self (turned g (goal.at.loop-slice-preserved g c).After-place_of-place) in
    record {
      live = c.in_ok-answer.ensures.live;
      reads = goes.counts.reads;
      ends = c.in_ok-answer.ensures.ends;
      goes = λ old by. goes.on old (c.loop-slice.invariant.goes old by);
    }

pub loop-slice-smaller : goal.loop-slice-smaller
loop-slice-smaller g c =
    smaller c.loop-slice.invariant.reads (c.in_ok-answer.ensures.goes c.loop-slice.self (turned g (goal.at.loop-slice-smaller g c).After-place_of-place)).counts
    (turn_less c.loop-slice.self c.take-taken.new.self c.answer.new.self c.take-taken.ensures.goes c.in_ok-answer.ensures.on c.in_ok-answer.ensures.run)

pub returns-in_err-answer-clause-reads : goal.returns-in_err-answer-clause-reads
returns-in_err-answer-clause-reads g c =
    let e = err_from_is_err_and c.from_residual-in_err-answer.result c.from_residual-in_err-answer.ensures.1 in
    let turn = turned g (goal.at.returns-in_err-answer-clause-reads g c).After-place_of-place in
    rw e.1 (stops_then c.loop-slice.invariant.goes (c.in_err-answer.ensures.goes c.loop-slice.self turn))

pub returns-clause-rests : goal.returns-clause-rests
returns-clause-rests g c = comes_rested c.loop-slice.input c.args.piece.now c.in_default.ensures

pub returns-clause-reads : goal.returns-clause-reads
returns-clause-reads g c = (c.loop-slice.invariant.goes, c.in_default.ensures)
