use Rattle.nap_reader.proofs.{MatchResult-weaker, body_stops, eighth_front, err_from_is_err_and, goes_then, inr, next_byte, no_some, other_lacks, refl, same_input, smaller, stops_then, sym, ◌∙◌}
use Rattle.nap_reader.proofs.machine.Machine.take_body.Goals as goal

pub returns-then-next-ge128-clause-goes : goal.returns-then-next-ge128-clause-goes
returns-then-next-ge128-clause-goes g c =
    let so = c.loop-input.invariant.goes in
    MatchResult-weaker c.refuse_next.result
    (c.refuse_next.ensures.stops 0 _ _ _ _ _ _ (same_input refl) (next_byte so.counts.reads c.in-Some-next_slice.ensures refl) (λ own. cc) (other_lacks (λ own. cc)) (body_stops c.in-Some.is _ refl (λ more. eighth_front _ _ c.in-Some.body.escape more c.if-next-ge128.true)))
    (λ _ later. goes_then so later) (λ _ later. stops_then so.on later)

pub keep-requires-clause-next : goal.keep-requires-clause-next
keep-requires-clause-next g c = next_byte c.loop-input.invariant.goes.counts.reads c.in-Some-next_slice.ensures refl

pub end_body-requires-clause-next : goal.end_body-requires-clause-next
end_body-requires-clause-next g c = (c.args.piece.now, next_byte c.loop-input.invariant.goes.counts.reads c.in-Some-next_slice.ensures refl)

pub keep_escape-requires-clause-next : goal.keep_escape-requires-clause-next
keep_escape-requires-clause-next g c = next_byte c.loop-input.invariant.goes.counts.reads c.in-Some-next_slice.ensures refl

pub returns-in_err-keep-in-None-clause-goes : goal.returns-in_err-keep-in-None-clause-goes
returns-in_err-keep-in-None-clause-goes g c =
    rw (err_from_is_err_and c.from_residual.result c.from_residual.ensures.1).1 (stops_then c.loop-input.invariant.goes.on c.in_err-keep-in-None.ensures.goes)

pub returns-in_err-end_body-in-Some-escape-clause-goes : goal.returns-in_err-end_body-in-Some-escape-clause-goes
returns-in_err-end_body-in-Some-escape-clause-goes g c =
    let e = err_from_is_err_and c.from_residual-in_err-end_body-in-Some-escape.result c.from_residual-in_err-end_body-in-Some-escape.ensures.1 in
    let so = c.loop-input.invariant.goes in
    rw e.1 (stops_then so.on (c.in_err-end_body-in-Some-escape.ensures.goes c.args.piece.now (next_byte so.counts.reads c.in-Some-next_slice.ensures refl)))

pub loop-input-smaller-then-ends_body : goal.loop-input-smaller-then-ends_body
loop-input-smaller-then-ends_body g c =
    let reads = c.loop-input.invariant.goes.counts.reads in
    let new = c.in_ok-end_body-in-Some-escape.ensures in
    smaller reads (new.goes c.args.piece.now (next_byte reads c.in-Some-next_slice.ensures refl)).counts (inr (new.over, λ none. no_some (sym c.in-Some.is ∙ none)))

pub loop-input-preserved-then-ends_body : goal.loop-input-preserved-then-ends_body
loop-input-preserved-then-ends_body g c =
    let so = c.loop-input.invariant in
    let new = c.in_ok-end_body-in-Some-escape.ensures in
    record { live = new.live; run = λ none. new.closed; goes = goes_then so.goes (new.goes c.args.piece.now (next_byte so.goes.counts.reads c.in-Some-next_slice.ensures refl)) }

pub returns-in_err-keep_escape-in-Some-2-clause-goes : goal.returns-in_err-keep_escape-in-Some-2-clause-goes
returns-in_err-keep_escape-in-Some-2-clause-goes g c =
    let e = err_from_is_err_and c.from_residual-in_err-keep_escape-in-Some-2.result c.from_residual-in_err-keep_escape-in-Some-2.ensures.1 in
    rw e.1 (stops_then c.loop-input.invariant.goes.on c.in_err-keep_escape-in-Some-2.ensures.goes)
