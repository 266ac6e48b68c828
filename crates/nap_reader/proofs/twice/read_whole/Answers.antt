use Rattle.nap_reader.proofs.{Machine, [], ap, arith, begun, budget_of, ends_at_end, err_from_is_err_and, leads_machine, leads_unrefused, piece_ends, refl, sink_of, sym, ℕ, ◌∙◌}
use Rattle.nap_reader.proofs.twice.read_whole.Goals as goal

-- the stream is refused before its end
pub returns-in_err-feed-clause-reads : goal.returns-in_err-feed-clause-reads
returns-in_err-feed-clause-reads g c =
    let e = err_from_is_err_and c.from_residual.result c.from_residual.ensures.1 in
    rw (e.1, e.2) (λ s begun. piece_ends refl (c.in_err-feed.ensures.failed c.requires.unrefused) begun (c.in_err-feed.ensures.stops c.requires.unrefused))

pub returns-in_err-feed-clause-lacks : goal.returns-in_err-feed-clause-lacks
returns-in_err-feed-clause-lacks g c =
    let e = err_from_is_err_and c.from_residual.result c.from_residual.ensures.1 in
    rw (e.1, e.2) (c.in_err-feed.ensures.lacks c.requires.unrefused)

-- it is refused at its end
pub returns-in_err-end-clause-reads : goal.returns-in_err-end-clause-reads
returns-in_err-end-clause-reads g c =
    let p = c.args.stream.now in
    let end = c.in_err-end.ensures in
    let live = c.in_ok-feed.ensures.answered in
    let e = err_from_is_err_and c.from_residual-in_err-end.result c.from_residual-in_err-end.ensures.1 in
    rw (e.1, e.2) (λ s begun. (let has_read = c.feed.ensures.has_read s [] begun in
    rw c.feed.ensures.budget at (ends_at_end g.S.Sink s (budget_of c.feed.new.self) (sink_of c.end.new.self) c.in_err-end.field-0.0 (end.failed live) p (leads_unrefused (has_read.continues live)) (λ own. (end.refused own s p has_read).0)
    (λ broke. end.breaks live broke s p has_read))))

pub returns-in_err-end-clause-lacks : goal.returns-in_err-end-clause-lacks
returns-in_err-end-clause-lacks g c =
    let e = err_from_is_err_and c.from_residual-in_err-end.result c.from_residual-in_err-end.ensures.1 in
    rw (e.1, e.2) (λ short memory. absurd (c.in_err-end.ensures.lacks c.in_ok-feed.ensures.answered (c.in_ok-feed.ensures.spared memory.0) short))

pub returns-clause-charged : goal.returns-clause-charged
returns-clause-charged g c = λ s begin.
    let p = c.args.stream.now in
    let has_read = c.feed.ensures.has_read s [] begin in
    let left = ap (λ (n : ℕ). (begun n p).machine.left) (sym c.feed.ensures.budget) ∙ ap (λ (m : Machine). m.left) (leads_machine (has_read.continues c.in_ok-feed.ensures.answered)) in
    omega (arith, left, c.feed.ensures.budget, c.feed.new.self.input.within, ap (λ i. i.charged) c.end.ensures.input)
