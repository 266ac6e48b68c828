use Rattle.nap_canon.proofs.{AllFit, EachIsCurrent, Sinks.current_after_first, Sinks.walk_start, State, ap, arith, batch_entries, drop, subst, suc, sym, take, walk, ℕ, ◌∙◌, ◌≡◌}
use Rattle.nap_canon.proofs.writer.starting.step_batch.Goals as goal

pub step-requires : goal.step-requires
unfolding AllFit
step-requires c = (subst (AllFit c.args.state.now) c.entry.ensures c.requires.fit).0

pub step_from-requires-clause-current : goal.step_from-requires-clause-current
step_from-requires-clause-current c =
    subst (λ (s : State). EachIsCurrent s (drop 1 (batch_entries c.args.batch.now))) (sym c.step.ensures) (current_after_first c.args.batch.now c.args.state.now _ _ c.entry.ensures)

pub returns-in-Some : goal.returns-in-Some
returns-in-Some c =
    let list = batch_entries c.args.batch.now in
    let n = c.in-Some.further in
    let count : suc n ≡ c.args.count = omega (arith, c.in-Some.ensures) in
    c.step_from.ensures
    ∙ ap (λ (s : State). walk s (take n (drop 1 list))) c.step.ensures
    ∙ walk_start c.args.state.now list _ _ c.entry.ensures n
    ∙ ap (λ (n : ℕ). walk c.args.state.now (take n list)) count

pub returns-in_default : goal.returns-in_default
unfolding walk
returns-in_default c = grind arith
