use Rattle.nap_list.proofs.{AllFit, Fits, after, ap, arith, fit_more, length, start, sym, take, true≢false, walk, walk_more, ◌∙◌}
use Rattle.nap_list.specs.declared.state.State.{State}
use Rattle.nap_list.proofs.Breaks.{misfit_at, one_more, only_break, no_break, not_legal, ends_open, ends_legal}
use Rattle.nap_list.proofs.legality.legal.Goals as goal

pub loop-index-init : goal.loop-index-init
unfolding walk AllFit
loop-index-init c = record { state = c.start-state.ensures; fit = tt }

pub loop-index-preserved : goal.loop-index-preserved
loop-index-preserved c =
    let es = c.args.entries.now in
    let e = c.index-entries-index.result in
    let prefix = take c.loop-index.index es in
    let before = c.loop-index.invariant in
    let fits = rw before.state at (c.fits.ensures.0 c.if-not-fits.false) in
    rw (one_more es c.loop-index.index e c.loop-index-test.true c.index-entries-index.is) (record {
      state = c.step.ensures ∙ (ap (λ (s : State). after s e) before.state ∙ sym (walk_more start prefix e));
      fit = fit_more start prefix e before.fit fits;
    })

pub returns-then-not-fits : goal.returns-then-not-fits
returns-then-not-fits c =
    let es = c.args.entries.now in
    let at = c.loop-index in
    let misfit : Fits at.state c.index-entries-index.result → ⊥ = λ fits. true≢false (sym (c.fits.ensures.1 fits) ∙ c.if-not-fits.true) in
    let breaks = misfit_at es at.index c.index-entries-index.result c.loop-index-test.true c.index-entries-index.is at.state at.invariant.state at.invariant.fit misfit in
    record { ok = not_legal es at.index breaks; err = only_break es at.index breaks }

pub returns-then-is_some-clause-err : goal.returns-then-is_some-clause-err
returns-then-is_some-clause-err c =
    let es = c.args.entries.now in
    let at = c.loop-index in
    only_break es (length es) (ends_open es at.index at.state (omega (arith, c.loop-index-test.false)) at.invariant.state at.invariant.fit (sym c.is_some.ensures ∙ c.if-is_some.true))

pub returns-clause-err : goal.returns-clause-err
returns-clause-err c =
    let es = c.args.entries.now in
    let at = c.loop-index in
    no_break es (ends_legal es at.index at.state (omega (arith, c.loop-index-test.false)) at.invariant.state at.invariant.fit (sym c.is_some.ensures ∙ c.if-is_some.false))
