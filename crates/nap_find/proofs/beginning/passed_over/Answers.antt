use Rattle.std.proofs.Common.{ap, arith, suc, sym, ℕ, ◌+◌, ◌-◌, ◌∙◌, ◌≡◌}
use Rattle.nap_find.specs.Beginnings.{begins}
use Rattle.nap_find.specs.Searching.{count_from}
use Rattle.nap_find.proofs.SearchingLemmas.{count_from-end, count_from-hit, count_from-miss}
use Rattle.nap_find.proofs.beginning.passed_over.Goals as goal
use Rattle.nap_find.proofs.beginning.passed_over.Goals.{else-begins, then-begins}

pub loop-at-preserved : goal.loop-at-preserved
loop-at-preserved c =
    let at = c.loop-at.at in
    let f = begins c.args.bytes.now in
    let end = c.retry_from-end.result in
    let m = end - (at + 1) in
    let is : end - at ≡ suc m = omega arith in
    elim c.if-begins.branch [
      | then-begins w ↦
          let e : count_from f at (end - at) ≡ 1 + count_from f (at + 1) m = count_from-hit f at (end - at) m is (sym c.begins.ensures ∙ w.if-begins.true) in
          (omega (arith, e, c.loop-at.invariant.0, w.count-is), omega (arith, c.loop-at.invariant.1, w.count-is))
      | else-begins w ↦
          let e : count_from f at (end - at) ≡ count_from f (at + 1) m = count_from-miss f at (end - at) m is (sym c.begins.ensures ∙ w.if-begins.false) in
          (omega (arith, e, c.loop-at.invariant.0, w.count-is), omega (arith, c.loop-at.invariant.1, w.count-is))
    ]

pub returns : goal.returns
returns c =
    let at = c.loop-at.at in
    let f = begins c.args.bytes.now in
    let end = c.retry_from-end.result in
    let none : end - at ≡ 0 = omega arith in
    let e : count_from f at (end - at) ≡ 0 = count_from-end f at (end - at) none in
    let all : c.loop-at.count ≡ count_from f 1 (end - 1) = omega (arith, e, c.loop-at.invariant.0) in
    all ∙ ap (λ (n : ℕ). count_from f 1 (n - 1)) c.retry_from-end.ensures.place
