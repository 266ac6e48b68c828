use Rattle.std.proofs.Common.{ap, arith, suc, sym, ℕ, ◌+◌, ◌-◌, ◌∙◌, ◌≡◌}
use Rattle.nap_find.specs.Beginnings.{begins}
use Rattle.nap_find.specs.Searching.{last_few}
use Rattle.nap_find.proofs.SearchingLemmas.{last_few-end, last_few-hit, last_few-miss, last_few-stop}
use Rattle.nap_find.proofs.beginning.last_beginnings.Goals as goal
use Rattle.nap_find.proofs.beginning.last_beginnings.Goals.{else-begins, then-begins+else-left-eq0}

pub loop-count-preserved : goal.loop-count-preserved
loop-count-preserved c =
    let count = c.loop-count.count in
    let left = c.loop-count.left in
    let f = begins c.args.bytes.now in
    let is : count ≡ suc (count - 1) = omega arith in
    let there : count ≡ 1 + (count - 1) = omega arith in
    elim c.if-begins.branch [
      | then-begins+else-left-eq0 w ↦
          let some : left ≡ suc (left - 1) = omega (arith, w.if-left-eq0.false) in (
            ap (λ (k : ℕ). last_few f k 1 (count - 1)) w.left-is
                ∙ sym (last_few-hit f left (left - 1) 1 count (count - 1) count is there (sym c.begins.ensures ∙ w.if-begins.true) some) ∙ c.loop-count.invariant.0,
            omega arith,
          )
      | else-begins w ↦ (
        ap (λ (k : ℕ). last_few f k 1 (count - 1)) w.left-is
            ∙ sym (last_few-miss f left 1 count (count - 1) count is there (sym c.begins.ensures ∙ w.if-begins.false)) ∙ c.loop-count.invariant.0,
        omega arith,
      )
    ]

pub returns-then-left-eq0-clause-place : goal.returns-then-left-eq0-clause-place
returns-then-left-eq0-clause-place c =
    let count = c.loop-count.count in
    let left = c.loop-count.left in
    let is : count ≡ suc (count - 1) = omega arith in
    let there : count ≡ 1 + (count - 1) = omega arith in
    let same : count + 1 ≡ 1 + suc (count - 1) = omega arith in
    same ∙ sym (last_few-stop (begins c.args.bytes.now) left 1 count (count - 1) count is there (sym c.begins.ensures ∙ c.if-begins.true) c.if-left-eq0.true) ∙ c.loop-count.invariant.0

pub returns-clause-place : goal.returns-clause-place
returns-clause-place c =
    let none : c.loop-count.count ≡ 0 = omega arith in
    sym (last_few-end (begins c.args.bytes.now) c.loop-count.left 1 c.loop-count.count none) ∙ c.loop-count.invariant.0
