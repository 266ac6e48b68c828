use Rattle.std.proofs.Common.{Bool, ap, arith, suc, sym, ℕ, ◌&&◌, ◌+◌, ◌-◌, ◌∙◌, ◌≡◌}
use Rattle.nap_find.specs.{Beginnings.begins_anew, Ends.is_next, Searching.first_down}
use Rattle.nap_find.proofs.SearchingLemmas.{first_down-end, first_down-hit, first_down-miss}
use Rattle.nap_find.proofs.next.next_anew.Goals as goal

pub returns-then-found-clause-found : goal.returns-then-found-clause-found
returns-then-found-clause-found c =
    let tried = c.loop-tried.tried in
    let last = c.saturating_sub-last.result in
    let count = c.saturating_sub-count.result in
    let f : ℕ → Bool = λ i. begins_anew c.args.bytes.now i && is_next c.args.asked.now c.args.bytes.now c.args.reach i in
    let is : count - tried ≡ suc (count - (tried + 1)) = omega arith in
    sym (first_down-hit f (last - tried) (count - tried) (count - (tried + 1)) is (sym c.in_ok-found.ensures ∙ c.if-found.true)) ∙ c.loop-tried.invariant

pub loop-tried-preserved : goal.loop-tried-preserved
loop-tried-preserved c =
    let tried = c.loop-tried.tried in
    let last = c.saturating_sub-last.result in
    let count = c.saturating_sub-count.result in
    let f : ℕ → Bool = λ i. begins_anew c.args.bytes.now i && is_next c.args.asked.now c.args.bytes.now c.args.reach i in
    let is : count - tried ≡ suc (count - (tried + 1)) = omega arith in
    let less : last - (tried + 1) ≡ last - tried - 1 = omega arith in
    ap (λ (k : ℕ). first_down f k (count - (tried + 1))) less
    ∙ sym (first_down-miss f (last - tried) (count - tried) (count - (tried + 1)) is (sym c.in_ok-found.ensures ∙ c.if-found.false)) ∙ c.loop-tried.invariant

pub returns-clause-found : goal.returns-clause-found
returns-clause-found c =
    let tried = c.loop-tried.tried in
    let last = c.saturating_sub-last.result in
    let count = c.saturating_sub-count.result in
    let f : ℕ → Bool = λ i. begins_anew c.args.bytes.now i && is_next c.args.asked.now c.args.bytes.now c.args.reach i in
    let none : count - tried ≡ 0 = omega arith in
    sym (first_down-end f (last - tried) (count - tried) none) ∙ c.loop-tried.invariant
