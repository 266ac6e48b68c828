use Rattle.std.proofs.Common.{Bool, arith, not, suc, sym, ℕ, ◌&&◌, ◌+◌, ◌-◌, ◌∙◌, ◌≡◌}
use Rattle.nap_find.specs.{Beginnings.begins_anew, Ends.is_next}
use Rattle.nap_find.proofs.SearchingLemmas.{first_from-end, first_from-hit, first_from-miss}
use Rattle.nap_find.proofs.next.next_other.Goals as goal

pub returns-then-found-clause-found : goal.returns-then-found-clause-found
returns-then-found-clause-found c =
    let at = c.loop-at.at in
    let reach = c.args.reach in
    let f : ℕ → Bool = λ i. not (begins_anew c.args.bytes.now i) && is_next c.args.asked.now c.args.bytes.now reach i in
    let is : reach - at ≡ suc (reach - (at + 1)) = omega arith in
    sym (first_from-hit f at (reach - at) (reach - (at + 1)) is (sym c.in_ok-found.ensures ∙ c.if-found.true)) ∙ c.loop-at.invariant

pub loop-at-preserved : goal.loop-at-preserved
loop-at-preserved c =
    let at = c.loop-at.at in
    let reach = c.args.reach in
    let f : ℕ → Bool = λ i. not (begins_anew c.args.bytes.now i) && is_next c.args.asked.now c.args.bytes.now reach i in
    let is : reach - at ≡ suc (reach - (at + 1)) = omega arith in
    sym (first_from-miss f at (reach - at) (reach - (at + 1)) is (sym c.in_ok-found.ensures ∙ c.if-found.false)) ∙ c.loop-at.invariant

pub returns-clause-found : goal.returns-clause-found
returns-clause-found c =
    let at = c.loop-at.at in
    let reach = c.args.reach in
    let f : ℕ → Bool = λ i. not (begins_anew c.args.bytes.now i) && is_next c.args.asked.now c.args.bytes.now reach i in
    let none : reach - at ≡ 0 = omega arith in
    sym (first_from-end f at (reach - at) none) ∙ c.loop-at.invariant
