use Rattle.std.proofs.Common.{Some, ap, arith, false, subst, suc, sym, true, ℕ, ◌+◌, ◌-◌, ◌∙◌, ◌≡◌, take}
use Rattle.nap_find.specs.Ends.{end_tries}
use Rattle.nap_find.specs.Readings.{IsTried, accepts}
use Rattle.nap_find.specs.Searching.{first_down}
use Rattle.nap_find.proofs.SearchingLemmas.{first_down-end, first_down-hit, first_down-miss}
use Rattle.nap_find.proofs.end.end_before.Goals as goal

pub returns-in-Some : goal.returns-in-Some
returns-in-Some c =
    let bytes = c.args.bytes.now in
    let end = c.args.end in
    let tried = c.loop-tried.tried in
    let at = c.saturating_sub-at.result in
    let there : at ≡ end - tried = c.saturating_sub-at.ensures in
    let is : end_tries - tried ≡ suc (end_tries - (tried + 1)) = omega arith in
    let found = subst (IsTried c.args.asked.now (take at bytes)) c.in-Some.is c.in_ok-is_page.ensures in (
      sym c.loop-tried.invariant ∙ first_down-hit (accepts bytes) (end - tried) (end_tries - tried) (end_tries - (tried + 1)) is (subst (λ (k : ℕ). accepts bytes k ≡ true) there found.0)
          ∙ ap Some (sym there),
      found.1,
      omega (arith, there),
    )

pub loop-tried-preserved : goal.loop-tried-preserved
loop-tried-preserved c =
    let bytes = c.args.bytes.now in
    let end = c.args.end in
    let tried = c.loop-tried.tried in
    let at = c.saturating_sub-at.result in
    let there : at ≡ end - tried = c.saturating_sub-at.ensures in
    let m = end_tries - (tried + 1) in
    let is : end_tries - tried ≡ suc m = omega arith in
    let less : end - (tried + 1) ≡ end - tried - 1 = omega arith in
    let miss = subst (IsTried c.args.asked.now (take at bytes)) c.in_default.is c.in_ok-is_page.ensures in
    ap (λ (k : ℕ). first_down (accepts bytes) k m) less
    ∙ sym (first_down-miss (accepts bytes) (end - tried) (end_tries - tried) m is (subst (λ (k : ℕ). accepts bytes k ≡ false) there miss))
    ∙ c.loop-tried.invariant

pub returns : goal.returns
returns c =
    let tried = c.loop-tried.tried in
    let none : end_tries - tried ≡ 0 = omega arith in
    sym c.loop-tried.invariant ∙ first_down-end (accepts c.args.bytes.now) (c.args.end - tried) (end_tries - tried) none
