use Rattle.std.proofs.Common.{arith, length, suc, sym, ◌+◌, ◌-◌, ◌∙◌, ◌≡◌}
use Rattle.nap_find.specs.Beginnings.{begins}
use Rattle.nap_find.proofs.SearchingLemmas.{first_from-end, first_from-hit, first_from-miss}
use Rattle.nap_find.proofs.beginning.next_beginning.Goals as goal

pub returns-then-begins-clause-found : goal.returns-then-begins-clause-found
returns-then-begins-clause-found c =
    let at = c.loop-at.at in
    let bytes = c.args.bytes.now in
    let is : length bytes - at ≡ suc (length bytes - (at + 1)) = omega arith in
    sym (first_from-hit (begins bytes) at (length bytes - at) (length bytes - (at + 1)) is (sym c.begins.ensures ∙ c.if-begins.true)) ∙ c.loop-at.invariant

pub loop-at-preserved : goal.loop-at-preserved
loop-at-preserved c =
    let at = c.loop-at.at in
    let bytes = c.args.bytes.now in
    let is : length bytes - at ≡ suc (length bytes - (at + 1)) = omega arith in
    sym (first_from-miss (begins bytes) at (length bytes - at) (length bytes - (at + 1)) is (sym c.begins.ensures ∙ c.if-begins.false)) ∙ c.loop-at.invariant

pub returns-clause-found : goal.returns-clause-found
returns-clause-found c =
    let at = c.loop-at.at in
    let bytes = c.args.bytes.now in
    let none : length bytes - at ≡ 0 = omega arith in
    sym (first_from-end (begins bytes) at (length bytes - at) none) ∙ c.loop-at.invariant
