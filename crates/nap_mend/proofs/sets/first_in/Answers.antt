use Rattle.std.proofs.Common.{arith, length, suc, sym, ◌+◌, ◌-◌, ◌∙◌, ◌≡◌}
use Rattle.nap_mend.specs.Sets.{is_in_at}
use Rattle.nap_mend.proofs.SearchLemmas.{first_ends, first_hits, first_misses}
use Rattle.nap_mend.proofs.sets.first_in.Goals as goal

pub returns-then-is_in-clause-found : goal.returns-then-is_in-clause-found
returns-then-is_in-clause-found c =
    let at = c.loop-at.at in
    let bytes = c.args.bytes.now in
    let is : length bytes - at ≡ suc (length bytes - (at + 1)) = omega arith in
    sym (first_hits (is_in_at c.args.set bytes) at (length bytes - at) (length bytes - (at + 1)) is (sym c.is_in.ensures ∙ c.if-is_in.true)) ∙ c.loop-at.invariant.0

pub loop-at-preserved : goal.loop-at-preserved
loop-at-preserved c =
    let at = c.loop-at.at in
    let bytes = c.args.bytes.now in
    let is : length bytes - at ≡ suc (length bytes - (at + 1)) = omega arith in (
      sym (first_misses (is_in_at c.args.set bytes) at (length bytes - at) (length bytes - (at + 1)) is (sym c.is_in.ensures ∙ c.if-is_in.false)) ∙ c.loop-at.invariant.0,
      omega arith,
    )

pub returns-clause-found : goal.returns-clause-found
returns-clause-found c =
    let at = c.loop-at.at in
    let bytes = c.args.bytes.now in
    let none : length bytes - at ≡ 0 = omega arith in
    sym (first_ends (is_in_at c.args.set bytes) at (length bytes - at) none) ∙ c.loop-at.invariant.0
