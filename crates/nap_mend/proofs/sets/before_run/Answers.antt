use Rattle.std.proofs.Common.{ap, arith, not, suc, sym, ◌-◌, ◌∙◌, ◌≡◌}
use Rattle.nap_mend.specs.Sets.{ends_outside}
use Rattle.nap_mend.proofs.SearchLemmas.{greatest_ends, greatest_hits, greatest_misses}
use Rattle.nap_mend.proofs.sets.before_run.Goals as goal

pub returns-then-not-is_in-clause-count : goal.returns-then-not-is_in-clause-count
returns-then-not-is_in-clause-count c =
    let end = c.loop-end.end in
    let is : end ≡ suc (end - 1) = omega arith in
    sym (greatest_hits (ends_outside c.args.set c.args.bytes.now) end (end - 1) is (ap not (sym c.is_in.ensures ∙ c.if-not-is_in.true))) ∙ c.loop-end.invariant.0

pub loop-end-preserved : goal.loop-end-preserved
loop-end-preserved c =
    let end = c.loop-end.end in
    let is : end ≡ suc (end - 1) = omega arith in (
      sym (greatest_misses (ends_outside c.args.set c.args.bytes.now) end (end - 1) is (ap not (sym c.is_in.ensures ∙ c.if-not-is_in.false))) ∙ c.loop-end.invariant.0,
      omega arith,
    )

pub returns-clause-count : goal.returns-clause-count
returns-clause-count c =
    let none : c.loop-end.end ≡ 0 = omega arith in
    sym (greatest_ends (ends_outside c.args.set c.args.bytes.now) c.loop-end.end none) ∙ c.loop-end.invariant.0
