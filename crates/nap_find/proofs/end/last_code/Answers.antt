use Rattle.std.proofs.Common.{arith, get_or, suc, sym, ◌-◌, ◌<◌, ◌∙◌, ◌≡◌}
use Rattle.std.proofs.lemmas.Bool.{le-ltb, lt-ltb}
use Rattle.nap_find.specs.Ends.{is_code_byte}
use Rattle.nap_find.proofs.SearchingLemmas.{greatest-end, greatest-hit, greatest-miss}
use Rattle.nap_find.proofs.end.last_code.Goals as goal

pub returns-then-bytes-at-lt64-clause-found : goal.returns-then-bytes-at-lt64-clause-found
returns-then-bytes-at-lt64-clause-found c =
    let at = c.loop-at.at in
    let bytes = c.args.bytes.now in
    let some : 0 < at = omega arith in
    sym (greatest-hit (is_code_byte bytes) at some (lt-ltb (get_or bytes at 0) 0x40 c.if-bytes-at-lt64.true)) ∙ c.loop-at.invariant.0

pub loop-at-preserved : goal.loop-at-preserved
loop-at-preserved c =
    let at = c.loop-at.at in
    let bytes = c.args.bytes.now in
    let is : at ≡ suc (at - 1) = omega arith in (
      sym (greatest-miss (is_code_byte bytes) at (at - 1) is (le-ltb (get_or bytes at 0) 0x40 c.if-bytes-at-lt64.false)) ∙ c.loop-at.invariant.0,
      omega arith,
    )

pub returns-clause-found : goal.returns-clause-found
returns-clause-found c =
    let none : c.loop-at.at ≡ 0 = omega arith in
    sym (greatest-end (is_code_byte c.args.bytes.now) c.loop-at.at none) ∙ c.loop-at.invariant.0
