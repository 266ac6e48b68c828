use Rattle.nap_make.proofs.{ValueLemmas.low_neg, ValueLemmas.same_number, arith, suc}
use Rattle.nap_make.proofs.number.negative.Goals as goal

pub returns-in_err-size : goal.returns-in_err-size
returns-in_err-size c = rw (c.from_residual.ensures) (λ n fits is. c.in_err-size.ensures (suc n) (omega (arith, low_neg n fits)) is)

pub returns-then-size-eq0 : goal.returns-then-size-eq0
returns-then-size-eq0 c n fits is =
    let low = low_neg n fits in
    let same = same_number c.in_ok-size.ensures.written is (omega (arith, c.in_ok-size.ensures.fitting)) (omega (arith, low)) in
    omega (arith, same, c.if-size-eq0.true)
