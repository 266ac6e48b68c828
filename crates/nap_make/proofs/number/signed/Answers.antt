use Rattle.nap_make.proofs.{None, arith}
use Rattle.nap_make.proofs.ValueLemmas.{after_minus, low_pos, no_sign, with_minus, without_minus}
use Rattle.nap_make.proofs.number.signed.Goals as goal

pub returns-then-bytes-eq0 : goal.returns-then-bytes-eq0
returns-then-bytes-eq0 c = no_sign c.args.bytes.now (omega (arith, c.if-bytes-eq0.true))

pub returns-in_err-size : goal.returns-in_err-size
returns-in_err-size c = rw (c.from_residual.ensures) (without_minus c.args.bytes.now None (λ is. c.if-bytes-ne45.true is) (λ n fits is. c.in_err-size.ensures n (omega (arith, low_pos n fits)) is))

pub returns : goal.returns
returns c =
    with_minus c.args.bytes.now _ c.negative.result
    (after_minus c.args.bytes.now (omega (arith, c.if-bytes-eq0.false)) (omega (arith, c.if-bytes-ne45.false))) c.negative.ensures
