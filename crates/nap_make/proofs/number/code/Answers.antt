use Rattle.nap_make.proofs.{ap, arith, length}
use Rattle.nap_make.proofs.ValueLemmas.{code_written, high_digit, no_high, no_low}
use Rattle.nap_make.proofs.number.code.Goals as goal

pub returns-then-bytes-ne2 : goal.returns-then-bytes-ne2
returns-then-bytes-ne2 c n fits is = c.if-bytes-ne2.true (ap length is)

pub returns-in_err-high : goal.returns-in_err-high
returns-in_err-high c = rw (c.from_residual.ensures) (no_high c.in_err-high.ensures)

pub returns-in_err-low : goal.returns-in_err-low
returns-in_err-low c = rw (c.from_residual-in_err-low.ensures) (no_low c.in_err-low.ensures)

pub returns-then-high-lt2 : goal.returns-then-high-lt2
returns-then-high-lt2 c n fits is =
    let high = high_digit n c.in_ok-high.ensures.0 c.in_ok-high.ensures.1 fits is in
    omega (arith, high, fits, c.if-high-lt2.true)

pub returns-then-high-gt7 : goal.returns-then-high-gt7
returns-then-high-gt7 c n fits is =
    let high = high_digit n c.in_ok-high.ensures.0 c.in_ok-high.ensures.1 fits is in
    omega (arith, high, fits, c.if-high-gt7.true)

pub returns : goal.returns
returns c =
    code_written c.args.bytes.now _ _ (omega (arith, c.if-bytes-ne2.false)) c.in_ok-high.ensures.1 c.in_ok-low.ensures.1 (omega (arith, c.if-high-lt2.false)) (omega (arith, c.if-high-gt7.false)) c.in_ok-low.ensures.0
