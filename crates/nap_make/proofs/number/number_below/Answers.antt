use Rattle.nap_make.proofs.{arith}
use Rattle.nap_make.proofs.ValueLemmas.{no_zero, numeral_of, numeral_tells, zero_first}
use Rattle.nap_make.proofs.number.number_below.Goals as goal

pub returns-in_err-value : goal.returns-in_err-value
returns-in_err-value c = rw (c.from_residual.ensures) (λ n fits is. c.in_err-value.ensures n (numeral_of n (omega (arith, fits, c.requires)) is))

pub returns-then-value-limit : goal.returns-then-value-limit
returns-then-value-limit c n fits is =
    let same = numeral_tells c.in_ok-value.ensures (omega (arith, fits, c.requires)) is in
    omega (arith, same, fits, c.if-value-limit.true)

pub returns-then-digits-ne48 : goal.returns-then-digits-ne48
returns-then-digits-ne48 c = record {
  fitting = omega (arith, c.if-value-limit.false);
  written = no_zero c.in_ok-value.ensures (λ first. absurd (c.if-digits-ne48.true first));
}

pub returns-then-digits-eq1 : goal.returns-then-digits-eq1
returns-then-digits-eq1 c = record {
  fitting = omega (arith, c.if-value-limit.false);
  written = no_zero c.in_ok-value.ensures (λ first. omega (arith, c.if-digits-eq1.true));
}

pub returns : goal.returns
returns c n fits is =
    zero_first n (omega (arith, fits, c.requires)) is (omega (arith, c.if-digits-ne48.false)) (omega (arith, c.if-digits-eq1.false))
