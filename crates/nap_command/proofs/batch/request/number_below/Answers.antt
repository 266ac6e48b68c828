use Rattle.nap_command.proofs.{arith}
use Rattle.nap_command.proofs.batch.request.number_below.Goals as goal

pub returns-in_err-value : goal.returns-in_err-value
returns-in_err-value c = rw (c.from_residual.ensures) (λ n is. c.in_err-value.ensures n (record { numeral = is.numeral; few = is.few; value = is.value }))

pub returns-then-value-most : goal.returns-then-value-most
returns-then-value-most c n is = omega (arith, is.value, is.within, c.in_ok-value.ensures.value, c.if-value-most.true)

pub returns : goal.returns
returns c = record {
  numeral = c.in_ok-value.ensures.numeral;
  few = c.in_ok-value.ensures.few;
  value = c.in_ok-value.ensures.value;
  within = omega (arith, c.if-value-most.false);
}
