use Rattle.nap_make.proofs.{ValueLemmas.digit_at, ValueLemmas.small, arith, digit_from_value, digit_value_digit, digits_more, digits_value_more, get_or}
use Rattle.nap_make.proofs.number.numeral.Goals as goal

pub returns-then-not-is_ascii_digit : goal.returns-then-not-is_ascii_digit
returns-then-not-is_ascii_digit c n is =
    let within = digit_from_value (get_or c.args.digits.now c.loop-digit.digit-index 0) (digit_at c.args.digits.now c.loop-digit.digit-index is.numeral.1 (omega (arith, c.loop-digit-test.true))) in
    grind (arith, within, c.if-not-is_ascii_digit.ensures.cases)

pub overflow_mul-value : goal.overflow_mul-value
overflow_mul-value c =
    let low = small c.args.digits.now c.loop-digit.digit-index c.loop-digit.invariant.0 (omega (arith, c.loop-digit-test.true)) (omega (arith, c.if-digits-gt-DIGITS.false)) in
    omega (arith, low, c.loop-digit.invariant.1)

pub overflow_add-value : goal.overflow_add-value
overflow_add-value c =
    let low = small c.args.digits.now c.loop-digit.digit-index c.loop-digit.invariant.0 (omega (arith, c.loop-digit-test.true)) (omega (arith, c.if-digits-gt-DIGITS.false)) in
    omega (arith, low, c.loop-digit.invariant.1, c.from.ensures, c.type_inv.digits c.loop-digit.digit-index)

pub loop-digit-preserved : goal.loop-digit-preserved
loop-digit-preserved c =
    let ds = c.args.digits.now in
    let i = c.loop-digit.digit-index in
    let value = digits_value_more 10 ds i (omega (arith, c.loop-digit-test.true)) in
    let own = digit_value_digit (get_or ds i 0) (digit_from_value (get_or ds i 0) c.if-not-is_ascii_digit.ensures.bound) in (
      digits_more 10 ds i (omega (arith, c.loop-digit-test.true)) c.loop-digit.invariant.0 c.if-not-is_ascii_digit.ensures.bound,
      omega (arith, value, own, c.loop-digit.invariant.1, c.from.ensures),
    )
