use Rattle.nap_make.proofs.{AllDigits, digits_value, take, ◌≡◌}
use Rattle.nap_make.proofs.number.numeral.Given as goal

abbrev pub invariant-loop-digit : goal.invariant-loop-digit
invariant-loop-digit l = AllDigits 10 (take l.digit-index l.digits) × (l.value ≡ digits_value 10 (take l.digit-index l.digits))
