use Rattle.nap_make.proofs.{arith, refl}
use Rattle.nap_make.proofs.ValueLemmas.{modes_written, no_flag, not_four}
use Rattle.nap_make.proofs.attribute.modes.Goals as goal

pub returns-then-bytes-ne4 : goal.returns-then-bytes-ne4
returns-then-bytes-ne4 c = not_four c.if-bytes-ne4.true

pub returns-in_err-flag : goal.returns-in_err-flag
returns-in_err-flag c = rw (c.from_residual.ensures) (no_flag 0 114 (λ m. m.reverse) (λ m. refl) c.in_err-flag.ensures)

pub returns-in_err-flag-2 : goal.returns-in_err-flag-2
returns-in_err-flag-2 c = rw (c.from_residual-in_err-flag-2.ensures) (no_flag 1 117 (λ m. m.underline) (λ m. refl) c.in_err-flag-2.ensures)

pub returns-in_err-flag-3 : goal.returns-in_err-flag-3
returns-in_err-flag-3 c = rw (c.from_residual-in_err-flag-3.ensures) (no_flag 2 119 (λ m. m.wrap) (λ m. refl) c.in_err-flag-3.ensures)

pub returns-in_err-flag-4 : goal.returns-in_err-flag-4
returns-in_err-flag-4 c = rw (c.from_residual-in_err-flag-4.ensures) (no_flag 3 115 (λ m. m.scroll) (λ m. refl) c.in_err-flag-4.ensures)

pub returns : goal.returns
returns c = modes_written (omega (arith, c.if-bytes-ne4.false)) c.in_ok-flag.ensures c.in_ok-flag-2.ensures c.in_ok-flag-3.ensures c.in_ok-flag-4.ensures
