use Rattle.nap_make.proofs.{Displacement, ap₂, to_z-of_z, w32, ℤ}
use Rattle.nap_make.proofs.ValueLemmas.{both_written, move_pair, move_tried, no_byte, no_first, no_second, none_alike, signed_fits, signs, written_alike}
use Rattle.nap_make.proofs.attribute.displacement.Goals as goal

abbrev two : ℤ → ℤ → Displacement
two x y = record { x = x; y = y }

pub returns-in_err-x : goal.returns-in_err-x
returns-in_err-x c = rw (c.from_residual.ensures) (none_alike move_pair (no_byte signs c.in_err-x.ensures))

pub returns-in_err-x-2 : goal.returns-in_err-x-2
returns-in_err-x-2 c = rw (c.from_residual-in_err-x-2.ensures) (none_alike move_pair (no_first signs c.in_ok-x.ensures c.in_err-x-2.ensures))

pub returns-in_err-y : goal.returns-in_err-y
returns-in_err-y c = rw (c.from_residual-in_err-y.ensures) (none_alike move_pair (no_second signs c.in_ok-x.ensures c.in_err-y.ensures))

pub returns : goal.returns
returns c =
    let x = c.in_ok-x-2.x in
    let y = c.in_ok-y.y in
    let same = ap₂ two (to_z-of_z w32 x (signed_fits x c.in_ok-x-2.ensures.fitting)) (to_z-of_z w32 y (signed_fits y c.in_ok-y.ensures.fitting)) in
    move_tried c.try_new.result same
    (written_alike move_pair (two x y) (both_written signs c.in_ok-x.ensures c.in_ok-x-2.ensures c.in_ok-y.ensures)) c.try_new.ensures.found c.try_new.ensures.value
