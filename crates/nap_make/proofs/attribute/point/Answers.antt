use Rattle.nap_make.proofs.ValueLemmas.{both_written, coordinates, no_byte, no_first, no_second, none_alike, point_pair, reads_tried, written_alike}
use Rattle.nap_make.proofs.attribute.point.Goals as goal

pub returns-in_err-x : goal.returns-in_err-x
returns-in_err-x c = rw (c.from_residual.ensures) (none_alike point_pair (no_byte coordinates c.in_err-x.ensures))

pub returns-in_err-x-2 : goal.returns-in_err-x-2
returns-in_err-x-2 c = rw (c.from_residual-in_err-x-2.ensures) (none_alike point_pair (no_first coordinates c.in_ok-x.ensures c.in_err-x-2.ensures))

pub returns-in_err-y : goal.returns-in_err-y
returns-in_err-y c = rw (c.from_residual-in_err-y.ensures) (none_alike point_pair (no_second coordinates c.in_ok-x.ensures c.in_err-y.ensures))

pub returns : goal.returns
returns c =
    reads_tried c.try_new.result
    (written_alike point_pair (record { x = c.in_ok-x-2.x; y = c.in_ok-y.y }) (both_written coordinates c.in_ok-x.ensures c.in_ok-x-2.ensures c.in_ok-y.ensures)) c.try_new.ensures.found c.try_new.ensures.value
