use Rattle.nap_make.proofs.ValueLemmas.{both_written, grb_triple, no_byte, no_first, no_second, none_alike, part_pair, part_triple, reads_tried, written_alike}
use Rattle.nap_make.proofs.{Components}
use Rattle.nap_make.proofs.attribute.grb.Goals as goal

pub returns-in_err-g : goal.returns-in_err-g
returns-in_err-g c = rw (c.from_residual.ensures) (none_alike grb_triple (no_byte part_triple c.in_err-g.ensures))

pub returns-in_err-r : goal.returns-in_err-r
returns-in_err-r c = rw (c.from_residual-in_err-r.ensures) (none_alike grb_triple (no_second part_triple c.in_ok-g.ensures (no_byte part_pair c.in_err-r.ensures)))

pub returns-in_err-g-2 : goal.returns-in_err-g-2
returns-in_err-g-2 c = rw (c.from_residual-in_err-g-2.ensures) (none_alike grb_triple (no_first part_triple c.in_ok-g.ensures c.in_err-g-2.ensures))

pub returns-in_err-r-2 : goal.returns-in_err-r-2
returns-in_err-r-2 c = rw (c.from_residual-in_err-r-2.ensures) (none_alike grb_triple (no_second part_triple c.in_ok-g.ensures (no_first part_pair c.in_ok-r.ensures c.in_err-r-2.ensures)))

pub returns-in_err-b : goal.returns-in_err-b
returns-in_err-b c = rw (c.from_residual-in_err-b.ensures) (none_alike grb_triple (no_second part_triple c.in_ok-g.ensures (no_second part_pair c.in_ok-r.ensures c.in_err-b.ensures)))

pub returns : goal.returns
returns c =
    let k : Components = record { g = c.in_ok-g-2.g; r = c.in_ok-r-2.r; b = c.in_ok-b.b } in
    reads_tried c.try_new.result (written_alike grb_triple k (both_written part_triple c.in_ok-g.ensures c.in_ok-g-2.ensures (both_written part_pair c.in_ok-r.ensures c.in_ok-r-2.ensures c.in_ok-b.ensures))) c.try_new.ensures.found c.try_new.ensures.value
