use Rattle.nap_make.proofs.ValueLemmas.{addr_pair, no_byte, no_direct, no_first, no_front, no_key, no_pair, no_second}
use Rattle.nap_make.proofs.attribute.colour_by_numbers.Goals as goal

pub returns-in_err-grb : goal.returns-in_err-grb
returns-in_err-grb c = rw (c.from_residual.ensures) (no_direct c.in-Some.ensures c.in_err-grb.ensures)

pub returns-in_err-addr : goal.returns-in_err-addr
returns-in_err-addr c = rw (c.from_residual-in_err-addr.ensures) (no_front c.in-Some-rest_after.ensures c.in_err-addr.ensures)

pub returns-in_err-numbers : goal.returns-in_err-numbers
returns-in_err-numbers c = rw (c.from_residual-in_err-numbers.ensures) (no_key c.in_default.ensures c.in_default-rest_after.ensures c.in_err-numbers.ensures)

pub returns-in_err-foreground : goal.returns-in_err-foreground
returns-in_err-foreground c = rw (c.from_residual-in_err-foreground.ensures) (no_pair c.in_ok-numbers.ensures (no_byte addr_pair c.in_err-foreground.ensures))

pub returns-in_err-addr-2 : goal.returns-in_err-addr-2
returns-in_err-addr-2 c = rw (c.from_residual-in_err-addr-2.ensures) (no_pair c.in_ok-numbers.ensures (no_first addr_pair c.in_ok-foreground.ensures c.in_err-addr-2.ensures))

pub returns-in_err-addr-3 : goal.returns-in_err-addr-3
returns-in_err-addr-3 c = rw (c.from_residual-in_err-addr-3.ensures) (no_pair c.in_ok-numbers.ensures (no_second addr_pair c.in_ok-foreground.ensures c.in_err-addr-3.ensures))
