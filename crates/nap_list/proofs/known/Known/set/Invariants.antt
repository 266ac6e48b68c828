use Rattle.nap_list.proofs.{KnownLemmas.ShiftsInPlace, not, ◌==◌}
use Rattle.nap_list.proofs.known.Known.set.Given as goal

-- the first i colours with another address, after the one that is set
abbrev pub invariant-loop-i : goal.invariant-loop-i
invariant-loop-i l = ShiftsInPlace (λ c. not (c.addr == l.fn.addr)) (record { addr = l.fn.addr; grb = l.fn.grb }) l.initial.self-inside.colours.items l.self-inside.colours.items l.next l.kept l.i
