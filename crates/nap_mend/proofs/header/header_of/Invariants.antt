use Rattle.std.proofs.Common.{length, ◌-◌, ◌≡◌, ◌≤◌}
use Rattle.nap_mend.specs.Headers.{header_of, header_within}
use Rattle.nap_mend.proofs.header.header_of.Given as goal

abbrev pub invariant-loop : goal.invariant-loop
invariant-loop l = (header_within l.bytes (length l.bytes - l.counter) l.header ≡ header_of l.bytes) × (l.header.end ≤ length l.bytes)
