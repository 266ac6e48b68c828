use Rattle.nap_lines.proofs.{IsUtf8-nil, [], arith, drop, drop_all, ◌≡◌}
use Rattle.nap_lines.proofs.backward_buffer.BackwardBuffer.clear.Goals as goal

pub invariant_of-self : goal.invariant_of-self
invariant_of-self c =
    let none : drop 256 c.self.inside.bytes ≡ [] = drop_all 256 c.self.inside.bytes (omega arith) in
    record { within = omega arith; utf8 = rw none IsUtf8-nil }

pub returns : goal.returns
returns c = drop_all 256 c.self.inside.bytes (omega arith)
