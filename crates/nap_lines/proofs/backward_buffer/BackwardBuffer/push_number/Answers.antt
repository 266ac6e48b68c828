use Rattle.nap_lines.proofs.{IsAscii-decimal, IsUtf8-append, IsUtf8-from_ascii, ap, arith, decimal, drop, length, length-append, length-decimal-le, length-drop}
use Rattle.nap_lines.proofs.backward_buffer.BackwardBuffer.push_number.Goals as goal

pub write_digits-self-inside-requires : goal.write_digits-self-inside-requires
write_digits-self-inside-requires c =
    let size = ap length c.self.view_is in
    let gone = length-drop c.self.inside.at c.self.inside.bytes in
    let digits = length-decimal-le 10 c.from.result (omega arith) (omega arith) (omega arith) in
    (omega arith, omega arith)

pub returns-clause-size : goal.returns-clause-size
returns-clause-size c =
    let size = ap length c.self.view_is in
    let after = ap length c.write_digits-self-inside.ensures.written in
    let joined = length-append (decimal c.from.result) (drop c.self.inside.at c.self.inside.bytes) in
    let digits = length-decimal-le 10 c.from.result (omega arith) (omega arith) (omega arith) in
    omega arith

pub invariant_of-self : goal.invariant_of-self
invariant_of-self c =
    let digits = IsUtf8-from_ascii _ (IsAscii-decimal c.from.result (omega arith)) in
    record {
      within = omega arith;
      utf8 = rw c.write_digits-self-inside.ensures.written (IsUtf8-append (decimal c.from.result) (drop c.self.inside.at c.self.inside.bytes) digits c.self.invariant.utf8);
    }
