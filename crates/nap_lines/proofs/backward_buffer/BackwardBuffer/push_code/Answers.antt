use Rattle.nap_lines.proofs.{IsAscii-cons, IsAscii-nil, IsUtf8-from_ascii, arith, nat_tests}
use Rattle.nap_lines.proofs.backward_buffer.BackwardBuffer.push_code.Goals as goal

pub push_bytes-requires-clause-utf8 : goal.push_bytes-requires-clause-utf8
push_bytes-requires-clause-utf8 c = grind (arith, nat_tests, IsUtf8-from_ascii, IsAscii-cons, IsAscii-nil)
