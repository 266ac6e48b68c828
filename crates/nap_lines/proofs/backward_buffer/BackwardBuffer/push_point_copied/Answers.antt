use Rattle.nap_lines.proofs.{WritingLemmas.last_pushed, arith, point_text, ◌-◌}
use Rattle.nap_lines.proofs.backward_buffer.BackwardBuffer.push_point_copied.Goals as goal

pub copy_of_first-requires-clause-utf8 : goal.copy_of_first-requires-clause-utf8
copy_of_first-requires-clause-utf8 c = rw (last_pushed (point_text c.args.point) c.args.self.now (c.len.result - c.len-end.result) c.push_point.ensures.text (omega (arith, c.len.ensures.count, c.len-end.ensures.count))) c.push_point.ensures.utf8
