use Rattle.nap_lines.proofs.{WritingLemmas.point_few, WritingLemmas.point_utf8, arith}
use Rattle.nap_lines.proofs.backward_buffer.BackwardBuffer.push_point.Goals as goal

pub returns-clause-utf8 : goal.returns-clause-utf8
returns-clause-utf8 c = point_utf8 c.args.point.x c.args.point.y (omega arith) (omega arith)

pub returns-clause-few : goal.returns-clause-few
returns-clause-few c = point_few c.args.point.x c.args.point.y (omega arith) (omega arith)
