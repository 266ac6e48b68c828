use Rattle.nap_lines.proofs.WritingLemmas.{appends_more}
use Rattle.nap_lines.proofs.line.write_shape.Goals as goal

pub returns-clause-appends : goal.returns-clause-appends
returns-clause-appends c = appends_more _ _ _ _ c.write_points.result c.in_ok-write_shape_name.ensures.appends (rw c.as_slice.ensures at c.write_points.ensures.appends)
