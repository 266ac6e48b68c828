use Rattle.nap_draw.proofs.{Execution.does_as, Execution.does_refused, Results.area_stream, Walks.left_by, arith}
use Rattle.nap_draw.proofs.work.Work.field.Goals as goal

pub put_and_set_pen-requires : goal.put_and_set_pen-requires
put_and_set_pen-requires g c = grind (arith, left_by)

pub returns-in_err-area : goal.returns-in_err-area
returns-in_err-area g c = grind (arith, does_refused, area_stream)

pub returns : goal.returns
returns g c = grind (arith, does_as)
