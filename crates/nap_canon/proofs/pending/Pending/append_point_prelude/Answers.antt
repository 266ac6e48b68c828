use Rattle.nap_canon.proofs.{Preludes.nothing_appended, point_attributes, refl}
use Rattle.nap_canon.proofs.pending.Pending.append_point_prelude.Goals as goal

pub returns-then-point_is_current-clause-appends : goal.returns-then-point_is_current-clause-appends
returns-then-point_is_current-clause-appends c = nothing_appended (point_attributes c.args.pel.now c.args.colour.now) c.args.old.now (c.if-point_is_current.ensures.0 refl)
