use Rattle.nap_canon.proofs.{Preludes.look_is_current, Preludes.none_appended, Some, refl, text_prelude}
use Rattle.nap_canon.proofs.pending.Pending.append_look_prelude.Goals as goal

pub returns-then-is_look-clause-appends : goal.returns-then-is_look-clause-appends
returns-then-is_look-clause-appends c =
    none_appended (text_prelude c.args.old.now (Some c.args.look.now)) (look_is_current c.args.old.now (Some c.args.look.now) (c.if-is_look.ensures.0 refl))
