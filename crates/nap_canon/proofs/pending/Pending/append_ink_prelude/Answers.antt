use Rattle.nap_canon.proofs.{Preludes.nothing_appended, ink_attributes, refl}
use Rattle.nap_canon.proofs.pending.Pending.append_ink_prelude.Goals as goal

pub returns-then-ink_is_current-clause-appends : goal.returns-then-ink_is_current-clause-appends
returns-then-ink_is_current-clause-appends c = nothing_appended (ink_attributes c.args.ink.now) c.args.old.now (c.if-ink_is_current.ensures.0 refl)
