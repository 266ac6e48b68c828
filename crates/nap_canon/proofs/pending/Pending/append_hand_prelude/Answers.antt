use Rattle.nap_canon.proofs.{Preludes.nothing_appended, hand_attributes, refl}
use Rattle.nap_canon.proofs.pending.Pending.append_hand_prelude.Goals as goal

pub returns-then-hand_is_current-clause-appends : goal.returns-then-hand_is_current-clause-appends
returns-then-hand_is_current-clause-appends c = nothing_appended (hand_attributes c.args.hand.now) c.args.old.now (c.if-hand_is_current.ensures.0 refl)
