use Rattle.nap_canon.proofs.{AppendsCommands, Ink, Preludes.nothing_appended, ink_attributes, prelude, refl, subst}
use Rattle.nap_canon.proofs.pending.Pending.append_drawing_prelude.Goals as goal

pub returns-then-ink_is_current-clause-appends : goal.returns-then-ink_is_current-clause-appends
returns-then-ink_is_current-clause-appends c =
    let r = c.args.self.now in
    subst (λ (i : Ink). AppendsCommands (prelude c.args.old.now (ink_attributes i)) r r) c.ink.ensures (nothing_appended (ink_attributes c.ink.result) c.args.old.now (c.if-ink_is_current.ensures.0 refl))
