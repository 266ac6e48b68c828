use Rattle.nap_canon.proofs.{AppendsCommands, Batch, arith, batch_attributes, prelude, subst, sym}
use Rattle.nap_canon.proofs.pending.Pending.append_batch_prelude.Goals as goal

pub returns-in-Points-clause-appends : goal.returns-in-Points-clause-appends
returns-in-Points-clause-appends c =
    subst (λ (b : Batch). AppendsCommands (prelude c.args.old.now (batch_attributes b)) c.args.self.now c.append_other_point_prelude.new.self) (sym c.in-Points.is) c.append_other_point_prelude.ensures.appends

pub returns-in-Lines-clause-appends : goal.returns-in-Lines-clause-appends
returns-in-Lines-clause-appends c = grind arith

pub returns-in-Text-clause-appends : goal.returns-in-Text-clause-appends
returns-in-Text-clause-appends c =
    subst (λ (b : Batch). AppendsCommands (prelude c.args.old.now (batch_attributes b)) c.args.self.now c.append_text_prelude.new.self) (sym c.in-Text.is) c.append_text_prelude.ensures.appends
