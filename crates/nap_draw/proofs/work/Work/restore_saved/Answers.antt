use Rattle.nap_draw.proofs.{Results.is_ended, Results.not_ended, RuleResult, ap, sym, walk}
use Rattle.nap_draw.proofs.work.Work.restore_saved.Goals as goal

pub returns-then-is_some : goal.returns-then-is_some
unfolding walk
returns-then-is_some c =
    let w = c.args.self.now in
    rw c.step.ensures (sym (ap (λ (d : RuleResult). d.work) (is_ended w w.state.definition (sym c.if-is_some.ensures))))

pub returns-else-is_some : goal.returns-else-is_some
unfolding walk
returns-else-is_some c =
    let w = c.args.self.now in
    sym (ap (λ (d : RuleResult). d.work) (not_ended w w.state.definition (sym c.if-is_some.ensures)))
