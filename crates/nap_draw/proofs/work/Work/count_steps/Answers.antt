use Rattle.nap_draw.proofs.{Execution.trail_counted, ap, arith, moves, operand_words, points_reached, ℕ, ◌∙◌, ◌≡◌}
use Rattle.nap_draw.proofs.work.Work.count_steps.Goals as goal

pub returns-clause-counted : goal.returns-clause-counted
returns-clause-counted g c = λ counted.
    let arrives = c.in-Some.ensures in
    let three : c.args.self.now.domain.multi ≡ 3 = omega arith in
    let points = ap (λ (k : ℕ). points_reached c.args.from (moves k (operand_words c.args.run.now))) three ∙ arrives.are in
    rw points (trail_counted g.S.Sink c.args.trail c.args.self.now _ _ _ c.args.from c.in-Some.to arrives.points _ c.requires.drawing.mode arrives.last arrives.many c.move_pen_to.ensures
    (rw c.last_entry-last.ensures at c.put_alike.ensures.took c.if-not-put_alike.false))
