use Rattle.nap_draw.proofs.{Execution.acts_counted, Execution.point_again, Walks.point_lands, sym, ◌∙◌}
use Rattle.nap_draw.proofs.work.Work.count_points_at.Goals as goal

pub returns-clause-counted : goal.returns-clause-counted
returns-clause-counted g c = λ counted.
    let arrives = c.in-Some.ensures in
    rw arrives.are (acts_counted point_lands point_again g.S.Sink c.args.self.now _ _ _ arrives.points c.in-Some.at _ c.requires.drawing.mode arrives.last (arrives.many ∙ sym c.operand_count.ensures) c.move_pen_to.ensures
    (rw c.last_entry-last.ensures at c.put_alike.ensures.took c.if-not-put_alike.false))
