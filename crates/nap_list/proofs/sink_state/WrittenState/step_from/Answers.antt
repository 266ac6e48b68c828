use Rattle.nap_list.proofs.{State, Batches.batch_moves, Batches.none_moved, Batches.part_moved, arith}
use Rattle.nap_list.proofs.sink_state.WrittenState.step_from.Goals as goal

pub invariant_of-self : goal.invariant_of-self
invariant_of-self c =
    let s : State = c.self.inside.left.state in
    elim c.match-checked_sub.branch [
      | goal.in-Some w ↦
          rw w.self-inside-is (part_moved s _ _ c.self.invariant (rw w.self-inside-is at c.left_by-self-inside.ensures)
          (batch_moves c.args.batch.now c.args.first s _ w.in-Some.further c.args.count (omega (arith, c.requires.few, w.in-Some.ensures)) (rw c.self.view_is c.requires.current) (omega (arith, w.in-Some.ensures)) w.pen_after-self-inside.ensures))
      | goal.in_default w ↦ rw w.self-inside-is (none_moved s _ c.self.invariant (rw w.self-inside-is at c.left_by-self-inside.ensures) (omega (arith, w.in_default.ensures)))
    ]
