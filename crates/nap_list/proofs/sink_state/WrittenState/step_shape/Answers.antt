use Rattle.nap_list.proofs.Batches.{shape_stepped}
use Rattle.nap_list.proofs.sink_state.WrittenState.step_shape.Goals as goal

pub invariant_of-self : goal.invariant_of-self
invariant_of-self c = shape_stepped c.self.inside.left.state c.args.shape.now c.self.invariant c.after_shape-self-inside.ensures c.ink.ensures c.apply_ink.ensures c.end.ensures
