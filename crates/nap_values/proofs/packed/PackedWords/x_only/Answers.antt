use Rattle.nap_values.proofs.MotionLemmas.{x_kept, x_kept-words}
use Rattle.nap_values.proofs.packed.PackedWords.x_only.Goals as goal

pub invariant_of-result : goal.invariant_of-result
invariant_of-result c = x_kept-words _ c.self.invariant

pub returns : goal.returns
returns c = rw (← c.self.view_is) (x_kept _ c.self.invariant)
