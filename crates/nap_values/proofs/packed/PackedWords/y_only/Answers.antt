use Rattle.nap_values.proofs.MotionLemmas.{y_kept, y_kept-words}
use Rattle.nap_values.proofs.packed.PackedWords.y_only.Goals as goal

pub invariant_of-result : goal.invariant_of-result
invariant_of-result c = y_kept-words _ c.self.invariant

pub returns : goal.returns
returns c = rw (← c.self.view_is) (y_kept _ c.self.invariant)
