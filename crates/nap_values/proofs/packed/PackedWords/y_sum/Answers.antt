use Rattle.nap_values.proofs.{MotionLemmas.y_advanced, MotionLemmas.y_words, arith}
use Rattle.nap_values.proofs.packed.PackedWords.y_sum.Goals as goal

pub invariant_of-result : goal.invariant_of-result
invariant_of-result c = y_words _ _ (omega arith) (y_advanced _ _ c.self.invariant c.step.invariant (rw c.self.view_is c.requires))

pub returns : goal.returns
returns c = rw (← c.self.view_is, ← c.step.view_is) (y_advanced _ _ c.self.invariant c.step.invariant (rw c.self.view_is c.requires))
