use Rattle.nap_values.proofs.{MotionLemmas.x_advanced, MotionLemmas.x_words, arith}
use Rattle.nap_values.proofs.packed.PackedWords.x_sum.Goals as goal

pub invariant_of-result : goal.invariant_of-result
invariant_of-result c = x_words _ _ (omega arith) (x_advanced _ _ c.self.invariant c.step.invariant (rw c.self.view_is c.requires))

pub returns : goal.returns
returns c = rw (← c.self.view_is, ← c.step.view_is) (x_advanced _ _ c.self.invariant c.step.invariant (rw c.self.view_is c.requires))
