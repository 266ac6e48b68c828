use Rattle.nap_values.proofs.{CoarseLemmas.part_kept, MotionLemmas.x_words, WordLemmas.x_in-below, arith}
use Rattle.nap_values.proofs.packed.PackedWords.coarse_part.Goals as goal

pub invariant_of-result : goal.invariant_of-result
invariant_of-result c = x_words _ _ (omega (arith, x_in-below _ c.self.invariant)) (part_kept _ (x_in-below _ c.self.invariant) (rw c.self.view_is c.requires))

pub returns : goal.returns
returns c = rw (← c.self.view_is) (part_kept _ (x_in-below _ c.self.invariant) (rw c.self.view_is c.requires))
