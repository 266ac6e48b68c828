use Rattle.nap_values.proofs.{CoarseLemmas.high_kept, MotionLemmas.x_words, WordLemmas.x_in-below, WordLemmas.y_in-below, arith}
use Rattle.nap_values.proofs.packed.PackedWords.coarse_high.Goals as goal

pub invariant_of-result : goal.invariant_of-result
invariant_of-result c = x_words _ _ (omega (arith, x_in-below _ c.self.invariant, y_in-below _ c.self.invariant)) (high_kept _ c.self.invariant)

pub returns : goal.returns
returns c = rw (← c.self.view_is) (high_kept _ c.self.invariant)
