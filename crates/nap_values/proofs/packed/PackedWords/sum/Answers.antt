use Rattle.nap_values.proofs.{HoldsWords, MotionLemmas.added-parts, MotionLemmas.kept-words, subst, sym}
use Rattle.nap_values.proofs.packed.PackedWords.sum.Goals as goal

pub invariant_of-result : goal.invariant_of-result
invariant_of-result c = subst HoldsWords (sym (added-parts _ _ c.self.invariant c.others.invariant)) (kept-words _ _)

pub returns : goal.returns
returns c = rw (← c.self.view_is, ← c.others.view_is) (added-parts _ _ c.self.invariant c.others.invariant)
