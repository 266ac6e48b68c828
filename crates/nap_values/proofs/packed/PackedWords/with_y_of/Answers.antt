use Rattle.nap_values.proofs.WordLemmas.{crossed-parts, crossed-words}
use Rattle.nap_values.proofs.packed.PackedWords.with_y_of.Goals as goal

pub invariant_of-result : goal.invariant_of-result
invariant_of-result c = crossed-words _ _ c.self.invariant c.others.invariant

pub returns : goal.returns
returns c = rw (← c.self.view_is, ← c.others.view_is) (crossed-parts _ _ c.self.invariant c.others.invariant)
