use Rattle.nap_values.proofs.{CoarseLemmas.joined_kept, HoldsWords, WordLemmas.packed_coordinates-words, WordLemmas.x_in-below, arith, subst, sym}
use Rattle.nap_values.proofs.packed.PackedWords.with_coarse_high.Goals as goal

pub invariant_of-result : goal.invariant_of-result
invariant_of-result c =
    let coarse = x_in-below _ c.coarse.invariant in
    let is = joined_kept c.coarse.inside.0 c.self.inside.0 coarse (rw c.coarse.view_is c.requires) c.self.invariant in
    subst HoldsWords (sym is) (packed_coordinates-words _ _ (omega (arith, coarse)) (omega (arith, coarse)))

pub returns : goal.returns
returns c = rw (← c.self.view_is, ← c.coarse.view_is) (joined_kept c.coarse.inside.0 c.self.inside.0 (x_in-below _ c.coarse.invariant) (rw c.coarse.view_is c.requires) c.self.invariant)
