use Rattle.nap_values.proofs.{WordLemmas.clear_x, WordLemmas.clear_y, WordLemmas.signs_clear, rules}
use Rattle.nap_values.proofs.packed.PackedWords.is_inside.Goals as goal

pub returns : goal.returns
returns c = rw (← c.self.view_is) (
  λ clear. (clear_x _ c.self.invariant (search rules), clear_y _ c.self.invariant (search rules)),
  λ below. let clear = signs_clear _ c.self.invariant below.0 below.1 in rw clear (search rules),
)
