use Rattle.nap_values.proofs.{WordLemmas.packed_coordinates-parts, WordLemmas.packed_coordinates-words, sym}
use Rattle.nap_values.proofs.packed.PackedWords.from_coordinates.Goals as goal

pub invariant_of-result : goal.invariant_of-result
invariant_of-result c =
    rw (c.spread_digits.ensures.value, c.spread_digits-2.ensures.value, ← packed_coordinates-parts c.args.x c.args.y)
    (packed_coordinates-words c.args.x c.args.y c.requires.x_fits c.requires.y_fits)

pub returns : goal.returns
returns c = rw (c.spread_digits.ensures.value, c.spread_digits-2.ensures.value) (sym (packed_coordinates-parts c.args.x c.args.y))
