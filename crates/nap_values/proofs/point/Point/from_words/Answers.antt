use Rattle.nap_values.proofs.{HoldsWords, WordLemmas.packed_coordinates-in, WordLemmas.spelled_inside, WordLemmas.spelled_outside, rules, sym, x_in, y_in, ◌<◌}
use Rattle.nap_values.proofs.point.Point.from_words.Goals as goal

pub invariant_of-result : goal.invariant_of-result
invariant_of-result c =
    let inside : (x_in c.args.words < 8388608) × (y_in c.args.words < 8388608) = search rules in
    let number = c.get-number in (
      number.ensures.words,
      packed_coordinates-in _ number.ensures.words,
      rw number.ensures.value inside.0,
      rw number.ensures.value inside.1,
    )

pub returns-then-is_inside : goal.returns-then-is_inside
returns-then-is_inside c =
    let inside : (x_in c.args.words < 8388608) × (y_in c.args.words < 8388608) = search rules in
    rw c.get-number.ensures.value (sym (spelled_inside _ inside.0 inside.1))

pub returns-else-is_inside : goal.returns-else-is_inside
returns-else-is_inside c =
    let words : HoldsWords c.args.words = rw (← c.get-number.ensures.value) c.get-number.ensures.words in
    sym (spelled_outside _ words (λ x y. let test = c.is_inside.ensures.1 (x, y) in search rules))
