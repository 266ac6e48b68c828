use Rattle.nap_values.proofs.{WordLemmas.packed_coordinates-in, WordLemmas.x_in-packed_coordinates, WordLemmas.y_in-packed_coordinates, arith, packed_coordinates, rules, ◌<◌, ◌∙◌, ◌≡◌}
use Rattle.nap_values.proofs.point.Point.try_new.Goals as goal

pub invariant_of-result : goal.invariant_of-result
invariant_of-result c =
    let (x_below, y_below) : (c.args.x < 8388608) × (c.args.y < 8388608) = (search rules, search rules) in
    let is : c.get.result ≡ packed_coordinates c.args.x c.args.y = c.get.ensures.value ∙ c.from_coordinates.ensures in (
      c.get.ensures.words,
      packed_coordinates-in _ c.get.ensures.words,
      rw (is, x_in-packed_coordinates c.args.x c.args.y (omega arith) (omega arith)) x_below,
      rw (is, y_in-packed_coordinates c.args.x c.args.y (omega arith) (omega arith)) y_below,
    )

pub returns-then-y-lt-LIMIT-clause-value : goal.returns-then-y-lt-LIMIT-clause-value
returns-then-y-lt-LIMIT-clause-value c =
    let (x_below, y_below) : (c.args.x < 8388608) × (c.args.y < 8388608) = (search rules, search rules) in
    let is : c.get.result ≡ packed_coordinates c.args.x c.args.y = c.get.ensures.value ∙ c.from_coordinates.ensures in
    rw (is, x_in-packed_coordinates c.args.x c.args.y (omega arith) (omega arith), y_in-packed_coordinates c.args.x c.args.y (omega arith) (omega arith)) (search rules)
