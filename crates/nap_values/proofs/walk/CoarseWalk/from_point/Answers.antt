use Rattle.nap_values.proofs.{MotionLemmas.x_again, MotionLemmas.x_value, ap₂, arith, true}
use Rattle.nap_values.proofs.walk.CoarseWalk.from_point.Goals as goal

pub invariant_of-result : goal.invariant_of-result
invariant_of-result c =
    let fits = c.words.ensures in
    let value = x_value _ _ (omega arith) c.coarse_high.ensures in (
      (x_again _ _ (omega arith) c.coarse_high.ensures, omega arith, omega arith),
      λ clear. omega arith,
    )

pub returns : goal.returns
returns c =
    let fits = c.words.ensures in
    let value = x_value _ _ (omega arith) c.coarse_high.ensures in
    ap₂ (λ x y. record { point = record { x = x; y = y }; inside = true }) (omega arith) (omega arith)
