use Rattle.nap_values.proofs.{ap₂, arith, x_in, y_in, ◌<◌, ◌∙◌}
use Rattle.nap_values.proofs.MotionLemmas.{x_again, x_value, y_again, y_value}
use Rattle.nap_values.proofs.walk.MovingPoint.from_point.Goals as goal

pub invariant_of-result : goal.invariant_of-result
invariant_of-result c =
    let (x_fits, y_fits) : (x_in c.words.result < 16777216) × (y_in c.words-2.result < 16777216) = omega arith in (
      x_again _ _ x_fits c.x_only.ensures,
      y_again _ _ y_fits c.y_only.ensures,
      rw (x_value _ _ x_fits c.x_only.ensures) c.words.ensures.x_below,
      rw (y_value _ _ y_fits c.y_only.ensures) c.words-2.ensures.y_below,
    )

pub returns : goal.returns
returns c =
    ap₂ (λ x y. record { x = x; y = y })
    (x_value _ _ (omega arith) c.x_only.ensures ∙ c.words.ensures.x)
    (y_value _ _ (omega arith) c.y_only.ensures ∙ c.words-2.ensures.y)
