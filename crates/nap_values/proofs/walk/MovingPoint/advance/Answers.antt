use Rattle.nap_values.proofs.{ap₂, arith, displaced_point, sym, ◌∙◌}
use Rattle.nap_values.proofs.MotionLemmas.{result_at, result_is, x_again, y_again}
use Rattle.nap_values.proofs.walk.MovingPoint.advance.Goals as goal

pub returns-in_err-point-clause-point : goal.returns-in_err-point-clause-point
returns-in_err-point-clause-point c =
    c.from_residual.ensures
    ∙ sym c.in_err-point.was
    ∙ c.from_words.ensures
    ∙ result_is _ _ _ _ _ _ c.self.invariant.2 c.self.invariant.3 c.words-words.ensures.words c.x_sum-x.ensures c.y_sum-y.ensures c.with_y_of.ensures
    ∙ ap₂ displaced_point c.self.view_is (ap₂ (λ x y. record { x = x; y = y }) c.words-words.ensures.x c.words-words.ensures.y)

pub invariant_of-self : goal.invariant_of-self
invariant_of-self c =
    let there = result_at _ _ _ _ _ (omega arith) (omega arith) c.x_sum-x.ensures c.y_sum-y.ensures c.with_y_of.ensures
    c.in_ok-point.point (sym c.from_words.ensures ∙ c.in_ok-point.was) in (
      x_again _ _ (omega arith) c.x_sum-x.ensures,
      y_again _ _ (omega arith) c.y_sum-y.ensures,
      rw there.0 there.2.0,
      rw there.1 there.2.1,
    )

pub returns-clause-point : goal.returns-clause-point
returns-clause-point c =
    sym c.in_ok-point.was
    ∙ c.from_words.ensures
    ∙ result_is _ _ _ _ _ _ c.self.invariant.2 c.self.invariant.3 c.words-words.ensures.words c.x_sum-x.ensures c.y_sum-y.ensures c.with_y_of.ensures
    ∙ ap₂ displaced_point c.self.view_is (ap₂ (λ x y. record { x = x; y = y }) c.words-words.ensures.x c.words-words.ensures.y)

pub returns-clause-place : goal.returns-clause-place
returns-clause-place c =
    let there = result_at _ _ _ _ _ (omega arith) (omega arith) c.x_sum-x.ensures c.y_sum-y.ensures c.with_y_of.ensures
    c.in_ok-point.point (sym c.from_words.ensures ∙ c.in_ok-point.was) in
    ap₂ (λ x y. record { x = x; y = y }) there.0 there.1
