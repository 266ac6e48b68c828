use Rattle.nap_values.proofs.{MotionLemmas.kept-x, MotionLemmas.kept-y, WordLemmas.sum_point, WordLemmas.x_in-below, WordLemmas.y_in-below, ap, ap₂, displaced_point, multi_of, point_at, point_with, signed_of, x_in, y_in, ◌∙◌}
use Rattle.nap_values.proofs.point.Point.by.Goals as goal

pub returns : goal.returns
unfolding point_at multi_of displaced_point x_in y_in
returns c =
    let here = c.words.ensures in
    let step = c.words-2.ensures in
    c.from_words.ensures
    ∙ ap (λ n. point_with (signed_of (x_in n)) (signed_of (y_in n))) c.sum.ensures
    ∙ ap₂ (λ x y. point_with (signed_of x) (signed_of y)) (kept-x _ _) (kept-y _ _)
    ∙ sum_point (x_in _) (y_in _) (x_in _) (y_in _) here.x_below here.y_below
    (x_in-below c.words-2.result step.words) (y_in-below c.words-2.result step.words)
    ∙ rw (here.x, here.y, step.x, step.y)
