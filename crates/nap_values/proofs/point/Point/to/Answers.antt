use Rattle.nap_values.proofs.{MotionLemmas.kept-x, MotionLemmas.kept-y, WordLemmas.way_is, ap, ap₂, displacement_to, multi_of, signed_of, x_in, y_in, ◌∙◌}
use Rattle.nap_values.proofs.point.Point.to.Goals as goal

pub returns : goal.returns
unfolding multi_of displacement_to x_in y_in
returns c =
    let there = c.words.ensures in
    let here = c.words-2.ensures in
    c.from_words.ensures
    ∙ ap (λ n. record { x = signed_of (x_in n); y = signed_of (y_in n) }) c.difference.ensures
    ∙ ap₂ (λ x y. record { x = signed_of x; y = signed_of y }) (kept-x _ _) (kept-y _ _)
    ∙ ap₂ (λ x y. record { x = x; y = y })
    (way_is (x_in _) (x_in c.words.result) here.x_below there.x_below)
    (way_is (y_in c.words-2.result) (y_in c.words.result) here.y_below there.y_below)
    ∙ rw (here.x, here.y, there.x, there.y)
