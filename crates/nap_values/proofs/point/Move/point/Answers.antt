use Rattle.nap_values.proofs.{ap₂, multi_of, point_at, point_with, x_in, y_in, ◌∙◌}
use Rattle.nap_values.proofs.point.Move.point.Goals as goal

pub returns : goal.returns
unfolding point_at multi_of x_in y_in
returns c = c.from_words.ensures ∙ ap₂ point_with c.words.ensures.x c.words.ensures.y
