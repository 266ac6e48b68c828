use Rattle.nap_values.proofs.{CoarseLemmas.clear_of, CoarseLemmas.spelled_there, ap₂, packed_coordinates, refl, with_high, x_in, ◌%◌, ◌/◌, ◌∙◌}
use Rattle.nap_values.proofs.walk.CoarseWalk.end.Goals as goal

pub returns : goal.returns
returns c =
    let clear = clear_of _ c.if-self-ne0.false in
    let n = x_in _ in
    let is = c.with_coarse_high.ensures ∙ ap₂ (λ x y. packed_coordinates (with_high (n % 4096 / 8) x) (with_high (n / 32768) y)) c.words.ensures.x c.words.ensures.y in
    let spelled = c.from_words.ensures ∙ spelled_there n _ c.self.inside.start c.self.invariant.0.1 (c.self.invariant.1 clear) is in
    rw (spelled, ← c.self.view_is) (clear, refl)
