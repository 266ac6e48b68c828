use Rattle.nap_values.proofs.{ap, ap₂, packed_coordinates, x_in, y_in, ◌∙◌, ◌≡◌}
use Rattle.nap_values.proofs.WordLemmas.{packed_coordinates-in, x_in-below, x_in-packed_coordinates, y_in-below, y_in-packed_coordinates}
use Rattle.nap_values.proofs.point.Point.with_x_of.Goals as goal

pub invariant_of-result : goal.invariant_of-result
invariant_of-result c =
    let there = c.words.ensures in
    let here = c.words-2.ensures in
    let x_fits = x_in-below c.words.result there.words in
    let y_fits = y_in-below c.words-2.result here.words in
    let is : c.get.result ≡ packed_coordinates (x_in c.words.result) (y_in c.words-2.result) = c.get.ensures.value ∙ c.with_y_of.ensures in (
      c.get.ensures.words,
      packed_coordinates-in c.get.result c.get.ensures.words,
      rw (is, x_in-packed_coordinates (x_in c.words.result) (y_in c.words-2.result) x_fits y_fits) there.x_below,
      rw (is, y_in-packed_coordinates (x_in c.words.result) (y_in c.words-2.result) x_fits y_fits) here.y_below,
    )

pub returns : goal.returns
returns c =
    let there = c.words.ensures in
    let here = c.words-2.ensures in
    let x_fits = x_in-below _ there.words in
    let y_fits = y_in-below _ here.words in
    let is : c.get.result ≡ packed_coordinates (x_in c.words.result) (y_in c.words-2.result) = c.get.ensures.value ∙ c.with_y_of.ensures in
    ap₂ (λ x y. record { x = x; y = y })
    (ap x_in is ∙ x_in-packed_coordinates (x_in _) (y_in _) x_fits y_fits ∙ there.x)
    (ap y_in is ∙ y_in-packed_coordinates (x_in _) (y_in _) x_fits y_fits ∙ here.y)
