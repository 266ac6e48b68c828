use Rattle.nap_values.proofs.{ap, ap₂, bits_of, rules, signed_of, x_in, y_in, ◌∙◌, ◌≡◌}
use Rattle.nap_values.proofs.WordLemmas.{move_words, signed_of-bits_of, x_in-packed_coordinates, y_in-packed_coordinates}
use Rattle.nap_values.proofs.point.Move.try_new.Goals as goal

pub invariant_of-result : goal.invariant_of-result
invariant_of-result c = (c.get.ensures.words, move_words _ c.get.ensures.words)

pub returns-then-contains-2-clause-value : goal.returns-then-contains-2-clause-value
returns-then-contains-2-clause-value c =
    let is = c.get.ensures.value ∙ c.from_coordinates.ensures in
    let x_bits : x_in c.get.result ≡ bits_of c.args.x = ap x_in is ∙ x_in-packed_coordinates _ _ c.bits.ensures.below c.bits-then-contains-2.ensures.below ∙ search rules in
    let y_bits : y_in c.get.result ≡ bits_of c.args.y = ap y_in is ∙ y_in-packed_coordinates _ _ c.bits.ensures.below c.bits-then-contains-2.ensures.below ∙ search rules in
    ap₂ (λ u v. record { x = u; y = v })
    (ap signed_of x_bits ∙ signed_of-bits_of c.args.x (search rules) (search rules))
    (ap signed_of y_bits ∙ signed_of-bits_of c.args.y (search rules) (search rules))
