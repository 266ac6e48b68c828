use Rattle.nap_values.proofs.{HoldsWords, packed_colour, rules}
use Rattle.nap_values.proofs.ColourLemmas.{packed_colour-in, packed_colour-parts, packed_colour-words, parts_in-packed_colour}
use Rattle.nap_values.proofs.colours.Grb.new.Goals as goal

pub invariant_of-result : goal.invariant_of-result
invariant_of-result c =
    let words : HoldsWords (packed_colour c.args.g c.args.r c.args.b) = packed_colour-words c.args.g c.args.r c.args.b (search rules) (search rules) (search rules) in
    rw (c.spread_digits.ensures.value, c.spread_digits-2.ensures.value, c.spread_digits-3.ensures.value, packed_colour-parts c.args.g c.args.r c.args.b (search rules) (search rules) (search rules))
    (words, packed_colour-in _ words)

pub returns : goal.returns
returns c =
    let parts = parts_in-packed_colour c.args.g c.args.r c.args.b (search rules) (search rules) (search rules) in
    rw (c.spread_digits.ensures.value, c.spread_digits-2.ensures.value, c.spread_digits-3.ensures.value, packed_colour-parts c.args.g c.args.r c.args.b (search rules) (search rules) (search rules), parts.0, parts.1, parts.2)
