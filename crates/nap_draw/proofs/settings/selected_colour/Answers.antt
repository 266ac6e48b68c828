use Rattle.nap_draw.proofs.{Colour, List, Runs.addresses_none, Runs.only_operand, Runs.two_operands, [], ap, append-nil, arith, map, operand_words, refl, selected_colour, single_of, sym, ℕ, ◌∙◌, ◌≡◌}
use Rattle.nap_draw.proofs.settings.selected_colour.Goals as goal

pub returns-in-Own : goal.returns-in-Own
returns-in-Own c = grind (arith, addresses_none)

pub returns-in-Direct : goal.returns-in-Direct
returns-in-Direct c = grind (arith, addresses_none)

pub returns-in-None : goal.returns-in-None
returns-in-None c = grind (arith, only_operand)

pub returns-in-Some-next : goal.returns-in-Some-next
returns-in-Some-next c =
    let steps = c.in-Some.ensures.steps in
    let next = c.in-Some-next.ensures.steps in
    let two = two_operands _ _ c.chunks-addresses.ensures.rest c.chunks-addresses.ensures.size c.from.ensures c.single-size.ensures.value c.single-size.ensures.least steps.1.0 steps.1.1 steps.1.2 _ _ _ steps.0 next.1.0 next.1.1 next.1.2 in
    let made : Colour.Pair c.single_bytes-first.result c.single_bytes-in-Some-next.result ≡ Colour.Pair (single_of (operand_words c.in-Some.first.now)) (single_of (operand_words c.in-Some-next.second.now)) = rw (c.single_bytes-first.ensures, c.single_bytes-in-Some-next.ensures) refl in
    made ∙ sym (ap (λ (os : List (List ℕ)). selected_colour c.args.base (map single_of os)) two)

pub returns-in-len1 : goal.returns-in-len1
returns-in-len1 c =
    let run = c.args.run.now in
    let one = only_operand run [] refl refl refl c.single-size.ensures.value c.single-size.ensures.least (sym (append-nil run)) (omega (arith, c.in-len1.len_at_least, c.in-len1.len_below, c.single-size.ensures.value, c.single-size.ensures.least)) (omega (arith, c.in-len1.len_at_least)) refl in
    ap Colour.Front c.single_bytes.ensures ∙ sym (ap (λ (os : List (List ℕ)). selected_colour c.args.base (map single_of os)) one)
