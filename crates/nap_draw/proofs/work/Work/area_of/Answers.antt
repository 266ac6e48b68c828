use Rattle.nap_draw.proofs.{List, Runs.bytes_none, Runs.only_operand, Runs.two_operands, ap, area_of, area_part, arith, err_from_is_err_and, map, multi_of, operand_words, point_at, refl, sym, ℕ, ◌∙◌, ◌≡◌}
use Rattle.nap_draw.proofs.work.Work.area_of.Goals as goal

pub returns-in_default : goal.returns-in_default
returns-in_default c = grind (arith, bytes_none)

pub returns-in_err-pen_point-in-None : goal.returns-in_err-pen_point-in-None
returns-in_err-pen_point-in-None c = grind (arith, only_operand, err_from_is_err_and)

pub returns-in_ok-pen_point-in-None : goal.returns-in_ok-pen_point-in-None
returns-in_ok-pen_point-in-None c = grind (arith, only_operand)

pub returns-in-Some-next : goal.returns-in-Some-next
returns-in-Some-next c =
    let steps = c.in-Some.ensures.steps in
    let next = c.in-Some-next.ensures.steps in
    let two = two_operands _ _ c.chunks-operands.ensures.rest c.chunks-operands.ensures.size c.from.ensures c.multi-size.ensures.value c.multi-size.ensures.least steps.1.0 steps.1.1 steps.1.2 _ _ _ steps.0 next.1.0 next.1.1 next.1.2 in
    let here : area_part c.point.result c.multi_bytes.result ≡ area_part (point_at (multi_of (operand_words c.in-Some.first.now))) (multi_of (operand_words c.in-Some-next.second.now)) = rw (c.point.ensures, c.multi_bytes-first.ensures, c.multi_bytes.ensures) refl in
    c.area_part-in-Some-next.ensures ∙ (here ∙ sym (ap (λ (os : List (List ℕ)). area_of c.args.self.now (map multi_of os)) two))
