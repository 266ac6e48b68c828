use Rattle.nap_draw.proofs.{List, Runs.bytes_none, Runs.first_operand, Some, ap, arith, map, multi_of, slice_get, sym, ℕ, ◌∙◌}
use Rattle.nap_draw.proofs.operands.first_move.Goals as goal

pub returns-in_err-operand : goal.returns-in_err-operand
returns-in_err-operand c = grind (arith, bytes_none)

pub returns : goal.returns
returns c =
    let steps = c.in_ok-operand.ensures.steps in
    let first = first_operand _ _ c.chunks.ensures.rest c.chunks.ensures.size c.from.ensures c.multi-size.ensures.value c.multi-size.ensures.least steps.1.0 steps.1.1 steps.1.2 in
    ap Some c.multi_bytes.ensures ∙ sym (ap (λ (os : List (List ℕ)). slice_get (map multi_of os) 0) first)
