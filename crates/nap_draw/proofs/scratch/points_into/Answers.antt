use Rattle.nap_draw.proofs.{Runs.bytes_chunk, Runs.bytes_none, [], ap, arith, point_at, points_at, sym, ◌++◌, ◌∙◌, ◌∷◌}
use Rattle.nap_draw.proofs.Execution.{chunk_less, cons_if_all_more, cons_if_all_none, filled, filling_more, filling_none, held, held_more, points_turn, pushed, still_kept}
use Rattle.nap_draw.proofs.scratch.points_into.Goals as goal

pub returns-in_default-clause-fills : goal.returns-in_default-clause-fills
returns-in_default-clause-fills c =
    let inv = c.loop-operand.invariant in
    let cut = bytes_chunk _ _ inv.size c.multi-size.ensures.value c.multi-size.ensures.least c.in-Some.ensures.steps.1 in
    filling_none inv.filling (cons_if_all_none _ (points_turn cut) (sym (c.point.ensures ∙ ap point_at c.multi_bytes.ensures) ∙ c.in_default.is))

pub loop-operand-preserved : goal.loop-operand-preserved
loop-operand-preserved c =
    let inv = c.loop-operand.invariant in
    let steps = c.in-Some.ensures.steps in
    let cut = bytes_chunk _ _ inv.size c.multi-size.ensures.value c.multi-size.ensures.least steps.1 in
    record {
      can = omega (arith, steps.0, inv.can);
      finite = tt;
      size = steps.0 ∙ inv.size;
      held = held_more c.push.result inv.held (chunk_less _ _ inv.size c.multi-size.ensures.value c.multi-size.ensures.least steps.1) c.push.ensures.capacity c.push.ensures.upper_bound c.is_err-full.ensures.value c.push.ensures.full;
      filling = filling_more c.in-Some-point.point inv.filling
          (cons_if_all_more _ (points_turn cut) (sym (c.point.ensures ∙ ap point_at c.multi_bytes.ensures) ∙ c.in-Some-point.is))
          (still_kept _ _)
          (λ prefix e kept. pushed _ _ _ _ _ _ c.push.ensures.items c.is_err-full.ensures.value e ∙ ap (λ l. l ++ c.in-Some-point.point ∷ []) kept);
    }

pub returns-clause-fills : goal.returns-clause-fills
unfolding points_at
returns-clause-fills c = filled _ _ c.loop-operand.invariant.filling (ap points_at (bytes_none _ _ c.in-None.ensures.steps.1.0)) (λ prefix kept. kept) c.memory_fault_if.ensures.ok c.memory_fault_if.ensures.err

pub returns-clause-memory : goal.returns-clause-memory
returns-clause-memory c = held _ c.loop-operand.invariant.held c.memory_fault_if.ensures.err
