use Rattle.nap_draw.proofs.{Runs.bytes_chunk, Runs.bytes_none, Some, Span, ap, arith, displaced_point, rect_chain_spans, span, sym, ◌∙◌}
use Rattle.nap_draw.proofs.Execution.{across_turn, chunk_less, cons_if_all_more, cons_if_all_none, crossed_all, crossed_more, filled, filling_more, filling_none, held, held_more, pushed, still_kept}
use Rattle.nap_draw.proofs.scratch.corners_into.Goals as goal

pub returns-in_default-clause-fills : goal.returns-in_default-clause-fills
returns-in_default-clause-fills c =
    let inv = c.loop-operand.invariant in
    let cut = bytes_chunk _ _ inv.size c.multi-size.ensures.value c.multi-size.ensures.least c.in-Some.ensures.steps.1 in
    let out = sym (c.by.ensures ∙ ap (displaced_point c.loop-operand.at) c.multi_bytes.ensures) ∙ c.in_default.is in
    filling_none inv.filling (cons_if_all_none _ (across_turn _ cut) (ap (span (Some c.loop-operand.at)) out))

pub loop-operand-preserved : goal.loop-operand-preserved
loop-operand-preserved c =
    let inv = c.loop-operand.invariant in
    let steps = c.in-Some.ensures.steps in
    let at = c.loop-operand.at in
    let here : Span = record { from = at; to = c.in-Some-by.point } in
    let cut = bytes_chunk _ _ inv.size c.multi-size.ensures.value c.multi-size.ensures.least steps.1 in
    let inside = sym (c.by.ensures ∙ ap (displaced_point at) c.multi_bytes.ensures) ∙ c.in-Some-by.is in
    rw c.corner-at.ensures (record {
      can = omega (arith, steps.0, inv.can);
      finite = tt;
      size = steps.0 ∙ inv.size;
      held = held_more c.push.result inv.held (chunk_less _ _ inv.size c.multi-size.ensures.value c.multi-size.ensures.least steps.1) c.push.ensures.capacity c.push.ensures.upper_bound c.is_err-full.ensures.value c.push.ensures.full;
      filling = filling_more here inv.filling
          (cons_if_all_more _ (across_turn at cut) (ap (span (Some at)) inside))
          (still_kept _ _)
          (λ prefix e kept. crossed_more _ at _ _ _ prefix (pushed _ _ _ _ _ _ c.push.ensures.items c.is_err-full.ensures.value e) kept);
    })

pub returns-clause-fills : goal.returns-clause-fills
unfolding rect_chain_spans
returns-clause-fills c =
    filled _ _ c.loop-operand.invariant.filling (ap (rect_chain_spans _) (bytes_none _ _ c.in-None.ensures.steps.1.0)) (λ prefix kept. crossed_all _ _ _ prefix kept) c.memory_fault_if.ensures.ok c.memory_fault_if.ensures.err

pub returns-clause-memory : goal.returns-clause-memory
returns-clause-memory c = held _ c.loop-operand.invariant.held c.memory_fault_if.ensures.err

pub returns-in_default-clause-memory : goal.returns-in_default-clause-memory
returns-in_default-clause-memory c = (c.loop-operand.invariant.held.space, λ e. absurd (cc))
