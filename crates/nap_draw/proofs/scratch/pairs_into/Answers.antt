use Rattle.nap_draw.proofs.{List, Runs.bytes_chunk, Runs.bytes_none, ap, arith, length, moves, multi_of, operand_words, point_at, refl, relative_spans, span_by, sym, ℕ, ◌∙◌, ◌≡◌, ◌≤◌}
use Rattle.nap_draw.proofs.Execution.{away_lacks, away_turn, chunk_less, cons_if_all_more, cons_if_all_none, filled, filling_begins, filling_more, filling_none, flat_kept, flat_none, held, held_more, paired_flat, pushed, still_kept}
use Rattle.nap_draw.proofs.scratch.pairs_into.Goals as goal

pub returns-in_default-next-clause-fills : goal.returns-in_default-next-clause-fills
returns-in_default-next-clause-fills c =
    let inv = c.loop-first.invariant in
    let k = c.args.domain.multi in
    let some : 1 ≤ k = omega (arith, c.multi-size.ensures.value, c.multi-size.ensures.least) in
    filling_none inv.filling (away_lacks (bytes_chunk _ _ inv.size refl some c.in-Some.ensures.steps.1) (bytes_none k _ c.in_default-next.ensures.steps.1.0))

pub returns-in_default-span_by-clause-fills : goal.returns-in_default-span_by-clause-fills
returns-in_default-span_by-clause-fills c =
    let inv = c.loop-first.invariant in
    let steps = c.in-Some.ensures.steps in
    let k = c.args.domain.multi in
    let some : 1 ≤ k = omega (arith, c.multi-size.ensures.value, c.multi-size.ensures.least) in
    let by : c.span_by.result ≡ span_by (point_at (multi_of (operand_words c.in-Some.first.now))) (multi_of (operand_words c.in-Some-next.second.now)) = rw (c.span_by.ensures, c.point.ensures, c.multi_bytes.ensures, c.multi_bytes-in-Some.ensures) refl in
    filling_none inv.filling
    (cons_if_all_none _ (away_turn (bytes_chunk _ _ inv.size refl some steps.1) (bytes_chunk _ _ (steps.0 ∙ inv.size) refl some c.in-Some-next.ensures.steps.1)) (sym by ∙ c.in_default-span_by.is))

pub loop-first-init : goal.loop-first-init
loop-first-init c = record {
  size = c.chunks-operands.ensures.size ∙ omega (arith, c.from.ensures, c.multi-size.ensures.value);
  filling = filling_begins _ (ap (λ (run : List ℕ). relative_spans (moves c.args.domain.multi (operand_words run))) (sym c.chunks-operands.ensures.rest)) (flat_none c.reset_scratch-full.new.scratch.items c.reset_scratch-full.ensures.items);
  held = record { space = c.reset_scratch-full.ensures.space; few = omega (arith, c.reset_scratch-full.ensures.len, ap length c.chunks-operands.ensures.rest); lacks = c.reset_scratch-full.ensures.lacks };
}

pub loop-first-preserved : goal.loop-first-preserved
loop-first-preserved c =
    let inv = c.loop-first.invariant in
    let steps = c.in-Some.ensures.steps in
    let next = c.in-Some-next.ensures.steps in
    let k = c.args.domain.multi in
    let some : 1 ≤ k = omega (arith, c.multi-size.ensures.value, c.multi-size.ensures.least) in
    let by : c.span_by.result ≡ span_by (point_at (multi_of (operand_words c.in-Some.first.now))) (multi_of (operand_words c.in-Some-next.second.now)) = rw (c.span_by.ensures, c.point.ensures, c.multi_bytes.ensures, c.multi_bytes-in-Some.ensures) refl in
    record {
      size = next.0 ∙ steps.0 ∙ inv.size;
      held = held_more {at = c.push.new.self} c.push-in-Some.result
          (held_more c.push.result inv.held (chunk_less _ _ inv.size refl some steps.1) c.push.ensures.capacity c.push.ensures.upper_bound c.is_err-full.ensures.value c.push.ensures.full)
          (chunk_less _ _ (steps.0 ∙ inv.size) refl some next.1) c.push-in-Some.ensures.capacity c.push-in-Some.ensures.upper_bound c.is_err-full-in-Some.ensures.value c.push-in-Some.ensures.full;
      filling = filling_more c.in-Some-span_by.span inv.filling
          (cons_if_all_more _ (away_turn (bytes_chunk _ _ inv.size refl some steps.1) (bytes_chunk _ _ (steps.0 ∙ inv.size) refl some next.1)) (sym by ∙ c.in-Some-span_by.is))
          (λ e. still_kept _ _ (still_kept _ _ e))
          (λ prefix e kept. flat_kept prefix c.in-Some-span_by.span _ _ _
          (pushed _ _ _ _ _ _ c.push.ensures.items c.is_err-full.ensures.value (still_kept _ c.is_err-full-in-Some.result e))
          (pushed _ _ _ _ _ _ c.push-in-Some.ensures.items c.is_err-full-in-Some.ensures.value e) kept);
    }

pub returns-clause-fills : goal.returns-clause-fills
unfolding relative_spans
returns-clause-fills c =
    filled _ _ c.loop-first.invariant.filling (ap relative_spans (bytes_none _ _ c.in_default.ensures.steps.1.0)) (paired_flat c.loop-first.scratch.items) c.memory_fault_if.ensures.ok c.memory_fault_if.ensures.err

pub returns-clause-memory : goal.returns-clause-memory
returns-clause-memory c = held _ c.loop-first.invariant.held c.memory_fault_if.ensures.err
