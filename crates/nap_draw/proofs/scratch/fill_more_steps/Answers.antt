use Rattle.nap_draw.proofs.{Filling, List, Runs.bytes_chunk, Runs.bytes_none, [], ap, arith, chunks_rest, chunks_size, displaced_point, inl, inr, length, moves, operand_words, points_reached, subst, sym, ℕ, ◌++◌, ◌∙◌, ◌∷◌, ◌≡◌}
use Rattle.nap_draw.proofs.Execution.{chunk_less, filled, filling_more, filling_none, lacks_if, lacks_more, moved, moved_none, pushed, still_kept}
use Rattle.nap_draw.proofs.scratch.fill_more_steps.Goals as goal

pub loop-operand-init : goal.loop-operand-init
loop-operand-init c =
    let given = c.into_iter-operand-iterator.ensures.into_iter_gives in
    record {
      can = omega (arith, c.from.ensures, c.multi.ensures.value, c.multi.ensures.least, c.chunks-operand-items.ensures.size, ap chunks_size given);
      finite = tt;
      size = omega (arith, c.from.ensures, c.multi.ensures.value, c.chunks-operand-items.ensures.size, ap chunks_size given);
      space = omega arith;
      few = omega (arith, ap length (ap chunks_rest given ∙ c.chunks-operand-items.ensures.rest));
      memory = λ is. inl is;
      filling = λ all begins. subst (λ (run : List ℕ). Filling all (points_reached c.args.walk (moves c.args.domain.multi (operand_words run))) c.args.lacks (λ prefix. c.args.scratch.now.items ≡ prefix)) (sym (ap chunks_rest given ∙ c.chunks-operand-items.ensures.rest)) begins;
    }

pub returns-in_default-clause-fills : goal.returns-in_default-clause-fills
returns-in_default-clause-fills c =
    let inv = c.loop-operand.invariant in
    let cut = bytes_chunk _ _ inv.size c.multi.ensures.value c.multi.ensures.least c.in-Some.ensures.steps.1 in
    λ all begins. filling_none (inv.filling all begins) (moved_none _ c.loop-operand.walk cut (c.advance.ensures.point ∙ ap (displaced_point c.loop-operand.walk) c.multi_bytes.ensures) c.in_default.is)

pub loop-operand-preserved : goal.loop-operand-preserved
loop-operand-preserved c =
    let inv = c.loop-operand.invariant in
    let steps = c.in-Some.ensures.steps in
    let cut = bytes_chunk _ _ inv.size c.multi.ensures.value c.multi.ensures.least steps.1 in
    let less = chunk_less _ _ inv.size c.multi.ensures.value c.multi.ensures.least steps.1 in
    record {
      can = omega (arith, steps.0, inv.can);
      finite = tt;
      size = steps.0 ∙ inv.size;
      space = omega (arith, inv.space, c.push.ensures.capacity);
      few = omega (arith, inv.few, less, c.push.ensures.upper_bound);
      memory = lacks_more c.push.result _ _ inv.memory c.is_err-full.ensures.value (λ e. inr (omega (arith, inv.few, inv.space, less, e))) c.push.ensures.full;
      filling = λ all begins. filling_more c.in-Some-advance.point (inv.filling all begins)
          (rw c.in-Some-advance.is at (moved _ _ cut (c.advance.ensures.point ∙ ap (displaced_point c.loop-operand.walk) c.multi_bytes.ensures) c.advance.ensures.place))
          (still_kept _ _)
          (λ prefix e kept. pushed _ _ _ _ _ _ c.push.ensures.items c.is_err-full.ensures.value e ∙ ap (λ l. l ++ c.in-Some-advance.point ∷ []) kept);
    }

pub returns-clause-fills : goal.returns-clause-fills
unfolding points_reached
returns-clause-fills c = λ all begins. filled _ _ (c.loop-operand.invariant.filling all begins) (ap (points_reached _) (bytes_none _ _ c.in-None.ensures.steps.1.0)) (λ prefix kept. kept) c.memory_fault_if.ensures.ok c.memory_fault_if.ensures.err

pub returns-clause-memory : goal.returns-clause-memory
returns-clause-memory c = lacks_if _ _ c.loop-operand.invariant.memory c.memory_fault_if.ensures.err
