use Rattle.nap_draw.proofs.{List, Runs.bytes_chunk, [], ap, arith, chunks_rest, chunks_size, nat_tests, point_at, subst, sym, ℕ, ◌∙◌}
use Rattle.nap_draw.proofs.Execution.{Spelt, spelt_ends, spelt_more, spelt_starts}
use Rattle.nap_draw.proofs.counted.last_of_points.Goals as goal

pub loop-operand-init : goal.loop-operand-init
loop-operand-init c =
    let given = c.into_iter-operand-iterator.ensures.into_iter_gives in
    record {
      can = omega (arith, c.from-size.ensures, c.multi.ensures.value, c.multi.ensures.least, c.chunks-operand-items.ensures.size, ap chunks_size given);
      finite = tt;
      size = omega (arith, c.from-size.ensures, c.multi.ensures.value, c.chunks-operand-items.ensures.size, ap chunks_size given);
      short = omega arith;
      spelt = λ inside. subst (λ (rest : List ℕ). Spelt c.args.domain.multi c.args.run.now rest []) (sym (ap chunks_rest given ∙ c.chunks-operand-items.ensures.rest)) (spelt_starts c.args.domain.multi c.args.run.now);
    }

pub loop-operand-preserved : goal.loop-operand-preserved
loop-operand-preserved c =
    let inv = c.loop-operand.invariant in
    let steps = c.in-Some.ensures.steps in
    let cut = bytes_chunk _ _ inv.size c.multi.ensures.value c.multi.ensures.least steps.1 in
    record {
      can = omega (arith, steps.0, inv.can);
      finite = tt;
      size = steps.0 ∙ inv.size;
      short = omega (arith, steps.1.1, inv.size, c.multi.ensures.value, c.multi.ensures.most);
      spelt = spelt_more c.args.domain.multi c.args.run.now _ _ _ _ _ _ (omega (arith, steps.1.1, steps.1.2, inv.size, c.multi.ensures.value, c.multi.ensures.least)) cut c.begins_inside-inside.ensures inv.spelt;
    }

pub returns : goal.returns
returns c =
    spelt_ends c.args.domain.multi c.args.run.now _ c.loop-operand.last.now _ (grind (arith, nat_tests)) c.in-None.ensures.steps.1.0 (c.point.ensures ∙ ap point_at c.multi_bytes.ensures) (c.loop-operand.invariant.spelt c.if-not-inside.false)
