use Rattle.nap_draw.proofs.{Err, None, Outside, Results.rect_rule, Runs.one_of_three, Some, [], ap, arith, displaced_point, entries_result, operand_words, rect_on, rect_spans, refl, sym, ◌∙◌, ◌∷◌}
use Rattle.nap_draw.proofs.Execution.{across_once, does_filled, does_refused, does_unfilled}
use Rattle.nap_draw.proofs.work.Work.rect.Goals as goal

pub returns-in_err-from-clause-acts : goal.returns-in_err-from-clause-acts
returns-in_err-from-clause-acts g c = does_refused g.S.Sink _ (g.met.S.Sink.took_none _) _ _ _ c.from_residual.ensures.1 c.in_err-from.ensures.err.0 (rect_rule c.args.self.now c.args.filled (operand_words c.args.run.now) ∙ c.in_err-from.ensures.err.1 _)

pub returns-in_default-clause-acts : goal.returns-in_default-clause-acts
returns-in_default-clause-acts g c =
    let w = c.args.self.now in
    let one = one_of_three w.domain.multi c.args.run.now (omega (arith, c.multi.ensures.value, c.if-multi-eq3.true)) (omega (arith, c.if-run-eq3.true)) in
    let out = across_once c.in_ok-from.from _ _ None one (sym (c.by.ensures ∙ ap (displaced_point c.in_ok-from.from) c.multi_bytes.ensures) ∙ c.in_default.is) in
    does_refused g.S.Sink _ (g.met.S.Sink.took_none _) _ _ {fault = Outside} (Err _) refl refl
    (rect_rule w c.args.filled (operand_words c.args.run.now) ∙ (c.in_ok-from.ensures.ok _ ∙ ap (entries_result w (rect_on c.args.filled)) out))

pub returns-then-run-eq3-clause-acts : goal.returns-then-run-eq3-clause-acts
returns-then-run-eq3-clause-acts g c =
    let w = c.args.self.now in
    let one = one_of_three w.domain.multi c.args.run.now (omega (arith, c.multi.ensures.value, c.if-multi-eq3.true)) (omega (arith, c.if-run-eq3.true)) in
    let all = across_once c.in_ok-from.from _ _ (Some c.in-Some.point) one (sym (c.by.ensures ∙ ap (displaced_point c.in_ok-from.from) c.multi_bytes.ensures) ∙ c.in-Some.is) in
    does_filled g.S.Sink _ _ _ _ _ _ (entries_result w (rect_on c.args.filled)) (rect_spans c.in_ok-from.from) (c.in-Some.point ∷ []) _
    (rect_rule w c.args.filled (operand_words c.args.run.now) ∙ c.in_ok-from.ensures.ok _) all refl c.draw_chain.ensures

pub returns-in_err-corners_into-clause-acts : goal.returns-in_err-corners_into-clause-acts
returns-in_err-corners_into-clause-acts g c =
    does_unfilled g.S.Sink _ (g.met.S.Sink.took_none _) _ _ _ _ _ c.from_residual-in_err-corners_into.ensures.1 (entries_result c.args.self.now (rect_on c.args.filled))
    (rect_rule c.args.self.now c.args.filled (operand_words c.args.run.now) ∙ c.in_ok-from.ensures.ok _) refl (λ xs. (_, refl)) c.in_err-corners_into.ensures.fills (λ e. c.in_err-corners_into.ensures.memory.1 (ap Err e))

pub returns-clause-acts : goal.returns-clause-acts
returns-clause-acts g c =
    does_filled g.S.Sink _ _ _ _ _ _ (entries_result c.args.self.now (rect_on c.args.filled)) (rect_spans c.in_ok-from.from) _ _
    (rect_rule c.args.self.now c.args.filled (operand_words c.args.run.now) ∙ c.in_ok-from.ensures.ok _) c.in_ok-corners_into.ensures.fills c.deref.ensures.value c.draw_chain-2.ensures
