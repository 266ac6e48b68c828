use Rattle.nap_draw.proofs.{Err, Execution.does_acts, Execution.does_as, Fits.rule_fits, Ok, Opcode, ap, clears_macros, err_from_is_err_and, false, length, operand_words, rule, vec_capacity, ◌<◌}
use Rattle.nap_draw.proofs.work.Work.act.Goals as goal

pub returns-in-Reset-clause-acts : goal.returns-in-Reset-clause-acts
returns-in-Reset-clause-acts g c =
    let w = c.args.self.now in
    does_acts g.S.Sink clears_macros ⊥ w _ _ _ _ (λ d is. rule_fits w c.args.op (operand_words c.args.run.now) _ d is c.requires.agrees)
    (does_as g.S.Sink clears_macros _ _ _ _ _ _ (ap (λ (op : Opcode). rule w op (operand_words c.args.run.now)) c.in-Reset.is) c.reset.ensures)

pub returns-in_err-draw-in_default-clause-acts : goal.returns-in_err-draw-in_default-clause-acts
returns-in_err-draw-in_default-clause-acts g c =
    let w = c.args.self.now in
    let fault = err_from_is_err_and c.from_residual.result c.from_residual.ensures.1 in
    rw (fault.1, fault.2) (does_acts g.S.Sink clears_macros (vec_capacity c.args.scratch.now < length c.args.run.now) w _ _ _ (Err c.in_err-draw-in_default.field-0.0) (λ d is. rule_fits w c.args.op (operand_words c.args.run.now) _ d is c.requires.agrees) c.in_err-draw-in_default.ensures.acts)

pub returns-in_ok-draw-in_default-clause-acts : goal.returns-in_ok-draw-in_default-clause-acts
returns-in_ok-draw-in_default-clause-acts g c =
    let w = c.args.self.now in
    does_acts g.S.Sink clears_macros ⊥ w _ _ _ (Ok false) (λ d is. rule_fits w c.args.op (operand_words c.args.run.now) _ d is c.requires.agrees) c.in_ok-draw-in_default.ensures.acts
