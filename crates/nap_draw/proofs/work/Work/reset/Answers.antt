use Rattle.nap_draw.proofs.{Execution.does_put, Execution.does_stop, Results.reset_is, clears_macros, operand_words, refl}
use Rattle.nap_draw.proofs.work.Work.reset.Goals as goal

pub returns-in_err-put : goal.returns-in_err-put
returns-in_err-put g c =
    let by = reset_is c.args.self.now (operand_words c.args.run.now) c.word_at-first.result _ _ _ _ _ _ c.requires.drawing.mode c.word_at-first.ensures c.word_at-second.ensures refl c.domain_after-domain.ensures refl refl refl in
    does_stop g.S.Sink clears_macros _ _ _ _ _ _ c.from_residual.ensures.1 by c.in_err-put.ensures

pub returns : goal.returns
returns g c =
    let by = reset_is c.args.self.now (operand_words c.args.run.now) c.word_at-first.result _ _ _ _ _ _ c.requires.drawing.mode c.word_at-first.ensures c.word_at-second.ensures refl c.domain_after-domain.ensures c.get.ensures.value c.reset.ensures c.reset-2.ensures in
    does_put g.S.Sink clears_macros ⊥ c.args.self.now _ _ _ by c.in_ok-put.ensures
