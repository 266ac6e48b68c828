use Rattle.nap_draw.proofs.{Code, Execution.does_acts, Fits.code_fits, clears_nothing}
use Rattle.nap_draw.proofs.work.Work.bell.Goals as goal

pub returns-clause-acts : goal.returns-clause-acts
returns-clause-acts g c =
    let w = c.args.self.now in
    does_acts g.S.Sink clears_nothing ⊥ w _ _ _ c.put_and_set_pen.result (λ d is. code_fits w Code.Bell _ d is (record {}) c.requires) c.put_and_set_pen.ensures.does
