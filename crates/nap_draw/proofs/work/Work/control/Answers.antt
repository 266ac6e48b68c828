use Rattle.nap_draw.proofs.{Execution.does_acts, Fits.code_fits, clears_nothing}
use Rattle.nap_draw.proofs.work.Work.control.Goals as goal

pub returns-clause-acts : goal.returns-clause-acts
returns-clause-acts g c =
    let w = c.args.self.now in
    does_acts g.S.Sink clears_nothing ⊥ w _ _ _ c.apply_control.result (λ d is. code_fits w c.args.code.now _ d is c.requires.made c.requires.agrees) c.apply_control.ensures.does
