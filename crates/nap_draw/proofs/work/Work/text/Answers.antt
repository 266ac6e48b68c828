use Rattle.nap_draw.proofs.{Code, Execution.does_acts, Fits.code_fits, clears_nothing}
use Rattle.nap_draw.proofs.work.Work.text.Goals as goal

pub returns-clause-acts : goal.returns-clause-acts
returns-clause-acts g c =
    let w = c.args.self.now in
    does_acts g.S.Sink clears_nothing ⊥ w _ _ _ c.character.result (λ d is. code_fits w (Code.Char c.args.set c.args.code) _ d is c.requires.made c.requires.agrees) c.character.ensures.does
