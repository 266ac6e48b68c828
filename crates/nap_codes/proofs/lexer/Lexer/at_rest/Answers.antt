use Rattle.nap_codes.proofs.LexerLemmas.{half_unfinished}
use Rattle.nap_codes.proofs.lexer.Lexer.at_rest.Goals as goal

pub returns-clause-unfinished : goal.returns-clause-unfinished
returns-clause-unfinished c = rw (← c.self.view_is) (half_unfinished _ _ c.self.invariant.0)
