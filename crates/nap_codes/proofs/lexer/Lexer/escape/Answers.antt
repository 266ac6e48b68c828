use Rattle.nap_codes.proofs.{LexerLemmas.same_lexer, TableLemmas.escape_steps, ap, refl}
use Rattle.nap_codes.proofs.lexer.Lexer.escape.Goals as goal

pub returns : goal.returns
returns c = λ rested.
    let lexer = c.args.self.now in
    escape_steps lexer _ rested
    (same_lexer (ap (λ l. l.sets) c.self.view_is) refl)
