use Rattle.nap_codes.proofs.{TableLemmas.bell_front, rules}
use Rattle.nap_codes.proofs.lexer.Lexer.is_bell.Goals as goal

pub returns-then-byte-eq7-clause-front : goal.returns-then-byte-eq7-clause-front
returns-then-byte-eq7-clause-front c _ = bell_front _ _ (search rules)
