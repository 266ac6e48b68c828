use Rattle.nap_codes.proofs.{LexerLemmas.escaped_more, Some, ap, sym, ◌∙◌}
use Rattle.nap_codes.proofs.lexer.escaped_byte.Goals as goal

pub returns-in-Some-More : goal.returns-in-Some-More
returns-in-Some-More c =
    escaped_more _ _ _ (sym c.in-Some-More.ensures ∙ ap Some c.in-Some-More.field-0-is) c.of.ensures
