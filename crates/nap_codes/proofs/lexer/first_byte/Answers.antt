use Rattle.nap_codes.proofs.{LexerLemmas.first_graphic, LexerLemmas.first_more, Some, TableLemmas.control0_missing, ap, arith, sym, ◌∙◌}
use Rattle.nap_codes.proofs.lexer.first_byte.Goals as goal

pub graphic_byte-requires-clause-from : goal.graphic_byte-requires-clause-from
graphic_byte-requires-clause-from c = control0_missing _ (sym c.in-None.ensures)

pub returns-in-Some-More : goal.returns-in-Some-More
returns-in-Some-More c =
    first_more _ _ _ (sym c.in-Some-More.ensures ∙ ap Some c.in-Some-More.field-0-is) c.after_control.ensures

pub returns-in-None : goal.returns-in-None
returns-in-None c =
    first_graphic _ _ _ (sym c.in-None.ensures) (control0_missing _ (sym c.in-None.ensures)) (omega arith) c.graphic_byte.ensures
