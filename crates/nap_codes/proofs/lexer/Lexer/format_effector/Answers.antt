use Rattle.nap_codes.proofs.{TableLemmas.format_effector_alone, rules}
use Rattle.nap_codes.proofs.lexer.Lexer.format_effector.Goals as goal

pub returns-in-Some-Whole-Step-clause-front : goal.returns-in-Some-Whole-Step-clause-front
returns-in-Some-Whole-Step-clause-front c =
    format_effector_alone _ _ _ (search rules)
