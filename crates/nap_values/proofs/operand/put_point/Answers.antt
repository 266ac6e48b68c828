use Rattle.nap_values.proofs.{OperandLemmas.words_of_point, ap, operand_bytes, point_bytes, ◌∙◌}
use Rattle.nap_values.proofs.operand.put_point.Goals as goal

pub returns-clause-bytes : goal.returns-clause-bytes
unfolding point_bytes
returns-clause-bytes c =
    c.put_words.ensures ∙ ap operand_bytes (words_of_point _ c.words.ensures.words _ _ c.words.ensures.x c.words.ensures.y)
