use Rattle.nap_values.proofs.{OperandLemmas.words_of_move, ap, move_bytes, operand_bytes, ◌∙◌}
use Rattle.nap_values.proofs.operand.put_move.Goals as goal

pub returns : goal.returns
unfolding move_bytes
returns c =
    c.put_words.ensures ∙ ap operand_bytes (words_of_move _ c.words.ensures.words _ _ c.words.ensures.x c.words.ensures.y)
