use Rattle.nap_values.proofs.{OperandLemmas.bytes_of_words, WordLemmas.packed_fits, ap, operand_bytes, rules, to_le_bytes, w64, words_in, ◌∙◌}
use Rattle.nap_values.proofs.operand.put_words.Goals as goal

pub overflow_add-bytes : goal.overflow_add-bytes
overflow_add-bytes c = let fits = packed_fits _ c.get-bytes.ensures.words in search rules

pub returns : goal.returns
returns c =
    c.from.ensures.0
    ∙ c.to_le_bytes.ensures
    ∙ ap (to_le_bytes w64) c.swap_bytes.ensures
    ∙ bytes_of_words c.get-bytes.result c.get-bytes.ensures.words
    ∙ ap (λ n. operand_bytes (words_in n)) c.get-bytes.ensures.value
