use Rattle.nap_values.proofs.{List, OperandLemmas.zero_bytes, PublicLaws.missing_words_are_zero, [], ap, arith, get_or, length, multi_of, operand_words, refl, ℕ, ◌-◌, ◌∙◌, ◌∷◌, ◌≡◌}
use Rattle.nap_values.proofs.operand.multi_bytes.Goals as goal

three : (run : List ℕ) → length run ≡ 3 → get_or run 0 0 ∷ get_or run 1 0 ∷ get_or run 2 0 ∷ [] ≡ run
three (first ∷ second ∷ third ∷ []) _ = refl
three _ size = absurd (omega arith)

pub returns-in-len3 : goal.returns-in-len3
returns-in-len3 c =
    let run = c.args.operand.now in
    let first = get_or run 0 0 ∷ get_or run 1 0 ∷ get_or run 2 0 ∷ [] in
    c.from_words.ensures
    ∙ ap multi_of (c.pack_eight.ensures ∙ zero_bytes first 5)
    ∙ (missing_words_are_zero (operand_words first) 5).0
    ∙ ap (λ bytes. multi_of (operand_words bytes)) (three run (omega arith))

pub returns : goal.returns
returns c =
    let run = c.args.operand.now in
    c.from_words-2.ensures ∙ ap multi_of c.pack_padded.ensures ∙ (missing_words_are_zero _ _).0
