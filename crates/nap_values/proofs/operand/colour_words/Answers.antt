use Rattle.nap_values.proofs.{List, OperandLemmas.zero_bytes, PublicLaws.missing_words_are_zero, [], ap, arith, colour_of, get_or, length, operand_words, refl, ℕ, ◌-◌, ◌∙◌, ◌∷◌, ◌≡◌}
use Rattle.nap_values.proofs.operand.colour_words.Goals as goal

one : (run : List ℕ) → length run ≡ 1 → get_or run 0 0 ∷ [] ≡ run
one (first ∷ []) _ = refl
one _ size = absurd (omega arith)

two : (run : List ℕ) → length run ≡ 2 → get_or run 0 0 ∷ get_or run 1 0 ∷ [] ≡ run
two (first ∷ second ∷ []) _ = refl
two _ size = absurd (omega arith)

pub returns-in-len1 : goal.returns-in-len1
returns-in-len1 c =
    let run = c.args.operand.now in
    let first = get_or run 0 0 ∷ [] in
    ap colour_of (c.pack_eight.ensures ∙ zero_bytes first 7)
    ∙ (missing_words_are_zero _ 7).2
    ∙ ap (λ bytes. colour_of (operand_words bytes)) (one run (omega arith))

pub returns-in-len2 : goal.returns-in-len2
returns-in-len2 c =
    let run = c.args.operand.now in
    let first = get_or run 0 0 ∷ get_or run 1 0 ∷ [] in
    ap colour_of (c.pack_eight-in-len2.ensures ∙ zero_bytes first 6)
    ∙ (missing_words_are_zero _ 6).2
    ∙ ap (λ bytes. colour_of (operand_words bytes)) (two run (omega arith))

pub returns : goal.returns
returns c =
    let run = c.args.operand.now in
    ap colour_of c.pack_padded.ensures
    ∙ (missing_words_are_zero _ _).2
