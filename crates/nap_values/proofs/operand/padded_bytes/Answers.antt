use Rattle.nap_values.proofs.{List, [], ap, append_assoc, arith, get_or, get_or_read, length, length-set, length-take-le, map-set, operand_words, replicate, set, set_at, suc, sym, take, take_more, ℕ, ◌%◌, ◌++◌, ◌+◌, ◌-◌, ◌<◌, ◌∙◌, ◌∷◌, ◌≡◌}
use Rattle.nap_values.proofs.operand.padded_bytes.Goals as goal

-- one more byte replaces a zero
one_byte_more : (bytes run : List ℕ) (at word : ℕ) → at < 8 → at < length run → word % 64 ≡ get_or run at 0 →
    operand_words bytes ≡ take at run ++ replicate (8 - at) 0 → operand_words (set bytes at word) ≡ take (at + 1) run ++ replicate (8 - (at + 1)) 0
one_byte_more bytes run at word place inside is so_far =
    let first : 8 - at ≡ suc (8 - (at + 1)) = omega arith in
    map-set _ bytes at word
    ∙ ap (λ words. set words at (word % 64)) (so_far ∙ ap (λ n. take at run ++ replicate n 0) first)
    ∙ set_at _ 0 _ _ at (length-take-le at run (omega arith))
    ∙ ap (λ w. take at run ++ w ∷ replicate (8 - (at + 1)) 0) is
    ∙ sym (append_assoc (take at run) (get_or run at 0 ∷ []) (replicate (8 - (at + 1)) 0))
    ∙ ap (λ words. words ++ replicate (8 - (at + 1)) 0) (sym (take_more run at 0 inside))

pub loop-at-preserved : goal.loop-at-preserved
loop-at-preserved c =
    let l = c.loop-at in
    let run = c.args.run.now in
    let inside : l.at < length run = omega arith in
    let same : c.get.result ≡ get_or run l.at 0 =
    c.get.ensures.value ∙ get_or_read run l.at c.index-run-at.result inside c.index-run-at.is 0 in
    record {
      size = length-set l.bytes l.at c.get.result ∙ l.invariant.size;
      words = one_byte_more l.bytes run l.at _ (omega arith) inside (omega arith) l.invariant.words;
    }
