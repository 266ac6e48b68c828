use Rattle.nap_values.proofs.{CoarseLemmas.block_kept, MotionLemmas.x_words, ap, bit_and, ◌%◌, ◌*◌, ◌∙◌}
use Rattle.nap_values.proofs.packed.PackedWords.coarse.Goals as goal

pub invariant_of-result : goal.invariant_of-result
invariant_of-result c =
    let (is, fits) = block_kept c.args.block.now c.told-block c.fits-block in
    x_words _ _ fits (ap (λ n. bit_and (n * 34359738369 % 18446744073709551616) 0x3838_3800_3838_3800) (c.from-bytes.ensures ∙ c.from_be_bytes.ensures) ∙ is)

pub returns : goal.returns
returns c =
    let (is, fits) = block_kept _ c.told-block c.fits-block in
    ap (λ n. bit_and (n * 34359738369 % 18446744073709551616) _) (c.from-bytes.ensures ∙ c.from_be_bytes.ensures) ∙ is
