use Rattle.nap_values.proofs.{OperandLemmas.kept_holds, OperandLemmas.kept_spells, ap, bit_and, multi_of, value_of, words_in, ◌∙◌}
use Rattle.nap_values.proofs.operand.multi_first_three.Goals as goal

pub new-requires : goal.new-requires
unfolding value_of
new-requires c = rw c.from_be_bytes.ensures (kept_holds 3 c.args.block.now c.fits-block c.told-block)

pub returns : goal.returns
unfolding value_of
returns c =
    c.from_words.ensures
    ∙ ap (λ n. multi_of (words_in n)) c.new.ensures
    ∙ ap (λ n. multi_of (words_in (bit_and n 0x3F3F_3F00_0000_0000))) c.from_be_bytes.ensures
    ∙ kept_spells 3 c.args.block.now c.fits-block c.told-block
