use Rattle.nap_values.proofs.{OperandLemmas.kept_all, OperandLemmas.kept_holds, ap, bit_and, refl, rules, value_of, words_in, ◌∙◌}
use Rattle.nap_values.proofs.operand.pack_eight.Goals as goal

pub new-requires : goal.new-requires
unfolding value_of
new-requires c = rw c.from_be_bytes.ensures (kept_holds 8 c.args.bytes (search rules) (search rules))

pub returns : goal.returns
unfolding value_of
returns c =
    ap words_in c.new.ensures
    ∙ ap (λ n. words_in (bit_and n 0x3F3F_3F3F_3F3F_3F3F)) c.from_be_bytes.ensures ∙ kept_all 8 c.args.bytes (search rules) (search rules) refl
