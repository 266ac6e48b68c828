use Rattle.nap_reader.proofs.{List, arith, count_trailing_zeros, in_block, is_operand_byte, is_other, length, length-take-le, map, prefix_len, refl, sym, take, whole_run_is, ℕ, ◌<◌, ◌∙◌, ◌≡◌, ◌≤◌}
use Rattle.nap_reader.proofs.OperandLemmas.{ends_in_block}
use Rattle.nap_reader.proofs.prefix.whole_run.Goals as goal
use lib.Lanes.{chunk, mask_l}

-- the operand bytes end in the first block
counted : (piece : List ℕ) (n others : ℕ) → n ≡ count_trailing_zeros 64 others → 16 ≤ length piece → others ≡ mask_l (map (is_other 64) (chunk 0 16 piece)) → 0 < others →
    (n ≡ prefix_len is_operand_byte piece) × (n < 16) × (n ≡ length (take n piece))
counted piece n others counts long is some =
    let first = in_block 64 16 piece 0 long others is (omega arith) some in
    let few : n < 16 = omega (arith, counts, first, ends_in_block 64 16 piece 0 long (omega (arith, is, some))) in
    (counts ∙ sym first, few, sym (length-take-le n piece (omega (arith, few, long))))

pub slice_bounds-result-end : goal.slice_bounds-result-end
slice_bounds-result-end c = (counted c.args.piece.now _ _ refl (omega arith) c.others_in_sixteen-others.ensures (omega arith)).2

pub returns-then-others-ne0-clause-short : goal.returns-then-others-ne0-clause-short
returns-then-others-ne0-clause-short c =
    let few = counted c.args.piece.now _ _ refl (omega arith) c.others_in_sixteen-others.ensures (omega arith) in
    omega (arith, few.1, few.2)

pub returns-then-others-ne0-clause-whole : goal.returns-then-others-ne0-clause-whole
returns-then-others-ne0-clause-whole c following over =
    let few = counted c.args.piece.now _ _ refl (omega arith) c.others_in_sixteen-others.ensures (omega arith) in
    whole_run_is c.args.piece.now following _ few.0 (λ same. absurd (omega (arith, same, few.1)))

pub returns-clause-whole : goal.returns-clause-whole
returns-clause-whole c following over = whole_run_is c.args.piece.now following c.prefix_from-count.result c.prefix_from-count.ensures (λ same. over (grind arith))
