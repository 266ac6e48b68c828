use Rattle.nap_lines.proofs.{[], ap, append_assoc, arith, code_text, drop, set, sets-eq, suc, take, ◌++◌, ◌+◌, ◌∙◌, ◌∷◌, ◌≡◌}
use Rattle.nap_lines.proofs.block.put_code.Goals as goal

pub returns : goal.returns
returns c =
    let block = c.args.block.now in
    let at = c.args.at in
    let high = c.digit.result in
    let low = c.digit-2.result in
    let next : at + 1 ≡ suc at = omega arith in
    let digits : high ∷ low ∷ [] ≡ code_text c.args.code = rw (c.digit.ensures, c.digit-2.ensures) in
    ap (λ n. set (set block at high) n low) next
    ∙ sets-eq (high ∷ low ∷ []) block at (omega (arith, c.requires.within))
    ∙ append_assoc (take at block) (high ∷ low ∷ []) (drop (at + 2) block)
    ∙ ap (λ two. take at block ++ (two ++ drop (at + 2) block)) digits
