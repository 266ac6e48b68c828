use Rattle.nap_lines.proofs.{All-append, All-cons, All-nil, [], add-one, ap, arith, code_text, patched, recoded, refl, slice_index, take, take_more, ℕ, ◌*◌, ◌+◌, ◌∙◌, ◌∷◌, ◌≤◌}
use Rattle.nap_lines.proofs.block.recode_lines.Goals as goal

pub loop-i-init : goal.loop-i-init
unfolding recoded
loop-i-init c = record { characters = λ k d less. absurd (omega (arith, less)); block = refl }

pub loop-i-preserved : goal.loop-i-preserved
unfolding recoded
loop-i-preserved c =
    let codes = c.args.codes.now in
    let i = c.loop-i.i in
    let code : ℕ = slice_index codes i in
    let letter = λ (code : ℕ). 0x20 ≤ code in
    record {
      characters = rw (take_more codes i 0 c.loop-i-test.true)
          (All-append letter (take i codes) (code ∷ []) c.loop-i.invariant.characters (All-cons letter code [] (omega (arith, c.if-code-lt32.false)) (All-nil letter)));
      block = rw add-one (c.put_code.ensures ∙ ap (λ bytes. patched bytes (i * c.args.size + c.args.place) (code_text code)) c.loop-i.invariant.block);
    }
