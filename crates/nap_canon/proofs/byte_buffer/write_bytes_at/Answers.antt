use Rattle.nap_canon.proofs.{List, Texts.appended_after, Texts.appended_none, [], ap, arith, length-take-le, slice_index, sym, take, take_all, take_more, with_bytes_at, ℕ, ◌++◌, ◌+◌, ◌∙◌, ◌∷◌, ◌≡◌}
use Rattle.nap_canon.proofs.byte_buffer.write_bytes_at.Goals as goal

pub loop-i-init : goal.loop-i-init
loop-i-init c = appended_none c.args.bytes.now c.args.at

pub loop-i-preserved : goal.loop-i-preserved
loop-i-preserved c =
    let buffer = c.args.bytes.now in
    let more = c.args.more.now in
    let at = c.args.at in
    let i = c.loop-i.i in
    let byte : ℕ = slice_index more i in
    let within = c.loop-i-test.true in
    let now : List ℕ = take i more in
    let size = length-take-le i more (omega (arith, within)) in
    let one : take (i + 1) more ≡ now ++ byte ∷ [] = take_more more i 0 within in
    c.write_byte_at.ensures
    ∙ ap (λ (bs : List ℕ). with_bytes_at bs (at + i) (byte ∷ [])) c.loop-i.invariant
    ∙ appended_after buffer now (byte ∷ []) at (at + i) (omega (arith, size)) (omega (arith, within, c.requires.within))
    ∙ ap (with_bytes_at buffer at) (sym one)

pub returns : goal.returns
returns c = c.loop-i.invariant ∙ ap (with_bytes_at c.args.bytes.now c.args.at) (take_all c.loop-i.i c.args.more.now (omega (arith, c.loop-i-test.false)))
