use Rattle.nap_canon.proofs.{List, Texts.appended_after, Texts.appended_none, Texts.displacements_more, Texts.move_size, [], ap, append-nil, arith, displacement_bytes, displacement_to, drop_of_length-le, length, length-append, move_bytes, refl, with_bytes_at, ℕ, ◌*◌, ◌++◌, ◌+◌, ◌∙◌, ◌≡◌}
use Rattle.nap_canon.proofs.byte_buffer.write_displacements_at.Goals as goal

pub loop-i-init : goal.loop-i-init
loop-i-init c = ([], appended_none c.args.bytes.now c.args.at, refl, refl)

pub write_bytes_at-requires : goal.write_bytes_at-requires
write_bytes_at-requires c = grind (arith, length, move_size)

pub loop-i-preserved : goal.loop-i-preserved
loop-i-preserved c =
    let buffer = c.args.bytes.now in
    let others = c.args.others.now in
    let i = c.loop-i.i in
    let at = c.args.at in
    let from = c.loop-i.from in
    let to = c.index-others-i.result in
    let (done, bytes, size, all) = c.loop-i.invariant in
    let step : List ℕ = move_bytes (displacement_to from to) in
    let spelled : c.deref.result.now ≡ step = c.deref.ensures.0 ∙ c.put_move-operand.ensures ∙ ap move_bytes c.to.ensures in
    let long : length step ≡ 8 = move_size (displacement_to from to) in (
      done ++ step,
      c.write_bytes_at.ensures
          ∙ ap (λ (bs : List ℕ). with_bytes_at c.loop-i.bytes (at + 8 * i) bs) spelled
          ∙ ap (λ (bs : List ℕ). with_bytes_at bs (at + 8 * i) step) bytes
          ∙ appended_after buffer done step at (at + 8 * i) (omega (arith, size)) (omega (arith, c.loop-i-test.true, c.requires.within)),
      omega (arith, length-append done step, size, long),
      displacements_more done (done ++ step) step (displacement_bytes c.args.first others) from to others i c.loop-i-test.true c.index-others-i.is refl refl all,
    )

pub returns : goal.returns
unfolding displacement_bytes
returns c = grind (arith, drop_of_length-le, append-nil)
