use Rattle.nap_canon.proofs.{Texts.appended_after, Texts.appended_none, Texts.point_size, Texts.points_all, Texts.points_more, ap, arith, length, length-append, points_bytes, refl, with_bytes_at, ◌∙◌}
use Rattle.nap_canon.proofs.byte_buffer.write_points_at.Goals as goal

pub loop-point-init : goal.loop-point-init
unfolding points_bytes
loop-point-init c = record { bytes = appended_none c.args.bytes.now c.args.at; until = omega arith; size = refl }

pub write_bytes_at-requires : goal.write_bytes_at-requires
write_bytes_at-requires c = grind (arith, length, point_size)

pub overflow_add-until : goal.overflow_add-until
overflow_add-until c = omega (arith, c.loop-point.invariant.until, c.loop-point-test.true, c.requires.within)

pub loop-point-preserved : goal.loop-point-preserved
loop-point-preserved c = grind (arith, points_more, appended_after, length, length-append, point_size)

pub returns : goal.returns
returns c = c.loop-point.invariant.bytes ∙ ap (with_bytes_at c.args.bytes.now c.args.at) (points_all c.args.points.now c.loop-point.point-index (omega arith))
