use Rattle.nap_lines.proofs.{ap, arith, hand_of, sized_lines, sized_points, sized_text}
use Rattle.nap_lines.proofs.WritingLemmas.{lines_part, part_written, points_part, text_part}
use Rattle.nap_lines.proofs.batch.write_batch.Goals as goal

pub slice_part-requires : goal.slice_part-requires
slice_part-requires c = omega (arith, c.requires, sized_points _ _ _ c.in-Points.is)

pub line_start-from-requires : goal.line_start-from-requires
line_start-from-requires c = omega (arith, c.requires, sized_lines _ _ _ _ c.in-Lines.is)

pub slice_part-requires-in-Lines : goal.slice_part-requires-in-Lines
slice_part-requires-in-Lines c = omega (arith, c.requires, sized_lines _ _ _ _ c.in-Lines.is)

pub slice_part-requires-in-Text : goal.slice_part-requires-in-Text
slice_part-requires-in-Text c = omega (arith, c.requires, sized_text _ _ _ _ _ c.in-Text.is)

pub returns-in-Points : goal.returns-in-Points
returns-in-Points c =
    let h = c.write_point_lines.ensures in
    part_written c.in-Points.points.now _ _ _ _ c.args.text.now c.write_point_lines.new.text c.slice_part.ensures (sized_points _ _ _ c.in-Points.is) c.requires
    (points_part _ _ _ _ _ _ c.in-Points.is c.slice_part.ensures) h.count h.text h.memory

pub returns-in-Lines : goal.returns-in-Lines
returns-in-Lines c =
    let h = c.write_line_lines.ensures in
    let few = c.slice_part-in-Lines in
    part_written c.in-Lines.points.now _ _ _ _ c.args.text.now c.write_line_lines.new.text few.ensures (sized_lines _ _ _ _ c.in-Lines.is) c.requires
    (lines_part _ _ _ _ _ _ _ _ c.in-Lines.is c.line_start-from.ensures few.ensures) h.count h.text h.memory

pub returns-in-Text : goal.returns-in-Text
returns-in-Text c =
    let h = c.write_text_lines.ensures in
    let few = c.slice_part-in-Text in
    let hand = ap (λ pen. record (hand_of c.in-Text.drawing.now) { pen = pen }) c.pen_at.ensures in
    part_written c.in-Text.codes.now _ _ _ _ c.args.text.now c.write_text_lines.new.text few.ensures (sized_text _ _ _ _ _ c.in-Text.is) c.requires
    (text_part _ _ _ _ _ _ _ _ _ c.in-Text.is hand few.ensures) h.count h.text h.memory
