use Rattle.nap_lines.proofs.{ap, arith, length-append, map, point_end, point_entry, point_front, ◌++◌, ◌+◌, ◌∙◌}
use Rattle.nap_lines.proofs.WritingLemmas.{dot_line, ended, kept, next_dot, one_entry, text_goes}
use Rattle.nap_lines.proofs.batch.write_point_lines.Goals as goal

pub keep_last-requires-clause-within : goal.keep_last-requires-clause-within
keep_last-requires-clause-within c = grind (arith, length-append)

pub keep_last-requires-clause-utf8 : goal.keep_last-requires-clause-utf8
keep_last-requires-clause-utf8 c = grind (arith, kept)

pub loop-at-preserved : goal.loop-at-preserved
loop-at-preserved c =
    let invariant = c.loop-at.invariant in
    let d = c.args.drawing.now in
    let at = c.at-item.result in
    let i = c.loop-at.at-index in
    let list = map (point_entry d) c.args.points.now in
    let end = ended (point_end d.pel d.colour) c.push_point_end.ensures.text c.push.ensures.text c.clear.ensures in
    let buffer = c.push_point_front.ensures ∙ ap (point_front at ++◌) (c.keep_last.ensures ∙ kept invariant.front invariant.buffer c.len-end.ensures.count) in
    let line = c.as_slice.ensures.bytes ∙ buffer ∙ ap (point_front at ++◌) end ∙ dot_line d at in
    let one = one_entry list i (next_dot d c.args.points.now at i (omega arith) c.at-item.is) in
    record {
      front = point_front at;
      buffer = buffer;
      written = ap (λ n. n + 1) invariant.written;
      few = omega (arith, invariant.few, c.in-Ok.ensures.len, c.as_slice.ensures.few);
      capacity = omega (arith, invariant.capacity, c.extend_from_slice.ensures.capacity);
      text = text_goes _ _ _ invariant.text (c.in-Ok.ensures.items ∙ ap (c.loop-at.text.items ++◌) line) one.0;
    }
