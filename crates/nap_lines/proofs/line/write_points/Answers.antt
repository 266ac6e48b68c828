use Rattle.nap_lines.proofs.{IsUtf8-append, WritingLemmas.text_goes, ap, append-nil, arith, codes, drop, flat_map-append, length, length-take, point_text, points_text, take, take-add, ◌++◌, ◌∙◌, ◌≤◌}
use Rattle.nap_lines.proofs.line.write_points.Goals as goal

pub loop-written-preserved : goal.loop-written-preserved
loop-written-preserved c =
    let at = c.loop-written.invariant in
    let all = c.args.points.now in
    let i = c.loop-written.written in
    let count = c.min-count.result in
    let made =
    c.as_slice.ensures.bytes
    ∙ c.push_points.ensures.text
    ∙ ap (points_text c.slice_part.result.now ++◌) c.clear.ensures
    ∙ append-nil _
    ∙ ap points_text c.slice_part.ensures in
    let short : length c.slice_part.result.now ≤ count = omega (arith, ap length c.slice_part.ensures, length-take count (drop i all)) in
    record {
      within = omega (arith, c.min-count.ensures, c.loop-written-test.true);
      few = omega (arith, at.few, c.in_ok-extend_from_slice.ensures.len, ap length c.as_slice.ensures.bytes, c.push_points.ensures.size, ap length c.clear.ensures);
      capacity = omega (arith, at.capacity, c.in_ok-extend_from_slice.ensures.capacity);
      text = text_goes _ _ _ at.text
          (c.in_ok-extend_from_slice.ensures.items ∙ ap (c.loop-written.text.items ++◌) made)
          (ap points_text (take-add i count all) ∙ flat_map-append (λ p. codes " " ++ point_text p) (take i all) _);
      utf8 = λ h. rw c.in_ok-extend_from_slice.ensures.items (IsUtf8-append _ _ (at.utf8 h) c.as_slice.ensures.utf8);
    }
