use Rattle.nap_lines.proofs.{Coordinates, List, ap, append-nil, append_assoc, arith, codes, ink_of, ink_text, length, length-append, line_front, point_text, polyline_entries, refl, rules, sym, ℕ, ◌++◌, ◌+◌, ◌∙◌, ◌≡◌}
use Rattle.nap_lines.proofs.WritingLemmas.{ended, kept, line_line, next_line, one_entry, text_goes}
use Rattle.nap_lines.proofs.batch.write_line_lines.Goals as goal

-- the beginning of a Line's line, pushed part by part
made_front : (from to : Coordinates) {pointed spaced started named kept : List ℕ} (end : List ℕ) → pointed ≡ point_text to ++ end → spaced ≡ codes " " ++ pointed → started ≡ kept ++ spaced →
    named ≡ codes "LINE " ++ started → kept ≡ point_text from → named ≡ line_front from to ++ end
made_front from to end point space start name is = grind (arith, append_assoc)

pub loop-to-init : goal.loop-to-init
loop-to-init c =
    let end = rw c.ink.ensures at (ended (codes " " ++ ink_text c.ink.result) c.push_ink_part.ensures.text c.push.ensures.text c.clear.ensures) in
    record {
      front = codes "LINE " ++ point_text c.args.from;
      buffer = c.push-2.ensures.text ∙ ap (codes "LINE " ++◌) (c.push_point_copied-kept.ensures.text ∙ ap (point_text c.args.from ++◌) end);
      written = refl;
      at = c.args.from;
      kept = c.push_point_copied-kept.ensures.kept;
      short = c.push_point_copied-kept.ensures.few;
      few = omega arith;
      capacity = omega arith;
      text = sym (append-nil c.args.text.now.items);
      rest = refl;
    }

pub keep_last-requires-clause-within : goal.keep_last-requires-clause-within
keep_last-requires-clause-within c = grind (arith, ended, length-append)

pub keep_last-requires-clause-utf8 : goal.keep_last-requires-clause-utf8
keep_last-requires-clause-utf8 c = grind (arith, ended, kept)

pub copy_of_first-name-requires-clause-utf8 : goal.copy_of_first-name-requires-clause-utf8
copy_of_first-name-requires-clause-utf8 c = rw (c.push-2.ensures.text) (search rules)

pub loop-to-preserved : goal.loop-to-preserved
loop-to-preserved c =
    let invariant = c.loop-to.invariant in
    let d = c.args.drawing.now in
    let end = rw c.ink.ensures at (ended (codes " " ++ ink_text c.ink.result) c.push_ink_part.ensures.text c.push.ensures.text c.clear.ensures) in
    let at = invariant.at in
    let to = c.to-item.result in
    let i = c.loop-to.to-index in
    let points = c.args.points.now in
    let list = polyline_entries d c.args.from points in
    let buffer =
    made_front at to c.keep_last.new.self c.push_point_copied-next.ensures.text c.push-in-loop-to.ensures.text c.push_copied.ensures.text (rw (c.copy_of_first-name.ensures, c.push-2.ensures.text) at c.push_copied-in-loop-to.ensures.text) invariant.kept
    ∙ ap (line_front at to ++◌) (c.keep_last.ensures ∙ kept invariant.front invariant.buffer (c.len-end.ensures.count ∙ ap length end)) in
    let line = c.as_slice.ensures.bytes ∙ buffer ∙ line_line (ink_of d) at to in
    let one = one_entry list i (next_line d at to points list i (omega arith) c.to-item.is invariant.rest) in
    record {
      front = line_front at to;
      buffer = buffer;
      written = ap (λ n. n + 1) invariant.written;
      few = omega (arith, invariant.few, c.in-Ok.ensures.len, c.as_slice.ensures.few);
      capacity = omega (arith, invariant.capacity, c.extend_from_slice.ensures.capacity);
      at = to;
      kept = c.push_point_copied-next.ensures.kept;
      short = c.push_point_copied-next.ensures.few;
      text = text_goes _ _ _ invariant.text (c.in-Ok.ensures.items ∙ ap (c.loop-to.text.items ++◌) line) one.0;
      rest = one.1;
    }
