use Rattle.nap_lines.proofs.{List, WritingLemmas.ended, WritingLemmas.kept, WritingLemmas.text_written, ap, append_assoc, arith, codes, drop, hand_text_without_pen, length, length-append, pen_text, sym, text_byte_front, ℕ, ◌++◌, ◌-◌, ◌∙◌, ◌≡◌}
use Rattle.nap_lines.proofs.batch.write_text_lines.Goals as goal

-- the buffer with the first line, and its end
first_line_buffer : {buffer penned pushed shared : List ℕ} {n : ℕ} (front pen : List ℕ) → buffer ≡ front ++ pushed → pushed ≡ codes " pen=" ++ penned → penned ≡ pen ++ shared → n ≡ length shared →
    (buffer ≡ front ++ (codes " pen=" ++ (pen ++ shared))) × (drop (length buffer - n) buffer ≡ shared)
first_line_buffer front pen is push pens size =
    let apart = is ∙ ap (front ++◌) (push ∙ ap (codes " pen=" ++◌) pens) in
    (apart, kept (front ++ (codes " pen=" ++ pen)) (apart ∙ sym (append_assoc front _ _)) size)

pub keep_last-requires-clause-within : goal.keep_last-requires-clause-within
keep_last-requires-clause-within c = grind (arith, length-append)

pub keep_last-requires-clause-utf8 : goal.keep_last-requires-clause-utf8
keep_last-requires-clause-utf8 c =
    let buffer = first_line_buffer _ _ c.push_text_byte_front.ensures c.push-2.ensures.text c.push_pen.ensures.text c.len-end.ensures.count in
    rw buffer.1 c.len-end.ensures.utf8

pub returns-clause-text : goal.returns-clause-text
returns-clause-text c =
    let hand = c.args.hand.now in
    let end = ended (hand_text_without_pen hand) c.push_hand_without_pen.ensures.text c.push.ensures.text c.clear.ensures in
    let buffer = first_line_buffer _ (pen_text hand.pen) c.push_text_byte_front.ensures c.push-2.ensures.text c.push_pen.ensures.text c.len-end.ensures.count in
    let line = c.as_slice.ensures.bytes ∙ buffer.0 ∙ ap (λ bytes. text_byte_front c.args.set c.in-Some.first.now ++ (codes " pen=" ++ (pen_text hand.pen ++ bytes))) end in
    let further = c.push-3.ensures.text ∙ ap (codes " pen=after" ++◌) (c.keep_last.ensures ∙ buffer.1 ∙ end) in
    text_written c.args.set hand _ _ _ c.in-Some.ensures.cases.0 c.in-Ok.ensures.items line further c.write_many.ensures.text
