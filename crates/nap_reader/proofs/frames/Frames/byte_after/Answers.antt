use Rattle.nap_reader.proofs.{All-pop, drop_of_length-le, eqb-true, IsFrame, Some, arith, drop, drop_more, following_in_body, get_or_append_left, length, length-append, nil_from_length, ◌++◌, ◌+◌}
use Rattle.nap_reader.proofs.frames.Frames.byte_after.Goals as goal

pub returns-then-frames-gt1 : goal.returns-then-frames-gt1
returns-then-frames-gt1 c before frame last =
    let stored = c.args.bytes.now in
    let framed = All-pop (IsFrame (length stored)) c.args.self.now.stack.items before (Some frame) last c.requires.framed in
    let (rest, is) = following_in_body stored before framed.0 (record { next = 0; end = 0; place = 0 }) (grind (arith, length-append)) in
    (rest ++ drop c.args.at c.args.piece.now, grind (arith, is, get_or_append_left, length-append))

pub returns : goal.returns
returns c before frame last = (drop (c.args.at + 1) c.args.piece.now, grind (arith, nil_from_length, length-append, drop_more))

pub returns-then-is_empty : goal.returns-then-is_empty
returns-then-is_empty c = grind (arith, length-append, nil_from_length, eqb-true, drop_of_length-le)
