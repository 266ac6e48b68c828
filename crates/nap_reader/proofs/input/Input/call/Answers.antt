use Rattle.nap_reader.proofs.{Frame, List, [], ap, arith, body_of, frames-push, length, length-all_at, length-sublist, length-unread-push, nil_from_length, same_input, unread, unread-push, ◌++◌, ◌+◌, ◌∙◌, ◌∷◌, ◌≡◌, frames-unread}
use Rattle.nap_reader.proofs.input.Input.call.Goals as goal
use Rattle.nap_reader.proofs.input.Input.call.Goals.{After-span-span}

-- the number of bytes of the body
counted : (c : After-span-span) → length (body_of c.args.self.now.store.names c.args.name) + c.span-span.result.start ≡ c.span-span.result.end
counted c = grind (arith, length-sublist)

pub invariant_of-self-2-clause-framed : goal.invariant_of-self-2-clause-framed
invariant_of-self-2-clause-framed c =
    let within = c.span-span.ensures.within in
    rw (c.push_reserved.ensures.items, c.reserve.ensures.items) (frames-push _ _ _ c.args.self.now.framed (omega (arith, c.if-count-eq0.false, within.0), within.1))

pub invariant_of-self-2-clause-turned : goal.invariant_of-self-2-clause-turned
invariant_of-self-2-clause-turned c =
    let input = c.args.self.now in
    let span = c.span-span.result in
    let frame : Frame = record { next = span.start; end = span.end; place = c.args.place } in
    let more = ap (λ (fs : List Frame). length (unread input.store.bytes fs)) (c.push_reserved.ensures.items ∙ ap (λ (fs : List Frame). fs ++ frame ∷ []) c.reserve.ensures.items)
    ∙ length-unread-push input.store.bytes input.frames.stack.items frame (omega (arith, c.if-count-eq0.false, c.span-span.ensures.within.0), c.span-span.ensures.within.1) in
    omega (arith, input.turned, more)

pub returns-then-count-eq0 : goal.returns-then-count-eq0
returns-then-count-eq0 c = grind (arith, nil_from_length, counted, same_input)

pub returns-then-count-budget_left : goal.returns-then-count-budget_left
returns-then-count-budget_left c = grind (arith, counted)

pub returns-in_default : goal.returns-in_default
returns-in_default c = grind (arith, counted, frames-unread)

pub returns : goal.returns
returns c = grind (arith, counted, unread-push, length-all_at)
