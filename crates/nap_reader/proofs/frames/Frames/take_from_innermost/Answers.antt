use Rattle.nap_reader.proofs.{All-pop, All-push, Frame, FramesIn, IsFrame, List, Some, all_at, ap, arith, drop, gives, last-frame, length, subst, sym, take, unread, unread-push, ℕ, ◌++◌, ◌+◌, ◌-◌, ◌∙◌, ◌≡◌}
use Rattle.nap_reader.proofs.frames.Frames.take_from_innermost.Goals as goal

pub overflow_sub-frame : goal.overflow_sub-frame
overflow_sub-frame c =
    let k = last-frame (length c.args.bytes.now) c.args.self.now.stack.items c.pop.new.self.items c.in-Some.frame c.in-Some.ensures.items c.requires in
    omega (arith, k.0)

pub returns-then-count-frame-clause-given : goal.returns-then-count-frame-clause-given
returns-then-count-frame-clause-given c fits =
    let bytes = c.args.bytes.now in
    let items = c.in-Some.ensures.items in
    let frame = c.in-Some.frame in
    let k = last-frame (length bytes) c.args.self.now.stack.items c.pop.new.self.items frame items c.requires in
    ap (unread bytes) c.push_reserved.ensures.items ∙ unread-push bytes c.pop.new.self.items (record frame { next = frame.next + c.args.count })
    ∙ sym (ap (λ (frames : List Frame). drop c.args.count (unread bytes frames)) items ∙ gives bytes c.pop.new.self.items frame c.args.count (fits c.pop.new.self.items frame items) k.1)

pub returns-else-count-frame-clause-given : goal.returns-else-count-frame-clause-given
returns-else-count-frame-clause-given c fits =
    let bytes = c.args.bytes.now in
    let frame = c.in-Some.frame in
    let items = c.in-Some.ensures.items in
    let others = c.pop.new.self.items in
    let k = last-frame (length bytes) c.args.self.now.stack.items others frame items c.requires in
    let few = fits others frame items in
    let none : frame.end - (frame.next + c.args.count) ≡ 0 = omega (arith, c.if-count-frame.false) in
    sym (ap (λ (frames : List Frame). drop c.args.count (unread bytes frames)) items ∙ gives bytes others frame c.args.count few k.1
    ∙ ap (λ (n : ℕ). all_at frame.place (take n (drop (frame.next + c.args.count) bytes)) ++ unread bytes others) none)

pub returns-then-count-frame-clause-within : goal.returns-then-count-frame-clause-within
returns-then-count-frame-clause-within c =
    let bytes = c.args.bytes.now in
    let frame = c.in-Some.frame in
    let kept = All-pop (IsFrame (length bytes)) c.args.self.now.stack.items c.pop.new.self.items (Some frame) c.in-Some.ensures.items c.requires in
    subst (FramesIn (length bytes)) (sym c.push_reserved.ensures.items) (All-push (IsFrame (length bytes)) c.pop.new.self.items (record frame { next = frame.next + c.args.count }) kept.0 (omega (arith, c.if-count-frame.true), kept.1.1))
