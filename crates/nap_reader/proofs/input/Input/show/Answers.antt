use Rattle.nap_reader.proofs.{Frame, FramesIn, IsFrame, List, Placed, StoreState, [], ap, arith, frame_bytes, frames-push, frames-store, grown, length, length-append, unread, unread-push, unread-store, ℕ, ◌++◌, ◌∙◌, ◌∷◌, ◌≡◌, frames-unread, length-all_at}
use Rattle.nap_reader.proofs.input.Input.show.Goals as goal

-- the part of the store with this frame is read next
next_read : (old new : StoreState) (more : List ℕ) (frames frames' : List Frame) (frame : Frame) → new.bytes ≡ old.bytes ++ more → frames' ≡ frames ++ frame ∷ [] → FramesIn (length old.bytes) frames → IsFrame (length new.bytes) frame →
    FramesIn (length new.bytes) frames' × (unread new.bytes frames' ≡ frame_bytes new.bytes frame ++ unread old.bytes frames)
next_read old new more frames frames' frame grown is framed within = rw is (
  frames-push (length new.bytes) frames frame (frames-store old new more frames grown framed) within,
  unread-push new.bytes frames frame ∙ ap (λ (xs : List Placed). frame_bytes new.bytes frame ++ xs) (unread-store old new more frames grown framed),
)

pub invariant_of-self-2 : goal.invariant_of-self-2
invariant_of-self-2 c =
    let input = c.args.self.now in
    let read = next_read input.store c.show.new.self _ _ _ _ (ap (λ (t : StoreState). t.bytes) c.in-Ok-show.ensures.ok) (rw c.reserve.ensures.items at c.push_reserved.ensures.items) input.framed c.in-Ok-show.ensures.within in
    grind (arith, read, length-append, length-all_at)

pub returns : goal.returns
returns c =
    let input = c.args.self.now in
    let read = next_read input.store c.show.new.self _ _ _ _ (ap (λ (t : StoreState). t.bytes) c.in-Ok-show.ensures.ok) (rw c.reserve.ensures.items at c.push_reserved.ensures.items) input.framed c.in-Ok-show.ensures.within in
    grind (arith, read, length-append, length-all_at)

pub returns-in_default : goal.returns-in_default
returns-in_default c = grind (arith, length-append, frames-unread)
