use Rattle.nap_lines.proofs.{IsUtf8-append, WritingLemmas.last_put, ap, arith, drop, length, length-drop, ◌++◌, ◌-◌, ◌≡◌}
use borrow.Rule.Slice.PartMut.{put_mid}
use Rattle.nap_lines.proofs.backward_buffer.BackwardBuffer.push_copied.Goals as goal

pub invariant_of-self : goal.invariant_of-self
invariant_of-self c =
    let end = c.self.inside.at in
    let bytes = c.self.inside.bytes in
    let from = c.kept.inside.from in
    let size = ap length c.self.view_is in
    let gone = length-drop end bytes in
    let start = end - 16 in
    let made : drop (end - (16 - from)) (put_mid start (end - start) bytes c.copy_from_slice.new.self) ≡ drop from c.kept.inside.bytes ++ drop end bytes = grind (arith, last_put) in
    record { within = omega arith; utf8 = rw made (IsUtf8-append (drop from c.kept.inside.bytes) (drop end bytes) c.kept.invariant.utf8 c.self.invariant.utf8) }

pub returns-clause-text : goal.returns-clause-text
returns-clause-text c = grind (arith, last_put)
