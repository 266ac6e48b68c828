use Rattle.nap_lines.proofs.{IsUtf8-append, arith, common_steps, drop, length, ◌++◌, ◌-◌, ◌≡◌}
use borrow.Rule.Slice.PartMut.{put_mid}
use Rattle.nap_lines.proofs.backward_buffer.BackwardBuffer.push_bytes.Goals as goal

pub invariant_of-self : goal.invariant_of-self
invariant_of-self c =
    let end = c.self.inside.at in
    let at = end - length c.args.bytes.now in
    let made : drop at (put_mid at (end - at) c.self.inside.bytes c.copy_from_slice.new.self) ≡ c.args.bytes.now ++ drop end c.self.inside.bytes =
    grind (arith, common_steps) in
    record {
      within = omega arith;
      utf8 = rw made (IsUtf8-append c.args.bytes.now (drop end c.self.inside.bytes) c.requires.utf8 c.self.invariant.utf8);
    }
