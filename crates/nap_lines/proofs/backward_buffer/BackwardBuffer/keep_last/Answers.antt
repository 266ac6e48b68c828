use Rattle.nap_lines.proofs.{ap, arith, drop, drop-drop, length, length-drop, sym, ◌+◌, ◌-◌, ◌∙◌, ◌≡◌}
use Rattle.nap_lines.proofs.backward_buffer.BackwardBuffer.keep_last.Goals as goal

pub invariant_of-self : goal.invariant_of-self
invariant_of-self c =
    let at = c.self.inside.at in
    let more = c.len.result - c.args.count in
    let size = ap length c.self.view_is in
    let gone = length-drop at c.self.inside.bytes in
    let made : drop (at + more) c.self.inside.bytes ≡ drop (length c.args.self.now - c.args.count) c.args.self.now =
    sym (drop-drop more at c.self.inside.bytes) ∙ ap (drop more) c.self.view_is ∙ ap (λ n. drop (n - c.args.count) c.args.self.now) c.len.ensures.count in
    record { within = omega arith; utf8 = rw made c.requires.utf8 }
