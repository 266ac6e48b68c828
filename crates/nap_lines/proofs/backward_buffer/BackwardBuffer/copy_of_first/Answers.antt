use Rattle.nap_lines.proofs.{IsWholeChunk, List, MatchOption, WritingLemmas.first_copied, ap, arith, drop, length, length-drop, subst, take, ℕ, ◌+◌, ◌-◌, ◌≢◌}
use Rattle.nap_lines.proofs.backward_buffer.BackwardBuffer.copy_of_first.Goals as goal

pub invariant_of-result : goal.invariant_of-result
invariant_of-result c =
    let at = c.self.inside.at in
    let bytes = c.self.inside.bytes in
    let count = c.args.count in
    let size = ap length c.self.view_is in
    let gone = length-drop at bytes in
    let part : List ℕ = take (at + count - (at + count - 16)) (drop (at + count - 16) bytes) in
    let whole : IsWholeChunk part c.unwrap.result.now 16 = subst (λ found. MatchOption found (length part ≢ 16) (λ y. IsWholeChunk part y.now 16)) c.unwrap.ensures c.as_array-bytes.ensures.cases in
    let made = first_copied bytes c.args.self.now c.unwrap.result.now at count c.self.view_is whole.same c.requires.few (omega arith) in
    record { within = omega arith; utf8 = rw made c.requires.utf8 }

pub returns : goal.returns
returns c = grind (arith, first_copied)
