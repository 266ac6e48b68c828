use Rattle.nap_reader.proofs.{List, drop, is_of_text, length, prefix_len, ℕ, ◌+◌, ◌-◌, ◌≡◌, ◌≤◌}
use Rattle.nap_reader.proofs.prefix.text_bytes.Given as goal

-- the bytes so far are of a text
abbrev AreOfText : ℕ → List ℕ → Type 0
AreOfText at piece = (prefix_len is_of_text piece ≡ at + prefix_len is_of_text (drop at piece)) × (at ≤ length piece)

abbrev pub invariant-loop-at : goal.invariant-loop-at
invariant-loop-at l = AreOfText l.at l.piece

abbrev pub decreases-loop-at : goal.decreases-loop-at
decreases-loop-at l = length l.piece - l.at

abbrev pub invariant-loop-at-2 : goal.invariant-loop-at-2
invariant-loop-at-2 l = AreOfText l.at l.piece

abbrev pub decreases-loop-at-2 : goal.decreases-loop-at-2
decreases-loop-at-2 l = length l.piece - l.at

abbrev pub invariant-loop-at-3 : goal.invariant-loop-at-3
invariant-loop-at-3 l = AreOfText l.at l.piece

abbrev pub decreases-loop-at-3 : goal.decreases-loop-at-3
decreases-loop-at-3 l = length l.piece - l.at
