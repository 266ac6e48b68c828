use Rattle.nap_lines.proofs.{filled, ◌≡◌}
use Rattle.nap_lines.proofs.block.fill_lines.Given as goal

-- i copies of the line
abbrev pub invariant-loop-i : goal.invariant-loop-i
invariant-loop-i l = l.block ≡ filled l.i l.line l.fn.block
