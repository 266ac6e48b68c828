use Rattle.nap_lines.proofs.{All, recoded, take, ◌≡◌, ◌≤◌}
use Rattle.nap_lines.proofs.block.recode_lines.Given as goal

-- the digits of the first i codes
abbrev pub invariant-loop-i : goal.invariant-loop-i
invariant-loop-i l = record {
  characters : All (λ code. 0x20 ≤ code) (take l.i l.codes);
  block : l.block ≡ recoded l.size l.place l.codes l.i l.fn.block;
}
