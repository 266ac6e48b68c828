use Rattle.nap_make.proofs.{All, IsCode, code_lines, length, ◌++◌, ◌-◌, ◌≡◌}
use Rattle.nap_make.proofs.lines.maker.read_codes.Given as goal

abbrev pub invariant-loop-rest : goal.invariant-loop-rest
invariant-loop-rest l = record {
  codes : All IsCode l.codes.items;
  lines : l.fn.bytes ≡ code_lines l.fn.line l.codes.items ++ l.rest;
}

abbrev pub decreases-loop-rest : goal.decreases-loop-rest
decreases-loop-rest l = 256 - length l.codes.items
