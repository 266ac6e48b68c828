use Rattle.std.proofs.Common.{drop, ◌++◌, ◌≡◌}
use Rattle.nap_mend.specs.Mending.{parts_from}
use Rattle.nap_mend.proofs.mended.parts_from.Given as goal

abbrev pub invariant-loop-border : goal.invariant-loop-border
invariant-loop-border l = l.parts.items ++ parts_from l.from (drop l.border-index l.borders) ≡ parts_from 0 l.borders
