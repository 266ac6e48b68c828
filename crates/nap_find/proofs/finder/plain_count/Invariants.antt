use Rattle.std.proofs.Common.{get_or, true, ℕ, ◌<◌, ◌≡◌}
use Rattle.nap_find.specs.Rows.{is_row_byte}
use Rattle.nap_find.proofs.finder.plain_count.Given as goal

abbrev pub invariant-loop-index : goal.invariant-loop-index
invariant-loop-index l = (k : ℕ) → k < l.index → is_row_byte (get_or l.piece k 0) ≡ true
