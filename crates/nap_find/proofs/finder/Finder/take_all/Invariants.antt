use Rattle.std.proofs.Common.{drop, length, ◌+◌, ◌-◌, ◌≡◌, ◌≤◌}
use Rattle.nap_find.specs.{Finders.length_so_far, Finders.finding_of, Rows.find_on}
use Rattle.nap_find.proofs.finder.Finder.take_all.Given as goal

abbrev pub invariant-loop-at : goal.invariant-loop-at
invariant-loop-at l = record {
  finding : find_on l.fn.self.asked (finding_of l.self l.found) (drop l.at l.piece) ≡ find_on l.fn.self.asked (finding_of l.fn.self l.fn.found) l.piece;
  within : l.at ≤ length l.piece;
  bytes : length_so_far l.self ≡ length_so_far l.fn.self + l.at;
  asked : l.self.asked ≡ l.fn.self.asked;
  lacks : l.self.lacks ≡ l.fn.self.lacks;
}

abbrev pub decreases-loop-at : goal.decreases-loop-at
decreases-loop-at l = length l.piece - l.at
