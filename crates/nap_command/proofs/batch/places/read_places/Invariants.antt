use Rattle.nap_command.proofs.{HasRead, LineLemmas.known, LineLemmas.no_lines, None, budget_of, fed_of, length, lines, places_before, refusal_of, take, ◌-◌, ◌≡◌, ◌≤◌}
use Rattle.nap_command.proofs.batch.places.read_places.Given as goal

abbrev pub invariant-loop-place : goal.invariant-loop-place
invariant-loop-place l = record {
  within : l.place ≤ length l.page;
  fed : fed_of l.reader ≡ l.place;
  budget : budget_of l.reader ≡ l.fn.budget;
  live : refusal_of l.reader ≡ None;
  has_read : HasRead l.reader no_lines (take l.place l.page);
  count : l.written.count ≡ length (known l.fn.budget l.page l.place);
  size : l.written.known ≡ length (lines (known l.fn.budget l.page l.place));
  text : l.written.text.items ≡ places_before l.fn.budget l.page l.place;
}

abbrev pub decreases-loop-place : goal.decreases-loop-place
decreases-loop-place l = length l.initial.page - l.place
