use Rattle.nap_command.proofs.{BreaksWithin, Fault, HasRead, [], ap, arith, begun, drop, false≢true, length, length-drop, length-take-le, lines, lines_on, means, subst, sym, take, take-append-drop, ◌++◌, ◌+◌, ◌-◌, ◌∙◌, ◌≡◌, ◌≢◌, ◌≤◌}
use Rattle.nap_command.proofs.LineLemmas.{IsFed, all_places, breaks_at, breaks_last, broke_apart, came, came_last, kept, kept_refused, last_count, last_new, lines_taken, next_count, next_has_read, next_new, next_same, next_written, no_entries, no_lines, none_before, own_cause, rest_is, still_refused, stops_so, whole_page, written_last}
use Rattle.nap_command.proofs.batch.places.read_places.Goals.{After-feed}
use Rattle.nap_command.proofs.batch.places.read_places.Goals as goal

pub loop-place-init : goal.loop-place-init
loop-place-init c =
    let new = c.new-reader.ensures in
    let has_read = subst (λ s. HasRead c.new-reader.result s []) c.new-2.ensures new.has_read in
    let empty = ap (λ s. s.text) (new.sink ∙ c.new-2.ensures) in
    let none = no_entries (begun c.args.budget []).entries (sym (kept lines_taken has_read new.budget new.unrefused) ∙ empty) in
    record {
      within = omega arith;
      fed = new.fed;
      budget = new.budget;
      live = new.unrefused;
      has_read = has_read;
      count = c.in_ok-written.ensures.1 ∙ sym (ap length none);
      size = c.in_ok-written.ensures.2 ∙ sym (ap (λ es. length (lines es)) none);
      text = c.in_ok-written.ensures.0 ∙ sym (none_before c.args.budget c.args.page.now);
    }

-- what comes of the bytes that a reader has looked at
fed : (c : After-feed) → IsFed c.loop-place.reader c.feed.new.self c.args.budget c.args.page.now (take (length c.args.page.now - c.loop-place.place) (drop c.loop-place.place c.args.page.now))
    c.loop-place.place c.ahead.result c.stride_of-count.result.0 c.stride_of-count.result.1
fed c = record {
  within = c.loop-place-test.true;
  rest_is = rest_is c.args.page.now c.loop-place.place;
  count = c.stride_of-count.ensures.count;
  pace = c.stride_of-count.ensures.step;
  some = c.ahead.ensures.some;
  adds = c.ahead.ensures.adds_entries;
  live = c.loop-place.invariant.live;
  was = c.loop-place.invariant.budget;
  before = c.loop-place.invariant.has_read;
  has_read = c.feed.ensures.has_read;
  still = c.feed.ensures.budget;
}

pub returns-in-Err : goal.returns-in-Err
returns-in-Err c =
    let budget = c.args.budget in
    let page = c.args.page.now in
    let i = c.loop-place.place in
    let inv = c.loop-place.invariant in
    let n = c.stride_of-count.result.0 in
    let q = c.in-Err.refusal in
    let text = c.loop-place.written.text.items in
    let f = fed (goal.at.returns-in-Err c).After-feed in
    let within : i + n ≤ length page =
    omega (arith, c.loop-place-test.true, c.stride_of-count.ensures.count, c.ahead.ensures.within, ap length (rest_is page i), length-drop i page) in
    let k = λ (apart : q.fault ≢ Fault.Memory).
    kept_refused lines_taken (next_has_read f) (next_same f) q c.in-Err.ensures.answered
    (own_cause q.fault apart (λ is. false≢true (c.in-Err.ensures.failed inv.live is))) in
    let fresh = λ (apart : q.fault ≢ Fault.Memory).
    next_new f c.loop-place.written.known c.text-lines.result.now inv.size (c.text-lines.ensures ∙ (ap (λ s. s.text) c.sink.ensures.now ∙ (k apart).0)) in
    stops_so budget page c.stopped_places.result q c.loop-place.written.known i c.stride_of-count.result.1 c.text-lines.result.now text (came f) c.stopped_places.ensures.ended
    c.stopped_places.ensures.memory c.stopped_places.ensures.own fresh
    (λ apart. (
      ap (λ bs. (means budget bs).refusal) (sym (take-append-drop (i + n) page)) ∙ still_refused budget (take (i + n) page) (drop (i + n) page) q (k apart).1,
      next_written f text inv.text ∙ sym (all_places budget page (i + n) q (k apart).1 within),
    ))
    (breaks_at page i n (ap (take n) (rest_is page i)) inv.budget inv.has_read (c.in-Err.ensures.stops inv.live).1)

pub loop-place-preserved : goal.loop-place-preserved
loop-place-preserved c =
    let budget = c.args.budget in
    let page = c.args.page.now in
    let i = c.loop-place.place in
    let inv = c.loop-place.invariant in
    let rest = take (length page - i) (drop i page) in
    let n = c.stride_of-count.result.0 in
    let f = fed (goal.at.loop-place-preserved c).After-feed in
    let few : n ≤ length rest = omega (arith, c.stride_of-count.ensures.count, c.ahead.ensures.within) in
    let within : i + n ≤ length page = omega (arith, c.loop-place-test.true, few, ap length (rest_is page i), length-drop i page) in
    let all = c.text.ensures ∙ (ap (λ s. s.text) c.sink-in-loop-place.ensures.now
    ∙ kept lines_taken (next_has_read f) (next_same f) c.in_default.ensures.answered) in
    let w = c.in_ok-write_new.ensures (came f) (next_new f c.loop-place.written.known c.text.result.now inv.size all) in
    record {
      within = within;
      fed = omega (arith, c.in_default.ensures.fed, inv.fed, length-take-le n rest few);
      budget = next_same f;
      live = c.in_default.ensures.answered;
      has_read = next_has_read f;
      count = w.count ∙ next_count f c.loop-place.written.count inv.count;
      size = w.known ∙ ap length all;
      text = w.text ∙ next_written f c.loop-place.written.text.items inv.text;
    }

pub returns-in_ok-write_new-in-Ok : goal.returns-in_ok-write_new-in-Ok
returns-in_ok-write_new-in-Ok c =
    let budget = c.args.budget in
    let page = c.args.page.now in
    let i = c.loop-place.place in
    let inv = c.loop-place.invariant in
    let end : i ≡ length page = omega (arith, inv.within, c.loop-place-test.false) in
    let has_read = subst (λ bs. HasRead c.loop-place.reader no_lines bs) (whole_page budget page i end) inv.has_read in
    let taken = c.in-Ok.ensures.ok no_lines page has_read in
    let all = c.text-in-Ok.ensures ∙ (taken.1.text ∙ ap (λ b. lines (means b page).entries) inv.budget) in
    let w = c.in_ok-write_new-in-Ok.ensures (came_last budget page i end) (last_new budget page i end c.loop-place.written.known c.text-in-Ok.result.now inv.size all) in
    record {
      accepted = ap (λ b. (means b page).refusal) (sym inv.budget) ∙ taken.0;
      count = w.count ∙ last_count budget page i end c.loop-place.written.count inv.count;
      text_is = w.text ∙ (ap (◌++ lines_on i 0 (came_last budget page i end)) inv.text ∙ written_last budget page i end);
    }

pub returns-in-Err-finish : goal.returns-in-Err-finish
returns-in-Err-finish c =
    let budget = c.args.budget in
    let page = c.args.page.now in
    let i = c.loop-place.place in
    let inv = c.loop-place.invariant in
    let reader = c.loop-place.reader in
    let q = c.in-Err-finish.end.refusal in
    let text = c.loop-place.written.text.items in
    let end : i ≡ length page = omega (arith, inv.within, c.loop-place-test.false) in
    let has_read = subst (λ bs. HasRead reader no_lines bs) (whole_page budget page i end) inv.has_read in
    let last = came_last budget page i end in
    let taken = λ (apart : q.fault ≢ Fault.Memory).
    c.in-Err-finish.ensures.err (own_cause q.fault apart (λ is. false≢true (c.in-Err-finish.ensures.failed inv.live is))) no_lines page has_read in
    let fresh = λ (apart : q.fault ≢ Fault.Memory).
    last_new budget page i end c.loop-place.written.known c.text-in-Err-finish.result.now inv.size
    (c.text-in-Err-finish.ensures ∙ ((taken apart).1.text ∙ ap (λ b. lines (means b page).entries) inv.budget)) in
    stops_so budget page c.stopped_places-in-Err-finish.result q c.loop-place.written.known i 0 c.text-in-Err-finish.result.now text last c.stopped_places-in-Err-finish.ensures.ended
    c.stopped_places-in-Err-finish.ensures.memory c.stopped_places-in-Err-finish.ensures.own fresh
    (λ apart. (
      ap (λ b. (means b page).refusal) (sym inv.budget) ∙ (taken apart).0,
      ap (◌++ lines_on i 0 last) inv.text ∙ written_last budget page i end,
    ))
    (λ is. subst (λ b. BreaksWithin b page q.place) inv.budget (breaks_last (c.in-Err-finish.ensures.breaks inv.live (λ own. broke_apart is own) no_lines page has_read)))
