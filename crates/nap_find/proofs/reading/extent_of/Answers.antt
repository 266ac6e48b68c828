use Rattle.std.proofs.Common.{List, [], ap, arith, drop, length, subst, sym, take, true, ℕ, ◌++◌, ◌-◌, ◌∙◌, ◌≡◌}
use Rattle.std.proofs.lemmas.List.{take_all}
use Rattle.nap_find.specs.Readings.{IsReadTo, IsRefusedAt, IsTried, is_read}
use Rattle.nap_find.proofs.IdleLemmas.{drawn_busy, found_first, found_idle, found_refused, found_short, found_whole, joined}
use Rattle.nap_find.proofs.reading.extent_of.Goals as goal

pub returns-in-Some : goal.returns-in-Some
returns-in-Some c =
    let q = c.args.bytes.now in
    let k = c.min-count.result in
    let read = c.in_ok-index.ensures.read c.new.result [] c.new-reader.ensures.has_read in
    found_first c.args.asked.now q k c.min-count.ensures c.in-Some.index (subst (IsReadTo (take k q)) c.in-Some.is read)

pub returns-then-count-bytes : goal.returns-then-count-bytes
returns-then-count-bytes c =
    let q = c.args.bytes.now in
    let k = c.min-count.result in
    let all : take k q ≡ q = take_all k q (omega (arith, c.if-count-bytes.true)) in
    let read = c.in_ok-index.ensures.read c.new.result [] c.new-reader.ensures.has_read in
    let has = c.in_ok-index.ensures.has_read c.new.result [] c.new-reader.ensures.has_read in
    let tried = c.in_ok-found.ensures c.new.result (take k q) c.new.ensures has (ap length all) in
    found_short c.args.asked.now q k c.min-count.ensures _ c.if-count-bytes.true (subst (IsReadTo (take k q)) c.in_default.is read) (subst (λ (p : List ℕ). IsTried c.args.asked.now p c.in_ok-found.found) all tried)

pub returns-then-sink-eq0 : goal.returns-then-sink-eq0
returns-then-sink-eq0 c =
    let q = c.args.bytes.now in
    let k = c.min-count.result in
    let read = c.in_ok-index.ensures.read c.new.result [] c.new-reader.ensures.has_read in
    let drawn = c.in_ok-index.ensures.drawn c.new.result [] c.new-reader.ensures.has_read in
    found_idle c.args.asked.now q k c.min-count.ensures c.new.result _ c.new.ensures c.if-count-bytes.false drawn (subst (IsReadTo (take k q)) c.in_default.is read)
    (sym (ap (λ s. s.shapes) c.sink.ensures.now) ∙ c.if-sink-eq0.true)

pub returns-in-Some-2 : goal.returns-in-Some-2
returns-in-Some-2 c =
    let q = c.args.bytes.now in
    let k = c.min-count.result in
    let has = c.in_ok-index.ensures.has_read c.new.result [] c.new-reader.ensures.has_read in
    let drawn = c.in_ok-index.ensures.drawn c.new.result [] c.new-reader.ensures.has_read in
    let busy = drawn_busy c.args.asked.now q k c.min-count.ensures c.new.result _ c.new.ensures c.if-count-bytes.false drawn (λ none. c.if-sink-eq0.false (ap (λ s. s.shapes) c.sink.ensures.now ∙ none)) in
    let read = c.in_ok-index-2.ensures.read c.new.result (take k q) has in
    found_refused c.args.asked.now q c.in-Some-2.index (subst (λ (p : List ℕ). IsRefusedAt p c.in-Some-2.index) (joined q k) (subst (IsReadTo (take k q ++ take (length q - k) (drop k q))) c.in-Some-2.is read)) busy

pub returns : goal.returns
returns c =
    let q = c.args.bytes.now in
    let k = c.min-count.result in
    let has = c.in_ok-index.ensures.has_read c.new.result [] c.new-reader.ensures.has_read in
    let drawn = c.in_ok-index.ensures.drawn c.new.result [] c.new-reader.ensures.has_read in
    let busy = drawn_busy c.args.asked.now q k c.min-count.ensures c.new.result _ c.new.ensures c.if-count-bytes.false drawn (λ none. c.if-sink-eq0.false (ap (λ s. s.shapes) c.sink.ensures.now ∙ none)) in
    let read = c.in_ok-index-2.ensures.read c.new.result (take k q) has in
    let later = c.in_ok-index-2.ensures.has_read c.new.result (take k q) has in
    let tried = c.in_ok-found-2.ensures c.new.result (take k q ++ take (length q - k) (drop k q)) c.new.ensures later (ap length (joined q k)) in
    found_whole c.args.asked.now q _ (subst (λ (p : List ℕ). is_read p ≡ true) (joined q k) (subst (IsReadTo (take k q ++ take (length q - k) (drop k q))) c.in_default-2.is read)) busy
    (subst (λ (p : List ℕ). IsTried c.args.asked.now p c.in_ok-found-2.found) (joined q k) tried)
