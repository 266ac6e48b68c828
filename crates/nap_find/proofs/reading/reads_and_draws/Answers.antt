use Rattle.std.proofs.Common.{[], ap, drop, length, nat_lt, subst, sym, take, ◌++◌, ◌-◌, ◌∙◌}
use Rattle.std.proofs.lemmas.Bool.{le-ltb}
use Rattle.nap_find.specs.{Readings.IsReadTo, Readings.draws_shape}
use Rattle.nap_find.proofs.IdleLemmas.{draws_some, joined, later_draws, unread_draws}
use Rattle.nap_find.proofs.ReadingLemmas.{refused_whole}
use Rattle.nap_find.proofs.reading.reads_and_draws.Goals as goal

pub returns-in-Some : goal.returns-in-Some
returns-in-Some c =
    let q = c.args.bytes.now in
    let k = c.args.least in
    let read = c.in_ok-refused_index.ensures.read c.new.result [] c.new-reader.ensures.has_read in
    unread_draws q k (refused_whole (take k q) _ (subst (IsReadTo (take k q)) c.in-Some.is read))

pub returns : goal.returns
returns c =
    let q = c.args.bytes.now in
    let k = c.args.least in
    let read = c.in_ok-refused_index.ensures.read c.new.result [] c.new-reader.ensures.has_read in
    let has = c.in_ok-refused_index.ensures.has_read c.new.result [] c.new-reader.ensures.has_read in
    let first = c.in_ok-refused_index.ensures.drawn c.new.result [] c.new-reader.ensures.has_read in
    let second = c.in_ok-refused_index-2.ensures.drawn c.new.result (take k q) has in
    let none = sym (draws_some c.new.result _ (take k q) c.new.ensures first) ∙ ap (λ s. nat_lt 0 s.shapes) (sym c.sink.ensures.now) ∙ le-ltb 0 _ c.if-sink-gt0.false in
    let some = ap (λ s. nat_lt 0 s.shapes) c.sink-2.ensures.now ∙ draws_some c.new.result _ (take k q ++ take (length q - k) (drop k q)) c.new.ensures second ∙ ap draws_shape (joined q k) in
    later_draws q k _ (subst (IsReadTo (take k q)) c.in_default.is read) none some
