use Rattle.nap_command.proofs.{All, All-nil, All-push, Appends, Appends-nil, Appends-trans, Bool, Buffered, Consumes, Consumes-nil, Consumes-trans, Ended, Err, FrontLemmas.page_is, FrontLemmas.stops_alike, FrontLemmas.whole_request, IsAsked, IsWhole, KeepsWithin, List, Ok, Pipes, ReadingEnds, RequestLine, Result, SendsBytes, [], ap, append-nil, append_assoc, arith, drop, false, flat_map, flat_map_more, flush_count, inl, inr, length, length-append, length-take-le, min, no_memory, pipes, reading, reading_between, refl, requests_limit, stopped_grows, suc, sym, take, take-append-add, take-append-le, true, zero, ℕ, ◌++◌, ◌+◌, ◌-◌, ◌^◌, ◌∙◌, ◌∷◌, ◌≡◌, ◌≢◌, ◌≤◌}
use Rattle.nap_list.specs.declared.device.Outlet as outlet
use Rattle.nap_list.specs.declared.device.Inlet as inlet
use Rattle.nap_command.specs.Sessions.{AnswersRequest, Exchange, FlushedTimes, IsAnswered, IsExchange, IsExchanged, RunEnds, SendsText, Session, StopsIn, StopsServing, count_on, flushed_once, flushes_of}

-- Requests and answers in sequence, and how they end.

-- the bytes of some requests, and of their answers
abbrev asked_of : List Exchange → List ℕ
asked_of xs = flat_map (λ x. x.asked) xs

abbrev answered_of : List Exchange → List ℕ
answered_of xs = flat_map (λ x. x.answered) xs

answered_more : (xs : List Exchange) (x : Exchange) → answered_of xs ++ x.answered ≡ answered_of (xs ++ x ∷ [])
answered_more xs x = flat_map_more (λ y. y.answered) [] xs x

-- the bytes of the requests, with one more after the buffered bytes
read_on : (xs : List Exchange) (x : Exchange) (old new bytes : List ℕ) → old ++ bytes ≡ x.asked ++ new → (asked_of xs ++ old) ++ bytes ≡ asked_of (xs ++ x ∷ []) ++ new
read_on xs x old new bytes parts =
    append_assoc (asked_of xs) old bytes ∙ ap (asked_of xs ++◌) parts ∙ sym (append_assoc (asked_of xs) x.asked new) ∙ ap (◌++ new) (flat_map_more (λ y. y.asked) [] xs x)

-- a number that saturates, counted in two steps
counted : (most l p k : ℕ) {w n : ℕ} → w ≡ min l most → n ≡ min (w + p) most → k ≡ l + p → n ≡ min k most
counted most l p k first second all = omega (arith, first, second, all)

count_more : (out more : List ℕ) {w n : ℕ} → w ≡ min (length out) (2 ^ 64 - 1) → n ≡ min (w + length more) (2 ^ 64 - 1) → n ≡ min (length (out ++ more)) (2 ^ 64 - 1)
count_more out more was is = counted (2 ^ 64 - 1) (length out) (length more) _ was is (length-append out more)

-- how a run ends that ends after some requests
ends_after : (before mid after : Pipes) (xs : List Exchange) (rest part : List ℕ) {written : ℕ} (end : Ended) → mid.input_failed ≡ before.input_failed →
    mid.output_failed ≡ before.output_failed → written ≡ min (length (answered_of xs)) (2 ^ 64 - 1) → StopsIn written rest part mid after end → RunEnds before after xs rest part end
ends_after before mid after xs rest part (Ended.Write n) input output count (x, following, is, parts, prefix, number, failed, works, flushes) =
    (x, following, is, parts, prefix, count_more (answered_of xs) part count number, failed, works ∙ input)
ends_after before mid after xs rest part Ended.Request input output count (none, stops, works) =
    (none, inl (stops_alike (reading_between mid after) (reading_between before after) rest Ended.Request refl refl (sym input) stops), works ∙ output)
ends_after before mid after xs rest part Ended.Memory input output count h = absurd h.1
ends_after before mid after xs rest part end input output count h =
    (h.0, stops_alike (reading_between mid after) (reading_between before after) rest end refl refl (sym input) h.1, h.2 ∙ output)

-- An answer is sent in two parts.

count_in_two_parts : (written : ℕ) (head body : List ℕ) {n m : ℕ} → n ≡ count_on written (length head) → m ≡ count_on n (length body) → m ≡ count_on written (length (head ++ body))
count_in_two_parts written head body first second =
    counted (2 ^ 64 - 1) (written + length head) (length body) (written + length (head ++ body)) first second (omega (arith, length-append head body))

module _ {O : Type 0} (o : outlet.Ghosts O) (written : ℕ) (head body : List ℕ) (before : O) (small : written ≤ 2 ^ 64 - 1) where
  -- the first part was written, and then the second
  pub head_then : (mid after : O) (n : ℕ) → SendsBytes o before written head mid n (Ok tt) → (result : Result ℕ Ended) → SendsText o n body mid after result → SendsText o written (head ++ body) before after result
  head_then mid after n (first, kept) (Ok m) (sent, number, failed, out, flushes) = (
    Appends-trans (o.taken before) (o.taken mid) (o.taken after) head body first.grows.taken sent,
    count_in_two_parts written head body (omega (arith, first.grows.count)) number,
    failed ∙ first.failed,
    out,
    λ good. flushes (first.failed ∙ good) ∙ ap flushed_once first.grows.writes.flushes,
  )
  head_then mid after n (first, kept) (Err (Ended.Write m)) (part, sent, prefix, number, failed, flushes) = (
    head ++ part,
    Appends-trans (o.taken before) (o.taken mid) (o.taken after) head part first.grows.taken sent,
    ap (λ k. take k (head ++ body)) (length-append head part) ∙ take-append-add head body (length part) ∙ ap (head ++◌) prefix,
    count_in_two_parts written head part (omega (arith, first.grows.count)) number,
    failed,
    λ good. flushes (first.failed ∙ good) ∙ ap (flush_count (o.write_failed after)) first.grows.writes.flushes,
  )
  head_then mid after n first (Err _) h = absurd h

  -- a write of the first part failed
  pub head_fails : (after : O) (taken n : ℕ) → SendsBytes o before written head after n (Err taken) → SendsText o written (head ++ body) before after (Err (Ended.Write n))
  head_fails after taken n stops =
      let grows = stopped_grows o before written head taken after n stops in (
        take taken head,
        grows.taken,
        ap (λ k. take k (head ++ body)) (length-take-le taken head (omega (arith, stops.less))) ∙ take-append-le taken head body (omega (arith, stops.less)),
        omega (arith, grows.count),
        stops.failed,
        λ good. grows.writes.flushes ∙ sym (ap (λ b. flush_count b (o.flushes before)) stops.write_failed),
      )

-- The number of flushes.

once_more : (b m a n : ℕ) → FlushedTimes n b m → a ≡ flushed_once m → FlushedTimes (n + 1) b a
once_more b m a zero h is = omega (arith, is, h.0 refl)
once_more b m a (suc n) h is = omega (arith, is, h.1 (omega arith))

-- the flushes of a run that ends at a failed write or flush
amid : (w : Bool) (xs : List Exchange) (k n b m a : ℕ) → length xs ≡ n → FlushedTimes n b m → a ≡ flush_count w m → FlushedTimes (flushes_of (Ended.Write k) w (length xs)) b a
amid true xs k n b m a size h is = rw (size, is) h
amid false xs k n b m a size h is = rw size (once_more b m a n h is)

-- the flushes of a run that ends in this way
at_end : (end : Ended) (xs : List Exchange) (n b written : ℕ) (rest part : List ℕ) (mid after : Pipes) → length xs ≡ n → FlushedTimes n b mid.flushes → mid.output_failed ≡ false →
    StopsIn written rest part mid after end → (after.output_failed ≡ false → after.flushes ≡ mid.flushes) → FlushedTimes (flushes_of end after.write_failed (length xs)) b after.flushes
at_end (Ended.Write k) xs n b written rest part mid after size h works (x, following, is, parts, prefix, number, failed, input, flushes) none =
    amid after.write_failed xs k n b mid.flushes after.flushes size h (flushes works)
at_end _ xs n b written rest part mid after size h works stops none = rw (size, none (stops.2 ∙ works)) h

-- n requests were answered, and the buffer has these bytes.
pub record Going (before now : Pipes) (buffered : List ℕ) (written n : ℕ) : Type 0 where
  pub xs : List Exchange
  pub each : All IsExchange xs
  pub read : Consumes before.left now.left (asked_of xs ++ buffered)
  pub sent : Appends before.taken now.taken (answered_of xs)
  pub count : written ≡ min (length (answered_of xs)) (2 ^ 64 - 1)
  pub requests : length xs ≡ n
  pub input_works : now.input_failed ≡ before.input_failed
  pub output_works : now.output_failed ≡ before.output_failed
  pub flushed : xs ≢ [] → now.sent ≡ true
  pub each_flushed : before.output_failed ≡ false → FlushedTimes n before.flushes now.flushes

pub starts : (p : Pipes) → Going p p [] 0 0
starts p = record {
  xs = [];
  each = All-nil IsExchange;
  read = Consumes-nil p.left;
  sent = Appends-nil p.taken;
  count = omega arith;
  requests = refl;
  input_works = refl;
  output_works = refl;
  flushed = λ some. absurd (some refl);
  each_flushed = λ _. omega arith;
}

-- one more request was answered
pub one_more_answered : {before mid after : Pipes} {buffered new : Buffered} {written m n : ℕ} → Going before mid buffered.bytes written n → AnswersRequest written buffered new mid after m →
    Going before after new.bytes m (n + 1)
one_more_answered {before} {mid} {after} {buffered} {new} {n = n} h k =
    let x = k.exchange in
    record {
      xs = h.xs ++ x ∷ [];
      each = All-push IsExchange h.xs x h.each k.is_exchange;
      read = rw (read_on h.xs x buffered.bytes new.bytes k.bytes k.parts) at (Consumes-trans before.left mid.left after.left (asked_of h.xs ++ buffered.bytes) k.bytes h.read k.read);
      sent = rw (answered_more h.xs x) at (Appends-trans before.taken mid.taken after.taken (answered_of h.xs) x.answered h.sent k.sent);
      count = rw (answered_more h.xs x) at (count_more (answered_of h.xs) x.answered h.count k.count);
      requests = length-append h.xs (x ∷ []) ∙ ap (◌+ 1) h.requests;
      input_works = k.input_works ∙ h.input_works;
      output_works = k.output_works ∙ h.output_works;
      flushed = λ _. k.flushed;
      each_flushed = λ works. once_more before.flushes mid.flushes after.flushes n (h.each_flushed works) (k.once (h.output_works ∙ works));
    }

-- the run ends
pub ends : {before mid after : Pipes} {buffered : List ℕ} {written n : ℕ} {end : Ended} → Going before mid buffered written n → StopsServing written buffered mid after end → Session before after end
ends {before} {mid} {after} {buffered} {written} {n} {end} h k = record {
  exchanges = h.xs;
  each = h.each;
  rest = buffered ++ k.bytes;
  part = k.part;
  read = rw (append_assoc (asked_of h.xs) buffered k.bytes) at (Consumes-trans before.left mid.left after.left (asked_of h.xs ++ buffered) k.bytes h.read k.read);
  sent = Appends-trans before.taken mid.taken after.taken (answered_of h.xs) k.part h.sent k.sent;
  ends = ends_after before mid after h.xs (buffered ++ k.bytes) k.part end h.input_works h.output_works h.count k.stops;
  flushed = λ some works. k.flushed (h.flushed some) works;
  each_flushed = λ began. at_end end h.xs n before.flushes written (buffered ++ k.bytes) k.part mid after h.requests (h.each_flushed began) (h.output_works ∙ began) k.stops k.none_more;
}

-- the run ends after an answer, or before the first request
rests : (end : Ended) {before now : Pipes} {buffered : List ℕ} {written n : ℕ} (h : Going before now buffered written n) → ((k : ℕ) → flushes_of end now.write_failed k ≡ k) → RunEnds before now h.xs buffered [] end →
    Session before now end
rests end {buffered = buffered} h same stops = record {
  exchanges = h.xs;
  each = h.each;
  rest = buffered;
  part = [];
  read = h.read;
  sent = rw (append-nil (answered_of h.xs)) h.sent;
  ends = stops;
  flushed = λ some works. h.flushed some;
  each_flushed = λ began. rw (same (length h.xs), h.requests) (h.each_flushed began);
}

-- as many requests as allowed
pub ends_full : {before now : Pipes} {buffered : List ℕ} {written n : ℕ} → n ≡ requests_limit → Going before now buffered written n → Session before now Ended.Request
ends_full full h = rests Ended.Request h (λ k. refl) (refl, inr (h.requests ∙ full, h.input_works), h.output_works)

-- lack of memory
pub ends_unbegun : (p : Pipes) → Session p p Ended.Memory
unfolding starts
ends_unbegun p = rests Ended.Memory (starts p) (λ k. refl) (refl, refl, refl, refl)

-- A request and its answer, or why there is none.

-- no request was read
stops_in : (written : ℕ) (rest : List ℕ) (before after : Pipes) (end : Ended) → ReadingEnds (reading_between before after) rest end → after.output_failed ≡ before.output_failed →
    StopsIn written rest [] before after end
stops_in written rest _ _ (Ended.Write n) h works = absurd h
stops_in written rest _ _ _ h works = (refl, h, works)

-- A request was read, after buffered bytes, or there was none.
module _ {I O : Type 0} (i : inlet.Ghosts I) (o : outlet.Ghosts O) (written : ℕ) (old new : Buffered) (bytes : List ℕ) (input rest : I) (output : O) (read : Consumes (i.left input) (i.left rest) bytes) where
  pub answered : (done : O) → i.failed rest ≡ i.failed input → (x : Exchange) → IsExchange x → old.bytes ++ bytes ≡ x.asked ++ new.bytes → KeepsWithin (old.bytes ++ bytes) old.memory new.memory → (result : Result ℕ Ended) →
      SendsText o written x.answered output done result → IsExchanged written old new (pipes i o input output) (pipes i o rest done) result
  answered done works x is parts within (Ok n) (sent, count, output_works, flushed, once) = record {
    exchange = x;
    is_exchange = is;
    bytes = bytes;
    read = read;
    parts = parts;
    keeps = within [] x.asked new.bytes x.question x.budget x.page is.request (append-nil (old.bytes ++ bytes) ∙ parts);
    sent = sent;
    count = count;
    input_works = works;
    output_works = output_works;
    flushed = flushed;
    once = once;
  }
  answered done works x is parts within (Err (Ended.Write n)) (part, sent, front, count, failed, flushes) = record {
    bytes = bytes;
    part = part;
    read = read;
    sent = sent;
    stops = (x, new.bytes, is, parts, front, count, failed, works, flushes);
    flushed = λ _ good. cc;
    none_more = λ good. cc;
  }
  answered done works x is parts within (Err _) h = absurd h

  pub unasked : (end : Ended) → ReadingEnds (reading i input rest) (old.bytes ++ bytes) end → IsExchanged written old new (pipes i o input output) (pipes i o rest output) (Err end)
  unasked end stops = record {
    bytes = bytes;
    part = [];
    read = read;
    sent = Appends-nil (o.taken output);
    stops = stops_in written (old.bytes ++ bytes) (pipes i o input output) (pipes i o rest output) end stops refl;
    flushed = λ was _. was;
    none_more = λ _. refl;
  }

-- the buffer begins with a request, which is answered
module _ (buffered : List ℕ) (r : RequestLine) (start : ℕ) (text : List ℕ) where
  abbrev pub exchange_of : Exchange
  exchange_of = record { asked = take (start + r.size) buffered; question = r.question; budget = r.budget; page = take r.size (drop start buffered); answered = text }

  pub is_exchange : IsWhole buffered r start → IsAnswered r.question r.budget exchange_of.page text → IsExchange exchange_of
  is_exchange whole is = record { request = rw (page_is whole) (whole_request whole); answer = is }

-- a request whose page was dropped
module _ (all : List ℕ) (asked : IsAsked all) where
  abbrev pub dropped_exchange : Exchange
  dropped_exchange = record { asked = all; question = asked.0; budget = asked.1; page = asked.2; answered = no_memory }

  pub is_dropped : IsExchange dropped_exchange
  is_dropped = record { request = asked.3; answer = inr refl }
