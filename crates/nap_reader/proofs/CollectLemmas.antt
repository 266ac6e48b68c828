use Rattle.nap_reader.proofs.Common.{BreaksAmong, BreaksInRun, BreaksOff, Cause, Consumes, Consumes-trans, EndsBy, EndsEarly, Entry, Err, Fault, FeedFault, Feeds, Ghosts, HasRead, IsCollected, IsDrained, List, None, Ok, Outcome, ReadFault, Reader, Refusal, RefusedBy, Result, Some, StopsAt, StopsBy, StopsInLast, [], ap, append-nil, append_assoc, arith, begun, budget_of, cause_of, device, drop, false, get_or, inl, inr, left_of, length, length-append, means, memory, or-false, reading, reads_limit, refl, refusal_of, rules, sink_of, stream, subst, sym, take, true, ℕ, ◌++◌, ◌+◌, ◌-◌, ◌<◌, ◌||◌, ◌∙◌, ◌∷◌, ◌≡◌, ◌≢◌, ◌≤◌}
use Rattle.nap_list.specs.declared.device.Inlet as inlet
use Rattle.nap_reader.proofs.Base.{breaks_longer, breaks_more, leads_unrefused, taken_all}
use Rattle.nap_reader.proofs.LegalLemmas.{broken_among}
use Rattle.nap_reader.proofs.PublicLaws.{begun_comes_first, end_breaks_among, more_bytes_keep_refusal}

-- A stream is refused, or its reading breaks.

-- a stream that is refused so far is refused whatever comes after
still_refused : (budget : ℕ) (p more : List ℕ) (r : Refusal) → (begun budget p).refusal ≡ Some r → (means budget (p ++ more)).refusal ≡ Some r
still_refused budget p more r is = search (arith, more_bytes_keep_refusal)

-- a fault that is neither the stream's own nor lack of memory is a failed device
device_fault : (f : Fault) → cause_of f ≡ device → f ≡ Fault.Sink
device_fault f is = grind arith

pub memory_fault : (f : Fault) → cause_of f ≡ memory → f ≡ Fault.Memory
memory_fault f is = grind arith

module _ {S : Type 0} (g : Ghosts S) (s : S) (budget : ℕ) (t : S) (r : Refusal) (fails : r.fault ≡ Fault.Sink → g.failed t ≡ true) where
  -- reading broke with the bytes of a page, or at their end
  breaks_off : (p : List ℕ) (known : List Entry) (o : Outcome) (rest : List Entry) → (means budget p).entries ≡ o.entries ++ rest → BreaksAmong g s budget p known o t r → BreaksOff g s budget p t r
  breaks_off p known o rest is among = search (rules, arith, breaks_longer, breaks_more, device_fault, append_assoc) depth 9

  -- a page stops at the byte b after q, before the rest
  ends_at_byte : (q : List ℕ) (b : ℕ) (rest : List ℕ) (left : ℕ) (cause : Cause) → StopsBy g s budget q b t left r cause → EndsEarly g s budget ((q ++ b ∷ []) ++ rest) t r cause
  ends_at_byte q b rest left stream known = still_refused budget (q ++ b ∷ []) rest r known.refusal
  ends_at_byte q b rest left _ broken =
      let page = (q ++ b ∷ []) ++ rest in
      let (more, entries) = begun_comes_first budget page in
      breaks_off page (begun budget q).entries (begun budget page) more entries (broken_among budget q b rest broken)

  -- it stops at a byte of the last ones that were fed, after which more come
  pub ends_in_last : (before last more : List ℕ) (i left : ℕ) → i < length last → StopsBy g s budget (before ++ take i last) (get_or last i 0) t left r (cause_of r.fault) →
      EndsEarly g s budget ((before ++ last) ++ more) t r (cause_of r.fault)
  ends_in_last before last more i left within stops =
      rw (← taken_all before last i within, append_assoc ((before ++ take i last) ++ get_or last i 0 ∷ []) (drop (i + 1) last) more)
      (ends_at_byte (before ++ take i last) (get_or last i 0) (drop (i + 1) last ++ more) left (cause_of r.fault) stops)

  -- it stops at its end
  pub ends_at_end : (p : List ℕ) → (begun budget p).refusal ≡ None → (cause_of r.fault ≡ stream → (means budget p).refusal ≡ Some r) → (cause_of r.fault ≢ stream → BreaksInRun g s budget p t r) →
      EndsEarly g s budget p t r (cause_of r.fault)
  ends_at_end p live own breaks = at (cause_of r.fault) refl
    where
      broke : cause_of r.fault ≢ stream → BreaksOff g s budget p t r
      broke other = breaks_off p (begun budget p).entries (means budget p) [] (sym (append-nil (means budget p).entries)) (end_breaks_among g s budget p t r live (breaks other))

      at : (cause : Cause) → cause_of r.fault ≡ cause → EndsEarly g s budget p t r cause
      at stream is = own is
      at _ is = broke (λ own. let bad = sym is ∙ own in cc)

-- what a caller sees who doesn't see the sink
pub refused_early : {S : Type 0} (g : Ghosts S) (s : S) (budget : ℕ) (p : List ℕ) (t : S) (r : Refusal) → EndsEarly g s budget p t r (cause_of r.fault) → RefusedBy g s budget p r (cause_of r.fault)
refused_early g s budget p t r early = search (rules, arith) depth 9

-- the reading of an accepted page broke
pub broke_off : {S : Type 0} {g : Ghosts S} {s t : S} {budget : ℕ} {p : List ℕ} {r : Refusal} (cause : Cause) → (means budget p).refusal ≡ None → EndsEarly g s budget p t r cause → BreaksOff g s budget p t r
broke_off cause h k = grind arith

-- The only piece of a stream was refused, or broke.
pub piece_ends : {S : Type 0} {g : Ghosts S} {old new : Reader S g} {piece : List ℕ} {r : Refusal} {s : S} {budget : ℕ} → budget_of old ≡ budget → (r.fault ≡ Fault.Sink → g.failed (sink_of new) ≡ true) → HasRead old s [] →
    (i : ℕ) × StopsAt old new piece r i → EndsEarly g s budget piece (sink_of new) r (cause_of r.fault)
piece_ends {g = g} {old} {new} {piece} {r} {s} {budget} same fails begun (i, stops) =
    subst (λ (budget : ℕ). EndsEarly g s budget piece (sink_of new) r (cause_of r.fault)) same
    (subst (λ (p : List ℕ). EndsEarly g s (budget_of old) p (sink_of new) r (cause_of r.fault)) (append-nil piece)
    (ends_in_last g s (budget_of old) (sink_of new) r fails [] piece [] i (left_of new) stops.within (stops.there s [] begun)))

-- A reader is fed what an input gives.

-- An input was read n times and gave these bytes, at least one with each read. No read failed.
pub record Gives {I : Type 0} (i : inlet.Ghosts I) (start mid : I) (n : ℕ) (p : List ℕ) : Type 0 where
  pub calls : i.calls mid ≡ i.calls start + n
  pub flag : i.failed mid ≡ i.failed start
  pub gave : Consumes (i.left start) (i.left mid) p
  pub few : n ≤ length p

-- one more read gives a piece
pub gives_more : {I : Type 0} {i : inlet.Ghosts I} {start mid end : I} {n : ℕ} {p : List ℕ} → Gives i start mid n p → (piece : List ℕ) → i.calls end ≡ i.calls mid + 1 → i.failed end ≡ (i.failed mid || false) →
    Consumes (i.left mid) (i.left end) piece → 0 < length piece → Gives i start end (n + 1) (p ++ piece)
gives_more {p = p} k piece calls failed gave some = search (arith, or-false, Consumes-trans, length-append)

-- the last read gave the last of the bytes q, and reading ended
pub feeds : {I S : Type 0} {i : inlet.Ghosts I} {g : Ghosts S} {start mid end : I} {n : ℕ} {p : List ℕ} {old reader new : Reader S g} → Gives i start mid n p → (budget_of reader ≡ budget_of old) × (refusal_of reader ≡ None) →
    ((s : S) → HasRead old s [] → HasRead reader s p) → (q last : List ℕ) → q ≡ p ++ last → Consumes (i.left mid) (i.left end) last × (i.calls end ≤ i.calls mid + 1) → (answer : Result (Unit {0}) FeedFault) →
    EndsBy q (reading i start end) (refusal_of new) answer → ((s : S) → HasRead reader s p → HasRead new s q × StopsInLast g s (budget_of old) p last (sink_of new) (left_of new) answer) →
    (q : List ℕ) × Consumes (i.left start) (i.left end) q × ((s : S) → HasRead old s [] → Feeds i old new s q start end answer)
feeds {mid = mid} {p = p} k (same, live) had_read q last is (gives, once) answer ends stops = (
  q,
  rw is (Consumes-trans _ _ _ p last k.gave gives),
  λ s begun. record {
    has_read = (stops s (had_read s begun)).0;
    last = record {
      mid = mid;
      before = p;
      last = last;
      parts = is;
      gave = k.gave;
      gives = gives;
      reads = omega (arith, k.calls, k.few);
      once = once;
      unrefused = rw same at (leads_unrefused ((had_read s begun).continues live));
    };
    ends = ends;
    stops = (stops s (had_read s begun)).1;
  },
)

-- the answer about a refused page once the rest of the input was read, or couldn't be
abbrev pub after_rest : {S : Type 0} → Refusal → Result (Unit {0}) ReadFault → Result (Result S Refusal) ReadFault
after_rest r (Ok done) = Ok (Err r)
after_rest r (Err fault) = Err fault

-- A stream was refused, and the rest of the input was read, or couldn't be.
pub collected : {I S : Type 0} {i : inlet.Ghosts I} {g : Ghosts S} {old new : Reader S g} {s : S} {start mid : I} {r : Refusal} {budget : ℕ} (end : I) (most : ℕ) → budget_of old ≡ budget → HasRead old s [] → (r.fault ≡ Fault.Sink → g.failed (sink_of new) ≡ true) →
    (p : List ℕ) × Consumes (i.left start) (i.left mid) p × ((s : S) → HasRead old s [] → Feeds i old new s p start mid (Err (FeedFault.Refused r))) →
    (i.calls start ≤ i.calls mid) × (i.calls mid ≤ i.calls end) → most + (i.calls mid - i.calls start) ≡ reads_limit → (out : Result (Unit {0}) ReadFault) →
    (p : List ℕ) × Consumes (i.left mid) (i.left end) p × IsDrained most p (reading i mid end) out → (p : List ℕ) × Consumes (i.left start) (i.left end) p × IsCollected g s budget p (reading i start end) (after_rest r out)
collected {i = i} {g} {old} {new} {s} {start} {mid} {r} {budget} end most same begun fails (p, read, feeds) (first, then) all out (more, rest, drained) = (p ++ more, Consumes-trans _ _ _ p more read rest, at out drained)
  where
    h : Feeds i old new s p start mid (Err (FeedFault.Refused r))
    h = feeds s begun

    few : i.calls mid ≤ i.calls start + length p
    few = omega (arith, h.last.reads, h.last.once, h.stops.1, ap length h.last.parts, length-append h.last.before h.last.last)

    at : (out : Result (Unit {0}) ReadFault) → IsDrained most more (reading i mid end) out → IsCollected g s budget (p ++ more) (reading i start end) (after_rest r out)
    at (Ok done) k = (
      record { none_failed = k.none_failed ∙ h.ends.0; end = k.end; gave = omega (arith, few, k.gave, length-append p more) },
      record { collects = refused_early g s budget (p ++ more) (sink_of new) r (rw (← same, h.last.parts) (ends_in_last g s (budget_of old) (sink_of new) r fails h.last.before h.last.last more h.stops.0 (left_of new) h.stops.1 h.stops.2)) },
    )
    at (Err fault) (inl k) = inl (record { failed = k.failed; some = omega (arith, first, k.some); gave = omega (arith, few, k.gave, length-append p more) })
    at (Err fault) (inr (none, often, gave)) =
        inr (record { none_failed = none ∙ h.ends.0; often = omega (arith, first, then, often, all); gave = omega (arith, few, gave, all, length-append p more) })
