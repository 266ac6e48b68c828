use Rattle.nap_reader.proofs.Common.{Acted, All, All-append, All-cons, All-drop, All-head, All-nil, All-take, AmidCall, BreaksFrom, Continues, Entry, Ghosts, HasRead, IsBroken, IsCharged, IsKnown, IsOwn, LeadsOn, LeadsThrough, LeadsTo, List, Machine, None, Outcome, Owes, Passes, Placed, Position, Reaches, Reader, ReadingState, Refusal, RunAt, Some, StopsBy, [], ap, append-nil, append_assoc, ap₂, arith, begun, budget_of, bytes_from, bytes_of, cause_of, drop, drop_all, drop_more, fed_of, get_or, inr, length, length-append, length-drop, length-take-le, outcome_from, past, placed_at, placed_from, refl, refusal_of, stream, subst, suc, sym, take, take-add, take-append-drop, take-append-le, ℕ, ◌++◌, ◌+◌, ◌-◌, ◌<◌, ◌∙◌, ◌∷◌, ◌≡◌, ◌≢◌, ◌≤◌}
use Rattle.nap_reader.proofs.Base.{IsAt, Lawful, as_it_was, breaks_after, bytes_of-append, conveys_nothing, drop_next, leads_entries, leads_left, leads_machine, leads_more, leads_then, leads_unrefused, length-next, length-placed, own_breaks, take_next}

-- How a piece is consumed.

-- the number of bytes up to an index
pub length_taken : (p piece : List ℕ) (at : ℕ) → at ≤ length piece → length (p ++ take at piece) ≡ length p + at
length_taken p piece at within = length-append p (take at piece) ∙ ap (λ (n : ℕ). length p + n) (length-take-le at piece within)

-- the next byte of a piece, and those after it
pub next_placed : (piece : List ℕ) (at n : ℕ) → at < length piece → placed_from n (drop at piece) ≡ placed_at (get_or piece at 0) n ∷ placed_from (suc n) (drop (at + 1) piece)
unfolding placed_from
next_placed piece at n less = ap (placed_from n) (drop_more piece at 0 less)

-- Reading breaks at a byte of the piece that called or presented a body.
pub broken_amid : {S : Type 0} {g : Ghosts S} {old : Reader S g} {piece : List ℕ} {i : ℕ} {t u : S} {owed : List Entry} {h : ReadingState} {frames : List Placed} {s : S} {p : List ℕ} {left : ℕ} {r : Refusal} → refusal_of old ≡ None → i < length piece →
    AmidCall old piece i t owed h frames → HasRead old s p → Owes g s (begun (budget_of old) ((p ++ take i piece) ++ get_or piece i 0 ∷ [])) t owed h frames → Lawful g → left ≡ h.machine.left → r.place ≡ fed_of old + i →
    ((s : S) (o : Outcome) → Owes g s o t owed h frames → BreaksFrom g s [] o u (cause_of r.fault)) → IsBroken g s (budget_of old) (p ++ take i piece) (get_or piece i 0) u left r
unfolding leads_more placed_from
broken_amid {S} {g} {old} {piece} {i} {t} {u} {owed} {h} {frames} {s} {p} {left} {r} live within amid had_read known laws same place breaks =
    let q = p ++ take i piece in
    let b = get_or piece i 0 in
    let k = amid.before s p had_read in
    let x : Placed = placed_at b (fed_of old + i) in
    let place_is : length q ≡ fed_of old + i = length_taken p piece i (omega (arith, within)) ∙ ap (λ (n : ℕ). n + i) (sym (had_read.fed live)) in
    let rest : Outcome = outcome_from amid.holding.machine (k.rest ++ x ∷ []) in
    let relative : Continues g amid.sink rest amid.sink amid.holding (x ∷ []) =
    record { done = []; taken = laws.none amid.sink; clear = λ before. before; rest = k.rest; retained = k.retained; leads = refl } in
    let there = breaks amid.sink rest (subst (Owes g amid.sink rest t owed h) (append-nil frames) (amid.since amid.sink rest [] relative)) in
    let before = ap (λ (m : Machine). m.left) (leads_machine k) in
    let after = leads_left known in
    let charged : IsCharged (budget_of old) q b = omega (arith, before, after, amid.less) in
    let from = breaks_after laws (record { taken = k.taken; clear = k.clear })
    (ap (λ (o : Outcome). o.entries) (leads_more (budget_of old) q (b ∷ []) k).leads
    ∙ ap (λ (n : ℕ). k.done ++ (outcome_from amid.holding.machine (k.rest ++ placed_at b n ∷ [])).entries) place_is) there in
    record {
      before = leads_unrefused k;
      breaks = inr (own_breaks (budget_of old) q b (place ∙ sym place_is) (inr (inr charged)) (inr (charged, subst (λ (es : List Entry). BreaksFrom g s es (begun (budget_of old) (q ++ b ∷ [])) u (cause_of r.fault)) (sym (leads_entries k)) from)));
      left = omega (arith, same, before, amid.less);
      charged = omega (arith, same, after);
    }

-- A reading stops by the stream's refusal, or breaks.
pub stops_by : {S : Type 0} {g : Ghosts S} (s : S) (budget : ℕ) (p : List ℕ) (b : ℕ) (t : S) (left : ℕ) (r : Refusal) →
    (IsOwn r → IsKnown g s (begun budget (p ++ b ∷ [])) t left (Some r)) → (cause_of r.fault ≢ stream → IsBroken g s budget p b t left r) →
    StopsBy g s budget p b t left r (cause_of r.fault)
stops_by {S} {g} s budget p b t left r own broken = search (arith) steps 100000

-- The next n bytes are consumed, and these bytes of bodies come next by them: by the one byte, if there are any.
record Consumes {S : Type 0} (g : Ghosts S) (t : S) (h : ReadingState) (n : ℕ) (xs : List Placed) (u : S) (owed : List Entry) (h' : ReadingState) (came : List Placed) : Type 0 where
  passes : (s : S) (o : Outcome) (pending : List Placed) → Continues g s o t h (xs ++ pending) → Owes g s o u owed h' (came ++ pending)
  left : h.machine.left ≡ h'.machine.left + length came
  there : (m : ℕ) → All (IsAt m) xs → All (IsAt m) came
  run : (m : ℕ) → All (IsAt m) xs → RunAt m h.open_run → RunAt m h'.open_run
  one : 0 < length came → n ≡ 1
  closed : 0 < length came → h'.open_run ≡ None

-- the bytes of bodies then, while the byte with this index is read in part
amid_on : {S : Type 0} {g : Ghosts S} {old : Reader S g} {piece : List ℕ} {t u : S} {owed : List Entry} {h h' : ReadingState} {at place n : ℕ} {came : List Placed} (frames : List Placed) → LeadsTo old piece (record { frames = frames; at = at; place = place }) t [] h →
    n ≤ length (frames ++ placed_from place (drop at piece)) → Consumes g t h n (take n (frames ++ placed_from place (drop at piece))) u owed h' came → 0 < length (came ++ drop n frames) →
    (i : ℕ) × (at + (n - length frames) ≡ i + 1) × AmidCall old piece i u owed h' (came ++ drop n frames)
amid_on {S} {g} {old} {piece} {t} {u} {owed} {h} {h'} {at} {place} {n} {came} [] leads few step more =
    let called : 0 < length came = omega (arith, more, length-append came (drop n []), length-drop {A = Placed} n []) in
    let one = step.one called in
    let inside : at < length piece = omega (arith, few, one, length-placed place (drop at piece), length-drop at piece) in
    let x : Placed = placed_at (get_or piece at 0) (fed_of old + at) in
    let is : take n (placed_from place (drop at piece)) ≡ x ∷ [] = ap₂ (λ (k m : ℕ). take k (placed_from m (drop at piece))) one leads.placed ∙ ap (take 1) (next_placed piece at (fed_of old + at) inside) in
    let gone : came ++ drop n [] ≡ came = ap (λ (ys : List Placed). came ++ ys) (drop_all n [] (omega arith)) ∙ append-nil came in (
      at,
      omega (arith, one),
      subst (AmidCall old piece at u owed h') (sym gone) (record {
        sink = t;
        holding = h;
        before = leads.known;
        since = λ s o pending k. step.passes s o pending (subst (λ (ys : List Placed). Continues g s o t h (ys ++ pending)) (sym is) k);
        less = omega (arith, step.left, called);
        there = step.there (fed_of old + at) (subst (All (IsAt (fed_of old + at))) (sym is) (All-cons (IsAt (fed_of old + at)) x [] refl (All-nil (IsAt (fed_of old + at)))));
        run = subst (RunAt (fed_of old + at)) (sym (step.closed called)) tt;
      }),
    )
amid_on {S} {g} {old} {piece} {t} {u} {owed} {h} {h'} {at} {place} {n} {came} (frame ∷ frames) leads few step more =
    let all = frame ∷ frames in
    let (i, last, amid) = leads.amid (omega arith) in
    let inside : n ≤ length all = fits came step.one more in
    let front : take n (all ++ placed_from place (drop at piece)) ≡ take n all = take-append-le n all (placed_from place (drop at piece)) inside in
    let here = subst (All (IsAt (fed_of old + i))) (sym front) (All-take (IsAt (fed_of old + i)) n all amid.there) in (
      i,
      omega (arith, last, inside),
      record {
        sink = amid.sink;
        holding = amid.holding;
        before = amid.before;
        since = λ s o pending k.
            subst (Owes g s o u owed h') (sym (append_assoc came (drop n all) pending))
            (step.passes s o (drop n all ++ pending) (subst (Continues g s o t h) (split pending ∙ ap (λ (ys : List Placed). ys ++ (drop n all ++ pending)) (sym front)) (amid.since s o pending k)));
        less = omega (arith, amid.less, step.left);
        there = All-append (IsAt (fed_of old + i)) came (drop n all) (step.there (fed_of old + i) here) (All-drop (IsAt (fed_of old + i)) n all amid.there);
        run = step.run (fed_of old + i) here amid.run;
      },
    )
  where
    fits : (ys : List Placed) → (0 < length ys → n ≡ 1) → 0 < length (ys ++ drop n (frame ∷ frames)) → n ≤ length (frame ∷ frames)
    fits [] one more = omega (arith, more, length-drop n (frame ∷ frames))
    fits (y ∷ ys) one more = let is = one (omega arith) in omega (arith, is)

    split : (pending : List Placed) → (frame ∷ frames) ++ pending ≡ take n (frame ∷ frames) ++ (drop n (frame ∷ frames) ++ pending)
    split pending = ap (λ (ys : List Placed). ys ++ pending) (sym (take-append-drop n (frame ∷ frames))) ∙ append_assoc (take n (frame ∷ frames)) (drop n (frame ∷ frames)) pending

-- What is known once they are consumed.
consumed : {S : Type 0} {g : Ghosts S} {old : Reader S g} {piece : List ℕ} {p : Position} {t u : S} {owed : List Entry} {h h' : ReadingState} {n : ℕ} {came : List Placed} → LeadsTo old piece p t [] h → n ≤ length (bytes_from p piece) → Consumes g t h n (take n (bytes_from p piece)) u owed h' came →
    LeadsTo old piece (past p n came) u owed h'
consumed {S} {g} {old} {piece} {p} {t} {u} {owed} {h} {h'} {n} {came} leads few step = record {
  live = leads.live;
  within = omega (arith, few, leads.within, length-next p piece);
  placed = omega (arith, leads.placed);
  known = λ s q had_read.
      let some = take (n - length p.frames) (drop p.at piece) in
      let here : length (q ++ take p.at piece) ≡ p.place = omega (arith, length_taken q piece p.at leads.within, had_read.fed leads.live, leads.placed) in
      subst (λ (r : List ℕ). Owes g s (begun (budget_of old) r) u owed h' (came ++ drop n p.frames)) (append_assoc q (take p.at piece) some ∙ ap (λ (r : List ℕ). q ++ r) (sym (take-add p.at (n - length p.frames) piece)))
      (step.passes s (begun (budget_of old) ((q ++ take p.at piece) ++ some)) (drop n p.frames)
      (subst (Continues g s (begun (budget_of old) ((q ++ take p.at piece) ++ some)) t h) (ap (λ (m : ℕ). p.frames ++ placed_from m some) here ∙ take_next p.frames p.place (drop p.at piece) n)
      (leads_more (budget_of old) (q ++ take p.at piece) some (leads.known s q had_read))));
  amid = λ more. amid_on p.frames leads few step more;
}

-- What leads to a sink and to a reading state, and then on.
module _ {S : Type 0} {g : Ghosts S} {old : Reader S g} {piece : List ℕ} {p : Position} {t : S} {h : ReadingState} (by : Reaches old piece p t h) where
  -- nothing is consumed, but what is pending may act
  pub acts_before : LeadsOn g by.sink by.holding t h [] (bytes_of (bytes_from p piece))
  acts_before = record { conveys = conveys_nothing g by.sink by.holding; acted = by.acted }

  -- no more is left to charge at the end of the piece than there
  pub reaches_left : (s : S) (q : List ℕ) → HasRead old s q → (begun (budget_of old) (q ++ piece)).machine.left ≤ h.machine.left
  reaches_left s q had_read =
      let all = append_assoc q (take p.at piece) (drop p.at piece) ∙ ap (λ (r : List ℕ). q ++ r) (take-append-drop p.at piece) in
      let known = leads_left (leads_more (budget_of old) (q ++ take p.at piece) (drop p.at piece) (by.leads.known s q had_read)) in
      omega (arith, subst (λ (r : List ℕ). (begun (budget_of old) r).machine.left ≤ by.holding.machine.left) all known, by.acted.left)

  -- the bytes up to one, and those from it on
  pub parts_at : (n : ℕ) → bytes_of (bytes_from p piece) ≡ bytes_of (take n (bytes_from p piece)) ++ bytes_of (drop n (bytes_from p piece))
  parts_at n = ap bytes_of (sym (take-append-drop n (bytes_from p piece))) ∙ bytes_of-append (take n (bytes_from p piece)) (drop n (bytes_from p piece))

  -- Some of the next bytes lead on.
  pub leads_past : {owed : List Entry} (n : ℕ) → n ≤ length (bytes_from p piece) → (c : LeadsThrough g by.sink by.holding owed (take n (bytes_from p piece))) → LeadsTo old piece (past p n []) c.sink owed c.holding
  leads_past n few c = consumed {came = []} by.leads few (record {
    passes = c.passes;
    left = omega (arith, c.left);
    there = λ m all. All-nil (IsAt m);
    run = c.run;
    one = λ some. absurd (omega (arith, some));
    closed = λ some. absurd (omega (arith, some));
  })

  -- The next bytes lead on, and what is pending then may have acted.
  pub reaches_on : {u : S} {h' : ReadingState} (n : ℕ) → n ≤ length (bytes_from p piece) → LeadsOn g t h u h' (take n (bytes_from p piece)) (bytes_of (drop n (bytes_from p piece))) → Reaches old piece (past p n []) u h'
  reaches_on {u} {h'} n few on =
      let all = leads_then acts_before u h' (take n (bytes_from p piece)) (bytes_of (drop n (bytes_from p piece))) (parts_at n) on in
      record {
        sink = all.conveys.sink;
        holding = all.conveys.holding;
        leads = leads_past n few all.conveys;
        acted = subst (λ (ys : List Placed). Acted g all.conveys.sink all.conveys.holding u h' (bytes_of ys)) (drop_next p.frames p.place p.at n piece) all.acted;
      }

  -- A byte calls or presents a body, which comes next.
  pub reaches_called : {u : S} {h' : ReadingState} {x : Placed} {following : List Placed} (came : List Placed) → bytes_from p piece ≡ x ∷ following → Passes g t h (x ∷ []) u h' came → h.machine.left ≡ h'.machine.left + length came →
      All (IsAt x.place) came → h'.open_run ≡ None → Reaches old piece (past p 1 came) u h'
  reaches_called {u} {h'} {x} {following} came is passes left there closed = record {
    sink = u;
    holding = h';
    leads = consumed by.leads (omega (arith, ap (λ (ys : List Placed). length ys) is)) (subst (λ (xs : List Placed). Consumes g by.sink by.holding 1 xs u [] h' came) (sym (ap (take 1) is)) (record {
      passes = λ s o pending k. passes s o pending (by.acted.passes x (bytes_of following) (ap bytes_of is) s o pending k);
      left = omega (arith, left, by.acted.left);
      there = λ m all. subst (λ (m : ℕ). All (IsAt m) came) (All-head (IsAt m) x [] all) there;
      run = λ m all run. subst (RunAt m) (sym closed) tt;
      one = λ some. refl;
      closed = λ some. closed;
    }));
    acted = as_it_was refl refl;
  }
