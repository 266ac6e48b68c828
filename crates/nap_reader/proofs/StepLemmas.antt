use Rattle.nap_reader.proofs.Common.{Acted, ActsRun, All, All-drop, All-take, ArePending, Breaks, BreaksHere, Budget, CodeFault, Continues, Entry, Fault, Ghosts, IsOver, IsRefused, LacksOwn, LeadsOn, LeadsThrough, List, Machine, Memory, None, Outcome, Passes, Placed, ReadingState, Refusal, RunAt, Some, Stops, StopsByte, StopsRun, [], after_charge, after_run, all_at, ap, append-nil, append_assoc, arith, at_byte, bytes_of, cause_of, code_fault, drop-append_seam, false, in_run, inl, inr, is_operand, kept_list, length, length-append, refl, refusal, shown_front, stream, stream_front, subst, sym, take-append_seam, true, ℕ, ◌++◌, ◌<◌, ◌∙◌, ◌∷◌, ◌≡◌, ◌≤◌, ◌⊎◌}
use Rattle.nap_reader.proofs.ReadingLemmas.{TookMore, leads_budget, leads_shown, leads_to_fault, over, pays, run_past}

pub no_some : {A : Type 0} {x : A} → Some x ≡ None → ⊥
no_some e = cc

-- The effect of one byte on a reader, by the front with it.

-- a fault of the lexer is the stream's own
pub code_fault_own : (fault : CodeFault) → cause_of (code_fault fault) ≡ stream
code_fault_own fault = grind arith

-- If neither a run nor a body is open, reading breaks at the place of the byte.
pub breaks_here : {S : Type 0} {g : Ghosts S} {t : S} {owed : List Entry} {h : ReadingState} {x : Placed} {u : S} {r : Refusal} → h.open_run ≡ None → Breaks g t owed h x u r → BreaksHere g t owed h x u r
breaks_here closed breaks = grind arith

-- The opcode of the open run acts, and the byte that ended the run is still to be read.
pub passes_run : {S T : Type 0} {g : Ghosts S} {g' : Ghosts T} {t u : S} {h h' : ReadingState} {x : Placed} {s v w : T} {o : Outcome} {pending : List Placed} → TookMore g' → (acts : ActsRun g t h u h') → is_operand x ≡ false → g'.took v acts.drawn.entries w → (g'.failed v ≡ false → g'.failed w ≡ false) →
    Continues g' s o v h (x ∷ pending) → Continues g' s o w h' (x ∷ pending)
passes_run {g' = g'} {x = x} {s = s} {w = w} {o = o} {pending = pending} more acts other took clear k = grind (arith, pays, run_past)

-- The opcode of the open run is refused, or breaks.
pub stops_run : {S : Type 0} {g : Ghosts S} {t : S} {h : ReadingState} {x : Placed} {u : S} {r : Refusal} → is_operand x ≡ false → StopsRun g t h u r → StopsByte g t [] h x u r
stops_run {g = g} {h = h} {x = x} {u = u} other stops = record {
  own = λ own s o pending k.
      subst (IsRefused g s o u h) (sym stops.why)
      (leads_to_fault k u h.machine stops.open_run.place (x ∷ pending) _ (over stops.between stops.is k other _ refl) stops.fault stops.drew (ap (λ (r : Refusal). cause_of r.fault) (sym stops.why) ∙ own));
  broke = λ broke. in_run refl other stops;
}

-- What is pending may act before the byte that comes next.

pub as_it_was : {S : Type 0} {g : Ghosts S} {t u : S} {h h' : ReadingState} {next : List ℕ} → u ≡ t → h' ≡ h → Acted g t h u h' next
as_it_was sink same = rw (sink, same) record { passes = λ x bs is s o pending k. k; stops = λ x bs is v r stops. stops; left = refl; run = λ n run. run; none = λ empty. (refl, refl) }

-- The opcode of the open run does, where that byte is no operand.
pub acts_ahead : {S : Type 0} {g : Ghosts S} {t : S} {h : ReadingState} {u : S} {h' : ReadingState} {next : List ℕ} → TookMore g → IsOver next → ActsRun g t h u h' → Acted g t h u h' next
acts_ahead {u = u} {h' = h'} {next = next} more over acts = record {
  passes = λ x bs is s o pending k. passes_run more acts (other x bs is) acts.took acts.clear k;
  stops = λ x bs is v r stops. record {
    own = λ own s o pending k.
        let there = stops.own own s o pending (passes_run more acts (other x bs is) acts.took acts.clear k) in
        (there.0, there.1, there.2 ∙ ap (λ (h : ReadingState). h.machine.left) acts.holds);
    broke = λ broke. after_run refl u h' (other x bs is) acts (breaks_here (ap (λ (h : ReadingState). h.open_run) acts.holds) (stops.broke broke));
  };
  left = ap (λ (h : ReadingState). h.machine.left) acts.holds;
  run = λ n run. subst (λ (h : ReadingState). RunAt n h.open_run) (sym acts.holds) tt;
  none = λ empty. let bad : over.byte ∷ over.rest ≡ [] = sym over.is ∙ empty in cc;
}
  where
    other : (x : Placed) (bs : List ℕ) → next ≡ x.byte ∷ bs → is_operand x ≡ false
    other x bs is = grind arith

-- One step after another.

-- A step that consumes nothing, and changes nothing.
abbrev pub conveys_nothing : {S : Type 0} (g : Ghosts S) (t : S) (h : ReadingState) → LeadsThrough g t h [] []
conveys_nothing g t h = record { sink = t; holding = h; left = refl; run = λ n all before. before; passes = λ s o pending k. k; none = λ _. (refl, refl, refl) }

pub leads_nowhere : {S : Type 0} {g : Ghosts S} {t v : S} {h retained : ReadingState} (next : List ℕ) → v ≡ t → retained ≡ h → LeadsOn g t h v retained [] next
leads_nowhere {g = g} {t = t} {h = h} next sink same = record { conveys = conveys_nothing g t h; acted = as_it_was sink same }

abbrev pub IsAt : ℕ → Placed → Type 0
IsAt n x = x.place ≡ n

-- a property of all bytes of a list, for its prefix and for the rest
pub all_prefix : {X : Type 0} (P : X → Type 0) (xs ys : List X) → All P (xs ++ ys) → All P xs
all_prefix P xs ys all = rw take-append_seam at (All-take P (length xs) (xs ++ ys) all)

pub all_rest : (n : ℕ) (xs ys : List Placed) → All (IsAt n) (xs ++ ys) → All (IsAt n) ys
all_rest n xs ys all = rw drop-append_seam at (All-drop (IsAt n) (length xs) (xs ++ ys) all)

pub acted_then : {S : Type 0} {g : Ghosts S} {t : S} {h : ReadingState} {u : S} {h' : ReadingState} {v : S} {h'' : ReadingState} {next : List ℕ} → Acted g t h u h' next → Acted g u h' v h'' next → Acted g t h v h'' next
acted_then first then = record {
  passes = λ x bs is s o pending k. then.passes x bs is s o pending (first.passes x bs is s o pending k);
  stops = λ x bs is w r stops. first.stops x bs is w r (then.stops x bs is w r stops);
  left = then.left ∙ first.left;
  run = λ n run. then.run n (first.run n run);
  none = λ empty. ((then.none empty).0 ∙ (first.none empty).0, (then.none empty).1 ∙ (first.none empty).1);
}

-- Bytes were consumed, and then more of those that came next.
module _ {S : Type 0} {g : Ghosts S} {t : S} {h : ReadingState} {u : S} {h' : ReadingState} {xs : List Placed} {next : List ℕ} (first : LeadsOn g t h u h' xs next) where
  -- the bytes in two steps, if the first of the second step comes next
  unfoldable pub conveys_then : {owed : List Entry} (x : Placed) (ys : List Placed) → (rest : List ℕ) → next ≡ x.byte ∷ rest → LeadsThrough g u h' owed (x ∷ ys) → LeadsThrough g t h owed (xs ++ x ∷ ys)
  conveys_then x ys rest is then =
      let c = first.conveys in
      record {
        sink = then.sink;
        holding = then.holding;
        left = then.left ∙ first.acted.left ∙ c.left;
        run = λ n all before.
            then.run n (all_rest n xs (x ∷ ys) all) (first.acted.run n (c.run n (all_prefix (IsAt n) xs (x ∷ ys) all) before));
        passes = λ s o pending k.
            then.passes s o pending (first.acted.passes x rest is s o (ys ++ pending)
            (c.passes s o ((x ∷ ys) ++ pending) (subst (Continues g s o t h) (append_assoc xs (x ∷ ys) pending) k)));
        none = λ none. absurd (omega (arith, ap length none, length-append xs (x ∷ ys)));
      }

  pub leads_then : (v : S) (h'' : ReadingState) (ys : List Placed) (then_next : List ℕ) → next ≡ bytes_of ys ++ then_next → LeadsOn g u h' v h'' ys then_next → LeadsOn g t h v h'' (xs ++ ys) then_next
  unfolding conveys_then
  leads_then v h'' [] then_next is then =
      let (sink, holding, none) = then.conveys.none refl in
      let acted : Acted g u h' v h'' then_next = subst (λ (retained : ReadingState). Acted g u retained v h'' then_next) holding (subst (λ (w : S). Acted g w then.conveys.holding v h'' then_next) sink then.acted) in
      subst (λ (zs : List Placed). LeadsOn g t h v h'' zs then_next) (sym (append-nil xs)) (record {
        conveys = first.conveys;
        acted = acted_then (subst (Acted g first.conveys.sink first.conveys.holding u h') is first.acted) acted;
      })
  leads_then v h'' (y ∷ ys) then_next is then = record {
    conveys = conveys_then y ys (bytes_of ys ++ then_next) is then.conveys;
    acted = then.acted;
  }

  -- The bytes lead to a byte that is refused or breaks.
  pub stops_then : {x : Placed} {v : S} {r : Refusal} {owed : List Entry} (ys : List Placed) (rest : List ℕ) → next ≡ bytes_of ys ++ x.byte ∷ rest → (c : LeadsThrough g u h' owed ys) → StopsByte g c.sink owed c.holding x v r →
      (then : List Entry) × (k : LeadsThrough g t h then (xs ++ ys)) × StopsByte g k.sink then k.holding x v r
  unfolding conveys_then
  stops_then {x} {v} {r} [] rest is c stops =
      let (sink, holding, none) = c.none refl in
      let here : StopsByte g u [] h' x v r = rw (sink, holding, none) at stops in
      subst (λ (zs : List Placed). (then : List Entry) × (k : LeadsThrough g t h then zs) × StopsByte g k.sink then k.holding x v r) (sym (append-nil xs)) ([], first.conveys, first.acted.stops x rest is v r here)
  stops_then {x} {owed = owed} (y ∷ ys) rest is c stops = (owed, conveys_then y ys (bytes_of ys ++ x.byte ∷ rest) is c, stops)

-- What stops at a byte.

pub stops_now : {S : Type 0} {g : Ghosts S} {t u : S} {h : ReadingState} {all following : List Placed} {x : Placed} {r : Refusal} → all ≡ x ∷ following → StopsByte g t [] h x u r → Stops g t h all 0 u r
stops_now {g = g} {t = t} {h = h} {following = following} {x = x} is stops = record { byte = x; following = following; is = is; owed = []; leads = conveys_nothing g t h; stops = stops }

pub stops_own : {S : Type 0} (g : Ghosts S) (t : S) (h : ReadingState) (x : Placed) (u : S) (r : Refusal) → cause_of r.fault ≡ stream → ((s : S) (o : Outcome) (pending : List Placed) → Continues g s o t h (x ∷ pending) → IsRefused g s o u h r) → StopsByte g t [] h x u r
stops_own g t h x u r is refuses = record { own = λ own. refuses; broke = λ broke. absurd (broke is) }

-- memory is lacking to the reader itself for a byte
pub lacks : {S : Type 0} (g : Ghosts S) (t : S) (h : ReadingState) (x : Placed) (after : ReadingState) (came : List Placed) → (is_operand x ≡ true) ⊎ (h.open_body ≡ None → h.open_run ≡ None) → LacksOwn h x after came → ((known : List Entry) → Passes kept_list known h (x ∷ []) known after came) →
    StopsByte g t [] h x t (refusal Memory x.place)
lacks g t h x after came closing why passes = record {
  own = λ own. let bad : ⊥ = cc in absurd bad;
  broke = λ broke.
      at_byte closing (record {
        place = refl;
        adds = [];
        after = after;
        came = came;
        passes = λ known. subst (λ (then : List Entry). Passes kept_list known h (x ∷ []) then after came) (sym (append-nil known)) (passes known);
        part = inl (refl, refl);
        why = inl why;
      });
}

-- A byte calls or presents a body that can't be charged, or for which memory is lacking. No run is open, and nothing is
-- pending once the body is charged.
pub cannot_stops : {S : Type 0} {g : Ghosts S} {t : S} {h : ReadingState} {x : Placed} {fault : Fault} {left : ℕ} (m : Machine) (bytes : List ℕ) (after : ReadingState) → left ≡ m.left → m.left ≡ h.machine.left → (h.open_body ≡ None → h.open_run ≡ None) → after.machine ≡ after_charge m (length bytes) →
    ((rest pending : List Placed) → ArePending rest h → (stream_front h.machine (rest ++ x ∷ pending) ≡ shown_front m x.place bytes pending) × ArePending [] after) →
    ((fault ≡ Budget) × (left < length bytes)) ⊎ ((fault ≡ Memory) × (0 < length bytes) × (length bytes ≤ left)) → StopsByte g t [] h x t (refusal fault x.place)
cannot_stops {g = g} {t} {h} {x} m bytes after all still closed same acting (inl (is, many)) =
    subst (λ (fault : Fault). StopsByte g t [] h x t (refusal fault x.place)) (sym is)
    (stops_own g t h x t (refusal Budget x.place) refl (λ s o pending k. leads_budget k m x.place bytes pending (acting k.rest pending k.retained).0 (omega (arith, many, all))))
cannot_stops {g = g} {t} {h} {x} m bytes after all still closed same acting (inr (is, some, few)) =
    subst (λ (fault : Fault). StopsByte g t [] h x t (refusal fault x.place)) (sym is)
    (lacks g t h x after (all_at x.place bytes) (inr closed) (inl (let charged = ap (λ (m : Machine). m.left) same in omega (arith, charged, some, few, all, still)))
    (λ known s o pending k.
    let (acts, retained) = acting k.rest pending k.retained in
    leads_shown k m x.place bytes pending acts (omega (arith, few, all)) after same retained))
