use Rattle.nap_reader.proofs.Common.{Breaks, BreaksFrom, Cause, DrawFault, Entry, Ghosts, GivesSome, Leads, List, Memory, NeverWants, None, Ok, Outcome, Passes, Placed, ReadingState, Result, RuleResult, TakesSome, TookPart, TookPrefix, WantsBy, [], ap, append-nil, append_assoc, arith, at_byte, cause_of, draw_fault, false, inr, kept_list, length, length-append, memory, refl, refusal, stream, subst, true, ◌++◌, ◌∷◌, ◌≡◌, ◌≢◌}
use Rattle.nap_draw.specs.Draws as draws
use Rattle.nap_reader.proofs.ReadingLemmas.{Lawful, rule_part, was_failed}

-- What a sink has if reading breaks.

-- a sink that was s took these entries, and is t
pub record Known {S : Type 0} (g : Ghosts S) (s : S) (known : List Entry) (t : S) : Type 0 where
  pub taken : g.took s known t
  pub clear : g.failed s ≡ false → g.failed t ≡ false

-- A sink that had taken entries took a part of further ones, after those that it was owed.
pub part_known : {S : Type 0} {g : Ghosts S} {s t : S} {done known : List Entry} (u : S) (owed adds : List Entry) (cause : Cause) → Lawful g → Known g s done t → known ≡ done ++ owed → TakesSome g t owed adds u cause → TookPart g s known adds u cause
part_known u owed adds cause laws k is part = grind (arith, was_failed, append-nil, append_assoc)

-- the entries that a sink took of the outcome's further ones
pub took_prefix : {S : Type 0} (g : Ghosts S) (s : S) (known more : List Entry) (t : S) (cause : Cause) → TookPart g s known more t cause → TookPrefix g s known more t cause
took_prefix g s known more t cause part = grind (arith, append-nil)

-- a break is also one of an outcome with other entries before or after, and of a sink with the same model
breaks_as : {S : Type 0} {g : Ghosts S} {s t u : S} {known : List Entry} {o whole : Outcome} {cause : Cause} (known' before following : List Entry) → (g.failed t ≡ true → g.failed s ≡ true) →
    ((first : List Entry) → g.took t (known ++ first) u → g.took s (known' ++ (before ++ first)) u) → ((first : List Entry) (next : Entry) → g.broke t (known ++ first) next u → g.broke s (known' ++ (before ++ first)) next u) →
    (h : BreaksFrom g t known o u cause) → whole.entries ≡ known' ++ (before ++ (h.more ++ following)) → BreaksFrom g s known' whole u cause
breaks_as {S} {g} {s} {t} {u} {known} {o} {whole} {cause} known' before following failed took broke h adds = grind (arith, append_assoc)

-- a break with fewer known entries
pub breaks_longer : {S : Type 0} {g : Ghosts S} {s : S} {o : Outcome} {t : S} {cause : Cause} (known es : List Entry) → BreaksFrom g s (known ++ es) o t cause → BreaksFrom g s known o t cause
breaks_longer {g = g} {s = s} {t = t} known es h = grind (arith, breaks_as, append_assoc, append-nil)

-- a break with more entries after it
pub breaks_more : {S : Type 0} {g : Ghosts S} {s : S} {known : List Entry} {o whole : Outcome} {t : S} {cause : Cause} (es : List Entry) → whole.entries ≡ o.entries ++ es → BreaksFrom g s known o t cause → BreaksFrom g s known whole t cause
breaks_more {known = known} es more h = grind (arith, breaks_as, append_assoc)

-- a break after a list that was taken
pub breaks_after : {S : Type 0} {g : Ghosts S} {s t u : S} {known : List Entry} {o whole : Outcome} {cause : Cause} → Lawful g → Known g s known t → whole.entries ≡ known ++ o.entries → BreaksFrom g t [] o u cause → BreaksFrom g s known whole u cause
breaks_after {g = g} {s = s} {t = t} {u = u} {known = known} laws k is h = grind arith

-- the known entries are the first of the outcome
pub known_first : {o : Outcome} {known : List Entry} {h : ReadingState} {pending : List Placed} → Leads o known h pending → (more : List Entry) × (o.entries ≡ known ++ more)
known_first {h = h} {pending = pending} k = grind arith

-- a part of the last known entries is a part of the outcome's
pub part_from : {S : Type 0} (g : Ghosts S) (s u : S) {o : Outcome} (known adds : List Entry) {h : ReadingState} {pending : List Placed} (cause : Cause) → Leads o (known ++ adds) h pending → TookPart g s known adds u cause → BreaksFrom g s known o u cause
part_from g s u {o} known adds cause k part =
    let first = known_first k in
    let from : BreaksFrom g s known (record o { entries = known ++ adds }) u cause = record { more = adds; adds = refl; part = took_prefix g s known adds u cause part } in
    breaks_more first.0 first.1 from

-- A rule is refused, or not all of its entries could be put.
pub record Fails {S : Type 0} (g : Ghosts S) (by : Result RuleResult DrawFault) (t u : S) (fault : DrawFault) : Type 0 where
  pub drew : draws.DrawsBy g.took g.broke g.failed by t u fault (draws.draw_cause fault)
  pub wants : fault ≡ DrawFault.Memory → WantsBy g by t u
  pub gives : fault ≡ DrawFault.Sink → GivesSome by

-- memory isn't lacking for a sink that never wants any
pub fails_spare : {S : Type 0} {g : Ghosts S} {by : Result RuleResult DrawFault} {t u : S} (fault : DrawFault) → Fails g by t u fault → NeverWants g t → draw_fault fault ≢ Memory
fails_spare fault h k e = grind arith

-- A byte ends a code, whose rule acts, and not all of its entries could be put.
pub code_breaks : {S : Type 0} {g : Ghosts S} {t u : S} {h : ReadingState} {x : Placed} {fault : DrawFault} {by : Result RuleResult DrawFault} (after : RuleResult → ReadingState) → h.open_run ≡ None →
    ((drawn : RuleResult) → by ≡ Ok drawn → (known : List Entry) → Passes kept_list known h (x ∷ []) (known ++ drawn.entries) (after drawn) []) → Fails g by t u fault → cause_of (draw_fault fault) ≢ stream → Breaks g t [] h x u (refusal (draw_fault fault) x.place)
code_breaks {g = g} {t = t} {u = u} {fault = fault} {by = by} after closed passes fails broke =
    let (drawn, is, part) = rule_part g t u by fault fails.drew broke in
    let (adds, wants) = some fault drawn (λ memory. subst (λ (r : Result RuleResult DrawFault). WantsBy g r t u) is (fails.wants memory)) (λ device. subst GivesSome is (fails.gives device)) broke in
    at_byte (inr (λ _. closed)) (record {
      place = refl;
      adds = drawn.entries;
      after = after drawn;
      came = [];
      passes = passes drawn is;
      part = part;
      why = inr (refl, adds, wants);
    })
  where
    some : (fault : DrawFault) (drawn : RuleResult) → (fault ≡ DrawFault.Memory → WantsBy g (Ok drawn) t u) → (fault ≡ DrawFault.Sink → GivesSome (Ok drawn)) → cause_of (draw_fault fault) ≢ stream →
        (drawn.entries ≢ []) × (cause_of (draw_fault fault) ≡ memory → g.wants t drawn.entries)
    some DrawFault.Memory drawn wants gives broke =
        let want = wants refl in
        (λ none. omega (arith, ap length none, ap length want.stops.3, length-append want.stops.0 (want.stops.1 ∷ want.stops.2)), λ _. want.wants)
    some DrawFault.Sink drawn wants gives broke = (gives refl, λ is. let bad : ⊥ = cc in absurd bad)
    some _ drawn wants gives broke = absurd (broke refl)
