use Rattle.nap_reader.proofs.Common.{AcceptedIsLegal, All-append, All-nil, AllFit, AllInRange, Begins, BegunComesFirst, BreaksAmong, BreaksAt, BreaksBetween, BreaksFrom, BreaksWith, CanLackAt, Cause, DefinitionsAgree, DrawFault, EndBreaksAmong, Entry, Err, FedBreaksAmong, Ghosts, IfSome, InRange, IsBroken, LacksWithin, Legal, List, None, Ok, OpenDefinition, Option, Outcome, PlacedWith, PlacedWithin, ReadValuesAreInRange, Refusal, Result, RuleResult, Some, StateInRange, StatesAgree, StopsBy, Unfinished, WantsMemory, WantsSome, Work, [], ap, append-nil, append_assoc, arith, begun, cause_of, code_fits, code_values_are_in_range, drawn_values_are_in_range, drop, ended_by, fits_join, get_or, get_or-append_seam, inl, inr, length, length-append, means, open_run, placed_from, refl, rule, rule_fits, start, start_agrees, start_machine, stream, sym, take, take-append_seam, walk, walks_join, with_drawn, with_end, with_run, with_run_by, ℕ, ◌++◌, ◌+◌, ◌∙◌, ◌∷◌, ◌≡◌, ◌≢◌, ◌⊎◌}
use Rattle.nap_reader.proofs.Base.{IsOfWords, Puts, breaks_longer, breaks_more, breaks_there, by_code, by_rule, closed_first, lacks_there, more_bytes_keep_entries, puts_nothing, run_first, same_first, taken_all, took_prefix}
use Rattle.nap_reader.proofs.StreamLemmas.{outcome_holds}

-- The end of a stream keeps the entries before it. It is accepted only where nothing was refused before and no definition
-- is open.

end_keeps : (o : Outcome) (n : ℕ) (r : Option Refusal) → ((with_end o n r).entries ≡ o.entries) × (o.refusal ≡ r → (with_end o n r).refusal ≡ None → o.machine.work.state.definition ≡ None)
end_keeps o n r = grind arith

ended_first : (o : Outcome) (n : ℕ) (r : Option Refusal) → Begins o (ended_by o n r)
ended_first o n (Some r) = same_first o
ended_first o n None =
    let k = run_first o o.unfinished in
    (k.0, (end_keeps (with_run o) n (with_run o).refusal).0 ∙ k.1)

pub begun_comes_first : BegunComesFirst
begun_comes_first budget p = ended_first (begun budget p) (length p) (begun budget p).refusal

-- Reading breaks, and the sink has a part of the entries.

between_from : {S : Type 0} {g : Ghosts S} {s : S} {before after : Outcome} {t : S} {cause : Cause} → BreaksBetween g s before after t cause → BreaksFrom g s before.entries after t cause
between_from {g = g} {s = s} {before = before} {t = t} {cause = cause} h = record { more = h.more; adds = h.adds; part = took_prefix g s before.entries h.more t cause h.part }

-- at the byte b after p
module _ {S : Type 0} (g : Ghosts S) (s : S) (budget : ℕ) (p : List ℕ) (b : ℕ) (t : S) (r : Refusal) where
  with_byte : BreaksWith g s budget p b t (cause_of r.fault) → BreaksFrom g s (begun budget p).entries (begun budget (p ++ b ∷ [])) t (cause_of r.fault)
  with_byte (inl between) = let known = closed_first (begun budget p) b in breaks_longer (begun budget p).entries known.0 (rw known.1 at (between_from between))
  with_byte (inr (charged, from)) = from

  at_byte : BreaksAt g s budget p b t r → BreaksFrom g s (begun budget p).entries (begun budget (p ++ b ∷ [])) t (cause_of r.fault)
  at_byte (inl (other, first, in_run)) = breaks_more first.0 first.1 (between_from in_run.part)
  at_byte (inr h) = with_byte h.part

-- a place at that byte is within the bytes with the rest after them
placed_within : (Can : ℕ → List ℕ → ℕ → Type 0) (budget : ℕ) (p : List ℕ) (b : ℕ) (rest : List ℕ) (place : ℕ) → PlacedWith Can budget p b place → PlacedWithin Can budget ((p ++ b ∷ []) ++ rest) place
placed_within Can budget p b rest place h =
    inl (length p, omega (arith, length-append (p ++ b ∷ []) rest, length-append p (b ∷ [])), rw (append_assoc p (b ∷ []) rest, take-append_seam p (b ∷ rest), get_or-append_seam p b rest 0) h)

pub broken_among : {S : Type 0} {g : Ghosts S} {s t : S} {left : ℕ} {r : Refusal} (budget : ℕ) (p : List ℕ) (b : ℕ) (rest : List ℕ) → IsBroken g s budget p b t left r →
    BreaksAmong g s budget ((p ++ b ∷ []) ++ rest) (begun budget p).entries (begun budget ((p ++ b ∷ []) ++ rest)) t r
broken_among {g = g} {s} {t} {left} {r} budget p b rest h = search (arith, placed_within, breaks_there, lacking, lacks_there, breaks_more, all, at_byte) steps 100000
  where
    all : Begins (begun budget (p ++ b ∷ [])) (begun budget ((p ++ b ∷ []) ++ rest))
    all = more_bytes_keep_entries budget (p ++ b ∷ []) rest

    lacking : CanLackAt budget p b r.place ⊎ g.wants s (begun budget (p ++ b ∷ [])).entries → LacksWithin budget ((p ++ b ∷ []) ++ rest) r.place ⊎ WantsSome g s (begun budget ((p ++ b ∷ []) ++ rest)).entries
    lacking (inl own) = inl (placed_within WantsMemory budget p b rest r.place own)
    lacking (inr sink) = inr ((begun budget (p ++ b ∷ [])).entries, all.0, all.1, sink)

pub fed_breaks_among : {S : Type 0} (g : Ghosts S) → FedBreaksAmong g
fed_breaks_among {S} g s budget before last i t left r within = at (cause_of r.fault)
  where
    among : IsBroken g s budget (before ++ take i last) (get_or last i 0) t left r → BreaksAmong g s budget (before ++ last) (begun budget before).entries (begun budget (before ++ last)) t r
    among h =
        let known = more_bytes_keep_entries budget before (take i last) in
        let k = rw (taken_all before last i within) at (broken_among budget (before ++ take i last) (get_or last i 0) (drop (i + 1) last) h) in
        record { place = k.place; wants = k.wants; from = breaks_longer (begun budget before).entries known.0 (rw known.1 at k.from) }

    at : (cause : Cause) → cause ≢ stream → StopsBy g s budget (before ++ take i last) (get_or last i 0) t left r cause → BreaksAmong g s budget (before ++ last) (begun budget before).entries (begun budget (before ++ last)) t r
    at stream own h = absurd (own refl)
    at _ own h = among h

pub end_breaks_among : {S : Type 0} (g : Ghosts S) → EndBreaksAmong g
end_breaks_among g s budget p t r live h =
    let last = with_run (begun budget p) in
    let same : (means budget p).entries ≡ last.entries =
    ap (λ (q : Option Refusal). (ended_by (begun budget p) (length p) q).entries) live ∙ (end_keeps last (length p) last.refusal).0 in
    record {
      place = inr (h.place, h.part.unrefused);
      wants = λ _. inl (inr (h.place, h.part.unrefused));
      from = breaks_more [] (same ∙ sym (append-nil last.entries)) (between_from h.part);
    }

-- The entries that are read fit, and are in range.

-- entries from the start on fit and are in range, the drawing state agrees with the one that they leave, and its values
-- are in range
record Reads (es : List Entry) (work : Work) : Type 0 where
  pub fit : AllFit start es
  pub ranged : AllInRange es
  pub agrees : StatesAgree work.state (walk start es)
  pub state : StateInRange work.state

-- more entries fit the state that the first leave
joined : {work after : Work} (ds es : List Entry) → Reads ds work → AllFit (walk start ds) es × StatesAgree after.state (walk (walk start ds) es) → AllInRange es × StateInRange after.state → Reads (ds ++ es) after
joined ds es so fits ranged = record {
  fit = (fits_join start ds es).1 (so.fit, fits.0);
  ranged = All-append InRange ds es so.ranged ranged.0;
  agrees = rw (walks_join start ds es) fits.1;
  state = ranged.1;
}

-- so do those that a front puts
puts_more : {work after : Work} {es : List Entry} (ds : List Entry) → Puts work es after → Reads ds work → Reads (ds ++ es) after
puts_more ds puts_nothing so = rw append-nil so
puts_more {work} ds (by_rule op run d words is) so =
    joined ds d.entries so (rule_fits work op run (walk start ds) d is so.agrees) (drawn_values_are_in_range work op run d is so.state words)
puts_more {work} ds (by_code c d made is) so = joined ds d.entries so (code_fits work c (walk start ds) d is made so.agrees) (code_values_are_in_range work c d is made so.state)

start_ranged : StateInRange start
start_ranged = search (arith, All-nil)

begun_reads : (budget : ℕ) (p : List ℕ) → Reads (begun budget p).entries (begun budget p).machine.work × IfSome (begun budget p).unfinished IsOfWords
unfolding walk AllFit
begun_reads budget p =
    outcome_holds (λ m xs o. (ds : List Entry) → Reads ds m.work → Reads (ds ++ o.entries) o.machine.work × IfSome o.unfinished IsOfWords)
    (λ m xs u words ds so. (rw append-nil so, words)) (λ m xs r is ds so. (rw append-nil so, tt))
    (λ m m' xs ys es o is puts few ih ds so. (let k = ih (ds ++ es) (puts_more ds puts so) in (rw append_assoc at k.0, k.1))) (start_machine budget) (placed_from 0 p) []
    (record { fit = tt; ranged = All-nil InRange; agrees = start_agrees; state = start_ranged })

-- the opcode of an open run acts at the end of a stream
run_reads : (o : Outcome) (u : Option Unfinished) → IfSome u IsOfWords → Reads o.entries o.machine.work → Reads (with_run_by o u).entries (with_run_by o u).machine.work
run_reads o (Some (open_run op place run)) words so = at (rule o.machine.work op run) refl
  where
    at : (by : Result RuleResult DrawFault) → rule o.machine.work op run ≡ by → Reads (with_drawn o place by).entries (with_drawn o place by).machine.work
    at (Ok drawn) e = puts_more o.entries (by_rule op run drawn words e) so
    at (Err fault) e = so
run_reads o _ words so = so

nothing_shown : (opened shown : Option OpenDefinition) → opened ≡ None → DefinitionsAgree opened shown → shown ≡ None
nothing_shown opened shown e h = grind arith

ended_reads : (o : Outcome) (n : ℕ) (r : Option Refusal) → Reads o.entries o.machine.work → IfSome o.unfinished IsOfWords → AllInRange (ended_by o n r).entries × (o.refusal ≡ r → (ended_by o n r).refusal ≡ None → Legal (ended_by o n r).entries)
ended_reads o n (Some r) so words = (so.ranged, λ is accepted. cc)
ended_reads o n None so words =
    let last = with_run o in
    let k = run_reads o o.unfinished words so in
    let (same, closed) = end_keeps last n last.refusal in
    rw same (k.ranged, λ is accepted. record { fit = k.fit; ended = nothing_shown last.machine.work.state.definition (walk start last.entries).definition (closed refl accepted) k.agrees.definition })

pub accepted_is_legal : AcceptedIsLegal
accepted_is_legal budget p = let k = begun_reads budget p in (ended_reads (begun budget p) (length p) (begun budget p).refusal k.0 k.1).1 refl

pub read_values_are_in_range : ReadValuesAreInRange
read_values_are_in_range budget p = let k = begun_reads budget p in (k.0.ranged, (ended_reads (begun budget p) (length p) (begun budget p).refusal k.0 k.1).0)
