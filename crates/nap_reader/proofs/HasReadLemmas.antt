use Rattle.nap_reader.proofs.Common.{Answers, AnswersBy, Cause, Continues, Ghosts, HasRead, IsBroken, List, Machine, None, Reader, Refusal, Some, StopsAt, StopsBy, [], ap, append_assoc, arith, begun, budget_of, cause_of, drop, fed_of, get_or, get_or-append-add, get_or_append_left, left_of, length, length-append, reading_state, refusal_of, sink_of, slice_index, stream, subst, sym, take, take-append-add, take-append-drop, take-append-le, take_more, ℕ, ◌++◌, ◌+◌, ◌<◌, ◌∙◌, ◌∷◌, ◌≡◌}
use Rattle.nap_reader.proofs.ReadingLemmas.{leads_unrefused, leads_taken, leads_machine}
use Rattle.nap_reader.proofs.LawLemmas.{more_bytes_keep_refusal}

-- a piece up to a byte, and that byte
pub taken_more : (p piece : List ℕ) (i : ℕ) → i < length piece → (p ++ take i piece) ++ get_or piece i 0 ∷ [] ≡ p ++ take (i + 1) piece
taken_more p piece i within = append_assoc p (take i piece) (get_or piece i 0 ∷ []) ∙ ap (λ (q : List ℕ). p ++ q) (sym (take_more piece i 0 within))

-- a piece up to a byte, that byte, and those after it
pub taken_all : (p piece : List ℕ) (i : ℕ) → i < length piece → ((p ++ take i piece) ++ get_or piece i 0 ∷ []) ++ drop (i + 1) piece ≡ p ++ piece
taken_all p piece i within = grind (arith, taken_more, append_assoc, take-append-drop)

-- A reader whose pending bytes lead on has read the bytes so far.
pub has_read_by : {S : Type 0} {g : Ghosts S} (reader : Reader S g) (s : S) (p : List ℕ) → refusal_of reader ≡ None → fed_of reader ≡ length p →
    Continues g s (begun (budget_of reader) p) (sink_of reader) (reading_state reader) [] → HasRead reader s p
has_read_by {S} {g} reader s p live fed k = record {
  answers = subst (Answers g s (budget_of reader) p (sink_of reader) (left_of reader)) (sym live) (record {
    refusal = leads_unrefused k;
    taken = leads_taken k;
    left = ap (λ (m : Machine). m.left) (leads_machine k);
  });
  fed = λ _. fed;
  continues = λ _. k;
}

-- a refusal is the answer whatever bytes come after it
broken_stays : {S : Type 0} {g : Ghosts S} {s : S} {budget : ℕ} {t : S} {n : ℕ} {r : Refusal} (p q : List ℕ) (i : ℕ) → i < length p →
    IsBroken g s budget (take i p) (slice_index p i) t n r → IsBroken g s budget (take i (p ++ q)) (slice_index (p ++ q) i) t n r
broken_stays p q i within h = rw (take-append-le i p q (omega (arith, within)), get_or_append_left p q 0 i within) h

answers_stay : {S : Type 0} (g : Ghosts S) (s : S) (budget : ℕ) (p q : List ℕ) (t : S) (n : ℕ) (r : Refusal) (cause : Cause) →
    AnswersBy g s budget p t n r cause → AnswersBy g s budget (p ++ q) t n r cause
answers_stay g s budget p q t n r stream h = rw (more_bytes_keep_refusal budget p q r h.refusal) h
answers_stay g s budget p q t n r _ (i, within, h) = (i, omega (arith, within, length-append p q), broken_stays p q i within h)

has_read_refused : {S : Type 0} {g : Ghosts S} (reader : Reader S g) (r : Refusal) (s : S) (p : List ℕ) → refusal_of reader ≡ Some r →
    AnswersBy g s (budget_of reader) p (sink_of reader) (left_of reader) r (cause_of r.fault) → HasRead reader s p
has_read_refused {S} {g} reader r s p is h = grind arith

-- A refused reader has read whatever bytes come after the refusal.
pub stays : {S : Type 0} {g : Ghosts S} (reader : Reader S g) (r : Refusal) → refusal_of reader ≡ Some r → (s : S) (p q : List ℕ) →
    HasRead reader s p → HasRead reader s (p ++ q)
stays {S} {g} reader r is s p q h = grind (arith, has_read_refused, answers_stay)

-- a reader that was refused in a piece has read the piece
pub has_read_past_stop : {S : Type 0} {g : Ghosts S} {old new : Reader S g} {piece : List ℕ} {r : Refusal} {i : ℕ} → refusal_of new ≡ Some r → budget_of new ≡ budget_of old →
    StopsAt old new piece r i → (s : S) (p : List ℕ) → HasRead old s p → HasRead new s (p ++ piece)
has_read_past_stop {S} {g} {old} {new} {piece} {r} {i} refused budget stops s p h =
    has_read_refused new r s (p ++ piece) refused
    (subst (λ (n : ℕ). AnswersBy g s n (p ++ piece) (sink_of new) (left_of new) r (cause_of r.fault)) (sym budget) (by (cause_of r.fault) (stops.there s p h)))
  where
    broken : IsBroken g s (budget_of old) (p ++ take i piece) (get_or piece i 0) (sink_of new) (left_of new) r →
        (j : ℕ) × (j < length (p ++ piece)) × IsBroken g s (budget_of old) (take j (p ++ piece)) (slice_index (p ++ piece) j) (sink_of new) (left_of new) r
    broken k = (length p + i, omega (arith, stops.within, length-append p piece), rw (take-append-add p piece i, get_or-append-add p piece i 0) k)

    by : (cause : Cause) → StopsBy g s (budget_of old) (p ++ take i piece) (get_or piece i 0) (sink_of new) (left_of new) r cause → AnswersBy g s (budget_of old) (p ++ piece) (sink_of new) (left_of new) r cause
    by stream k =
        rw (← (taken_all p piece i stops.within))
        (answers_stay g s (budget_of old) ((p ++ take i piece) ++ get_or piece i 0 ∷ []) (drop (i + 1) piece) (sink_of new) (left_of new) r stream k)
    by _ k = broken k
