use Rattle.nap_command.proofs.{AddsAhead, Ahead, All, All-append, All-nil, AllocError, AreNew, BreaksWithin, CodeSets, Entry, Err, Fault, Ghosts, HasRead, IfOk, IsPlaced, LineSinkState, List, Machine, NeverFalls, None, Ok, PartsAt, PlacesAreExact, PlacesText, Refusal, Result, Some, StopsAt, StopsBy, TakesLinesOf, [], ap, append-nil, append_assoc, arith, begun, budget_of, bytes_ahead, came_with, cases_lt, cause_of, decimal, drop, drop_at, ended_by, entries_added, eq-eqb, eqb-true, get_or, get_or-append_seam, inl, inr, left_of, length, length-append, length-drop, line, line_at, lines, lines_at, lines_join, lines_on, lines_placed, means, placed_from, places, places_before, refl, refusal_of, replicate, sink_of, start, start_machine, step_of, stream, stream_front, subst, suc, sym, take, take-add, take-append-drop, take-append-le, take_all, take_at, zero, ℕ, ◌++◌, ◌+◌, ◌-◌, ◌<◌, ◌∙◌, ◌∷◌, ◌≡◌, ◌≢◌, ◌≤◌, ◌⊎◌}
use Rattle.nap_make.proofs.PublicLaws.{lines_have_no_ends}
use Rattle.nap_reader.specs.ReaderAnswers.{Answers, AnswersBy}
use Rattle.nap_codes.specs.Front as codes
use Rattle.nap_reader.specs.Course as course
use Rattle.memchr.specs.Find.{IsFirstByte, is_byte}
use Rattle.nap_canon.specs.Names.{AllInRange, BreaksInRun, InRange, Reader, nothing, outcome_from}
use Rattle.nap_reader.proofs.PublicLaws.{begun_comes_first, fed_breaks_among, front_after_front, more_bytes_keep_entries, more_bytes_keep_refusal, read_values_are_in_range}
use Rattle.std.proofs.lemmas.List.Elements.{All-drop, All-head, All-replicate, All-tail, All-take, All-weaker}
use Rattle.std.proofs.lemmas.List.{drop-append-le, drop_all, get_or_append_left, length-replicate, take-take}

-- The lines of a page's entries, each after its place.

-- the first line ends at the first byte that ends one

module _ (hay : List ℕ) (e : Entry) (rest : List ℕ) (parts : hay ≡ (line e ++ 10 ∷ []) ++ rest) where
  abbrev size : ℕ
  size = length (line e)

  whole : hay ≡ line e ++ 10 ∷ rest
  whole = parts ∙ append_assoc (line e) (10 ∷ []) rest

  ends_there : get_or hay size 0 ≡ 10
  ends_there = ap (λ bs. get_or bs size 0) whole ∙ get_or-append_seam (line e) 10 rest 0

  within : size < length hay
  within = omega (arith, ap length whole, length-append (line e) (10 ∷ rest))

  pub first_end : InRange e → (k : ℕ) → IsFirstByte (is_byte 10) hay (Some k) → k ≡ size
  first_end fits k h =
      let ends : get_or hay k 0 ≡ 10 = eqb-true (get_or hay k 0) 10 h.1 in
      let low : ¬ (k < size) = λ less. lines_have_no_ends e fits k 0 less (sym (get_or_append_left (line e) (10 ∷ rest) 0 k less) ∙ sym (ap (λ bs. get_or bs k 0) whole) ∙ ends) in
      let high : ¬ (size < k) = λ less. h.0.before size (omega arith) less (eq-eqb (get_or hay size 0) 10 ends_there) in
      omega (arith, low, high)

  pub some_end : IsFirstByte (is_byte 10) hay None → ⊥
  some_end none = none size (omega arith) within (eq-eqb (get_or hay size 0) 10 ends_there)

-- Lines that are left to write.

module _ {known : ℕ} {all : List ℕ} {es : List Entry} (k : AreNew known all es) where
  -- how many bytes they are
  left_bytes : length all ≡ known + length (lines es)
  left_bytes = omega (arith, ap length k.is, ap length (lines_join k.before es), length-append (lines k.before) (lines es), k.size)

  pub all_known : length all ≤ known → known ≡ length all
  all_known most = omega (arith, left_bytes, most)

  rest_of : drop known all ≡ lines es
  rest_of = ap (λ n. drop n all) k.size ∙ ap (drop (length (lines k.before))) (k.is ∙ lines_join k.before es) ∙ drop_at (lines k.before) (lines es) (length (lines k.before)) refl

-- none
pub none_left : {known : ℕ} {all : List ℕ} (es : List Entry) → AreNew known all es → length all ≤ known → es ≡ []
none_left [] k most = refl
none_left (e ∷ es) k most = absurd (omega (arith, left_bytes k, most, length-append (line e ++ 10 ∷ []) (lines es), length-append (line e) (10 ∷ [])))

one_known : {known : ℕ} {all : List ℕ} (e : Entry) (es : List Entry) → AreNew known all (e ∷ es) → AreNew (known + (length (line e) + 1)) all es
one_known e es k = record {
  before = k.before ++ e ∷ [];
  is = k.is ∙ ap lines (sym (append_assoc k.before (e ∷ []) es));
  size =
      omega (
        arith,
        k.size,
        ap length (lines_join k.before (e ∷ [])),
        length-append (lines k.before) (lines (e ∷ [])),
        length-append (line e ++ 10 ∷ []) [],
        length-append (line e) (10 ∷ []),
      );
  in_range = All-tail InRange e es k.in_range;
}

-- What is left then, where a line was written.
pub record OneLess (known len : ℕ) (all : List ℕ) (at step : ℕ) (left : List Entry) (part : List ℕ) : Type 0 where
  pub further : List Entry
  pub new : AreNew (known + len) all further
  pub count : length left ≡ length further + 1
  pub text : (old : List ℕ) → ((old ++ (decimal at ++ 32 ∷ [])) ++ part) ++ lines_on (at + step) step further ≡ old ++ lines_on at step left

pub one_less : (known len : ℕ) (all : List ℕ) (at step : ℕ) (rest part : List ℕ) → rest ≡ drop known all → part ≡ take len rest → known < length all →
    ((e : Entry) (more : List ℕ) → InRange e → rest ≡ (line e ++ 10 ∷ []) ++ more → len ≡ length (line e) + 1) → (left : List Entry) → AreNew known all left → OneLess known len all at step left part
one_less known len all at step rest part is cut less first [] k = absurd (omega (arith, left_bytes k, less))
one_less known len all at step rest part is cut less first (e ∷ left) k =
    let parts : rest ≡ (line e ++ 10 ∷ []) ++ lines left = is ∙ rest_of k in
    let size : len ≡ length (line e) + 1 = first e (lines left) (All-head InRange e left k.in_range) parts in
    let long : len ≡ length (line e ++ 10 ∷ []) = omega (arith, size, length-append (line e) (10 ∷ [])) in
    let one : part ≡ line e ++ 10 ∷ [] = cut ∙ ap (take len) parts ∙ take_at (line e ++ 10 ∷ []) (lines left) len (sym long) in
    record {
      further = left;
      new = rw size (one_known e left k);
      count = omega arith;
      text = λ old.
          ap (λ bs. ((old ++ (decimal at ++ 32 ∷ [])) ++ bs) ++ lines_on (at + step) step left) one
          ∙ ap (◌++ lines_on (at + step) step left)
          (append_assoc old (decimal at ++ 32 ∷ []) (line e ++ 10 ∷ []) ∙ ap (old ++◌) (append_assoc (decimal at) (32 ∷ []) (line e ++ 10 ∷ [])))
          ∙ append_assoc old (line_at at e) (lines_on (at + step) step left);
    }

-- So far lines were written: what was there and is left is what was there at first, with all.
abbrev pub Goes : ℕ → List ℕ → ℕ → ℕ → List ℕ → ℕ → ℕ → List ℕ → ℕ → ℕ → Type 0
Goes known₀ text₀ count₀ place all step known text count at =
    (es : List Entry) → AreNew known₀ all es → (left : List Entry) × AreNew known all left × (text ++ lines_on at step left ≡ text₀ ++ lines_on place step es) × (count + length left ≡ count₀ + length es)

-- entries of which all lines have one place
pub all_alike : (place : ℕ) (es : List Entry) → lines_on place 0 es ≡ lines_at place es
all_alike place [] = refl
all_alike place (e ∷ es) =
    ap (line_at place e ++◌) (let e' : place + 0 ≡ place = omega arith in ap (λ n. lines_on n 0 es) e' ∙ all_alike place es)

-- one more
pub one_on : (place : ℕ) (es : List Entry) (e : Entry) → lines_on place 1 (es ++ e ∷ []) ≡ lines_on place 1 es ++ line_at (place + length es) e
one_on place [] e = append-nil (line_at place e) ∙ (let same : place ≡ place + 0 = omega arith in ap (λ n. line_at n e) same)
one_on place (x ∷ es) e =
    ap (line_at place x ++◌) (one_on (place + 1) es e)
    ∙ sym (append_assoc (line_at place x) (lines_on (place + 1) 1 es) (line_at (place + 1 + length es) e))
    ∙ (let same : place + 1 + length es ≡ place + suc (length es) = omega arith in ap (λ n. lines_on place 1 (x ∷ es) ++ line_at n e) same)

-- The page is read byte by byte.

-- a stream that is refused so far is refused whatever follows
pub still_refused : (budget : ℕ) (p more : List ℕ) (r : Refusal) → (begun budget p).refusal ≡ Some r → (means budget (p ++ more)).refusal ≡ Some r
still_refused budget p more r is = search (arith, more_bytes_keep_refusal)

-- a sink of lines that has taken nothing
abbrev pub no_lines : LineSinkState
no_lines = record { text = []; state = start }

pub lines_taken : (s : LineSinkState) (d : List Entry) (t : LineSinkState) → TakesLinesOf s d t → t.text ≡ s.text ++ lines d
lines_taken s d t h = h.text

-- What a sink of lines has.
module _ {g : Ghosts LineSinkState} (makes : (s : LineSinkState) (d : List Entry) (t : LineSinkState) → g.took s d t → t.text ≡ s.text ++ lines d) {reader : Reader LineSinkState g} {budget : ℕ} {p : List ℕ}
    (h : HasRead reader no_lines p) (same : budget_of reader ≡ budget) where
  pub kept : refusal_of reader ≡ None → (sink_of reader).text ≡ lines (begun budget p).entries
  kept live =
      let known = subst (Answers g no_lines (budget_of reader) p (sink_of reader) (left_of reader)) live h.answers in
      makes no_lines _ _ known.taken ∙ ap (λ b. lines (begun b p).entries) same

  pub kept_refused : (r : Refusal) → refusal_of reader ≡ Some r → cause_of r.fault ≡ stream → ((sink_of reader).text ≡ lines (begun budget p).entries) × ((begun budget p).refusal ≡ Some r)
  kept_refused r some own =
      let by = subst (Answers g no_lines (budget_of reader) p (sink_of reader) (left_of reader)) some h.answers in
      let known = subst (AnswersBy g no_lines (budget_of reader) p (sink_of reader) (left_of reader) r) own by in
      (makes no_lines _ _ known.taken ∙ ap (λ b. lines (begun b p).entries) same, ap (λ b. (begun b p).refusal) (sym same) ∙ known.refusal)

pub own_cause : (f : Fault) → f ≢ Fault.Memory → f ≢ Fault.Sink → cause_of f ≡ stream
own_cause Fault.Memory apart also = absurd (apart refl)
own_cause Fault.Sink apart also = absurd (also refl)
own_cause _ apart also = refl

-- what a list has more than one that it begins with
module _ (xs ys more : List Entry) (is : ys ≡ xs ++ more) where
  added_is : ys ≡ xs ++ entries_added xs ys
  added_is = is ∙ ap (xs ++◌) (sym (ap (drop (length xs)) is ∙ drop_at xs more (length xs) refl))

  are_new : AllInRange ys → AreNew (length (lines xs)) (lines ys) (entries_added xs ys)
  are_new fits = record { before = xs; is = ap lines added_is; size = refl; in_range = All-drop InRange (length xs) ys fits }

  counted : length xs + length (entries_added xs ys) ≡ length ys
  counted = sym (ap length added_is ∙ length-append xs (entries_added xs ys))

alone : (es : List Entry) → length es ≡ 1 → (e : Entry) × (es ≡ e ∷ [])
alone [] one = absurd (omega (arith, one))
alone (e ∷ []) one = (e, refl)
alone (e ∷ f ∷ es) one = absurd (omega (arith, one))

-- the lines that a refused page leaves, after those before
abbrev pub BrokenAfter : Fault → ℕ → List ℕ → List ℕ → ℕ → ℕ → PlacesText → Type 0
BrokenAfter f size all text place step r = f ≢ Fault.Memory → (es : List Entry) → AreNew size all es → r.text.items ≡ text ++ lines_on place step es

module _ (budget : ℕ) (p : List ℕ) where
  -- what is known once this many bytes were read
  abbrev pub known : ℕ → List Entry
  known j = (begun budget (take j p)).entries

  pub one_more : (i : ℕ) → places_before budget p (i + 1) ≡ places_before budget p i ++ lines_at i (came_with budget p i)
  unfolding places_before
  one_more i = let e : i + 1 ≡ suc i = omega arith in ap (places_before budget p) e

  pub none_before : places_before budget p 0 ≡ []
  unfolding places_before
  none_before = refl

  following : (i k : ℕ) → (begun budget (take i p ++ take k (drop i p))).entries ≡ known (i + k)
  following i k = ap (λ bytes. (begun budget bytes).entries) (sym (take-add i k p))

  pub more_known : (i k : ℕ) → (more : List Entry) × (known (i + k) ≡ known i ++ more)
  more_known i k =
      let (more, is) = more_bytes_keep_entries budget (take i p) (take k (drop i p)) in
      (more, sym (following i k) ∙ is)

  -- bytes that give no entry
  stay : (i n : ℕ) → ((k : ℕ) → k ≤ n → known (i + k) ≡ known i) → places_before budget p (i + n) ≡ places_before budget p i
  stay i zero same = let e : i + 0 ≡ i = omega arith in ap (places_before budget p) e
  stay i (suc n) same =
      let e : i + suc n ≡ (i + n) + 1 = omega arith in
      let still : known ((i + n) + 1) ≡ known (i + n) = ap known (sym e) ∙ same (suc n) (omega arith) ∙ sym (same n (omega arith)) in
      let none : came_with budget p (i + n) ≡ [] = ap (drop (length (known (i + n)))) still ∙ drop_all _ (known (i + n)) (omega arith) in
      ap (places_before budget p) e ∙ one_more (i + n) ∙ ap (λ es. places_before budget p (i + n) ++ lines_at (i + n) es) none
      ∙ append-nil (places_before budget p (i + n)) ∙ stay i n (λ k few. same k (omega (arith, few)))

  -- bytes that give one entry each
  eachs : (i n : ℕ) → ((k : ℕ) → k ≤ n → length (known (i + k)) ≡ length (known i) + k) → (k : ℕ) → k ≤ n →
      places_before budget p (i + k) ≡ places_before budget p i ++ lines_on i 1 (entries_added (known i) (known (i + k)))
  eachs i n sized zero few =
      let e : i + 0 ≡ i = omega arith in
      let none : entries_added (known i) (known (i + 0)) ≡ [] = ap (λ j. drop (length (known i)) (known j)) e ∙ drop_all _ (known i) (omega arith) in
      ap (places_before budget p) e ∙ sym (append-nil (places_before budget p i)) ∙ ap (λ es. places_before budget p i ++ lines_on i 1 es) (sym none)
  eachs i n sized (suc k) few =
      let e : i + suc k ≡ (i + k) + 1 = omega arith in
      let before = sized k (omega (arith, few)) in
      let (more, grown) = more_known (i + k) 1 in
      let (x, single) = alone more (omega (arith, ap length grown, length-append (known (i + k)) more, before, sized (suc k) few, ap (λ j. length (known j)) e)) in
      let is : known ((i + k) + 1) ≡ known (i + k) ++ x ∷ [] = grown ∙ ap (known (i + k) ++◌) single in
      let ys = entries_added (known i) (known (i + k)) in
      let count : length ys ≡ k = omega (arith, length-drop (length (known i)) (known (i + k)), before) in
      let came : came_with budget p (i + k) ≡ x ∷ [] = ap (drop (length (known (i + k)))) is ∙ drop_at (known (i + k)) (x ∷ []) (length (known (i + k))) refl in
      let all : entries_added (known i) (known (i + suc k)) ≡ ys ++ x ∷ [] =
      ap (λ j. drop (length (known i)) (known j)) e ∙ ap (drop (length (known i))) is ∙ drop-append-le (length (known i)) (known (i + k)) (x ∷ []) (omega (arith, before)) in
      let one : lines_on i 1 ys ++ line_at (i + k) x ≡ lines_on i 1 (ys ++ x ∷ []) = ap (λ n. lines_on i 1 ys ++ line_at (i + n) x) (sym count) ∙ sym (one_on i ys x) in
      ap (places_before budget p) e
      ∙ one_more (i + k)
      ∙ ap (λ es. places_before budget p (i + k) ++ lines_at (i + k) es) came
      ∙ ap (places_before budget p (i + k) ++◌) (append-nil (line_at (i + k) x))
      ∙ ap (◌++ line_at (i + k) x) (eachs i n sized k (omega (arith, few)))
      ∙ append_assoc (places_before budget p i) (lines_on i 1 ys) (line_at (i + k) x)
      ∙ ap (places_before budget p i ++◌) (one ∙ ap (lines_on i 1) (sym all))

  -- the bytes that a reader has looked at
  pub written_more : (i : ℕ) (found : Ahead) → 0 < bytes_ahead found → AddsAhead budget (take i p) (drop i p) found →
      places_before budget p i ++ lines_on i (step_of found) (entries_added (known i) (known (i + bytes_ahead found))) ≡ places_before budget p (i + bytes_ahead found)
  written_more i (Ahead.First zero) some adds = absurd (omega (arith, some))
  written_more i (Ahead.First (suc k)) some adds =
      let same : (j : ℕ) → 1 ≤ j → j ≤ suc k → known (i + j) ≡ known (i + 1) = λ j least most. sym (following i j) ∙ adds j least most ∙ following i 1 in
      let e : i + suc k ≡ (i + 1) + k = omega arith in
      ap (places_before budget p i ++◌) (all_alike i (entries_added (known i) (known (i + suc k))) ∙ ap (λ es. lines_at i (entries_added (known i) es)) (same (suc k) (omega arith) (omega arith)))
      ∙ sym (ap (places_before budget p) e ∙ stay (i + 1) k (λ j few. let e : (i + 1) + j ≡ i + suc j = omega arith in ap known e ∙ same (suc j) (omega arith) (omega (arith, few))) ∙ one_more i)
  written_more i (Ahead.Each n) some adds = let sized : (j : ℕ) → j ≤ n → length (known (i + j)) ≡ length (known i) + j = λ j few. ap length (sym (following i j)) ∙ adds j few in
      sym (eachs i n sized n (omega arith))

  pub written_last : (i : ℕ) → i ≡ length p → places_before budget p i ++ lines_on i 0 (entries_added (begun budget p).entries (means budget p).entries) ≡ places budget p
  written_last i end =
      ap (places_before budget p i ++◌) (all_alike i (entries_added (begun budget p).entries (means budget p).entries))
      ∙ ap (λ n. places_before budget p n ++ lines_at n (entries_added (begun budget p).entries (means budget p).entries)) end

  pub stops_so : (found : Result PlacesText AllocError) (q : Refusal) (len place step : ℕ) (all text : List ℕ) (es : List Entry) → IfOk found (λ r. r.ended ≡ Err q) →
      IfOk found (λ r. q.fault ≡ Fault.Memory → r.text.items ≡ []) → IfOk found (BrokenAfter q.fault len all text place step) → (q.fault ≢ Fault.Memory → AreNew len all es) →
      (q.fault ≢ Fault.Memory → ((means budget p).refusal ≡ Some q) × (text ++ lines_on place step es ≡ places budget p)) → (q.fault ≡ Fault.Memory → BreaksWithin budget p q.place) →
      IfOk found (λ r. IsPlaced budget p r.text.items r.ended)
  stops_so (Ok r) q len place step all text es end empty own fresh refused breaks =
      subst (IsPlaced budget p r.text.items) (sym end) (record { refused = λ apart. let h = refused apart in (h.0, own apart es (fresh apart) ∙ h.1); memory = λ is. (breaks is, empty is) })
  stops_so (Err e) q len place step all text es end empty own fresh refused breaks = tt

  -- Bytes after a refusal add no entry.
  module _ (i : ℕ) (r : Refusal) (refused : (begun budget (take i p)).refusal ≡ Some r) where
    settled : (n : ℕ) → i ≤ n → begun budget (take n p) ≡ begun budget (take i p)
    settled n more =
        let parts = sym (take-append-drop i (take n p)) ∙ ap (◌++ drop i (take n p)) (take-take i n p more) in
        ap (begun budget) parts ∙ more_bytes_keep_refusal budget (take i p) (drop i (take n p)) r refused

    pub all_places : i ≤ length p → places budget p ≡ places_before budget p i
    all_places within =
        let whole : take (length p) p ≡ p = take_all (length p) p (omega arith) in
        let all : begun budget p ≡ begun budget (take i p) = ap (begun budget) (sym whole) ∙ settled (length p) within in
        let some : (begun budget p).refusal ≡ Some r = ap (λ o. o.refusal) all ∙ refused in
        let same : means budget p ≡ begun budget p = ap (ended_by (begun budget p) (length p)) some in
        let none : entries_added (begun budget p).entries (means budget p).entries ≡ [] =
        ap (λ o. drop (length (begun budget p).entries) o.entries) same ∙ drop_all _ (begun budget p).entries (omega arith) in
        let e : length p ≡ i + (length p - i) = omega (arith, within) in
        ap (λ es. places_before budget p (length p) ++ lines_at (length p) es) none ∙ append-nil (places_before budget p (length p))
        ∙ ap (places_before budget p) e ∙ stay i (length p - i) (λ k few. ap (λ o. o.entries) (settled (i + k) (omega arith)))

pub broke_apart : {f : Fault} → f ≡ Fault.Memory → cause_of f ≡ stream → ⊥
broke_apart is own = let other = ap cause_of (sym is) ∙ own in cc

-- A reader broke at a byte of the page: one of a piece after this place.
module _ {S : Type 0} {g : Ghosts S} {s : S} {old new : Reader S g} {budget : ℕ} (page : List ℕ) {piece : List ℕ} (i m : ℕ) {q : Refusal} (cut : piece ≡ take m (drop i page))
    (was : budget_of old ≡ budget) (before : HasRead old s (take i page)) {n : ℕ} (stops : StopsAt old new piece q n) where
  pub breaks_at : q.fault ≡ Fault.Memory → BreaksWithin budget page q.place
  breaks_at is =
      let more = drop m (drop i page) in
      let whole : take i page ++ (piece ++ more) ≡ page =
      ap (λ bytes. take i page ++ (bytes ++ more)) cut ∙ ap (take i page ++◌) (take-append-drop m (drop i page)) ∙ take-append-drop i page in
      let there = rw was at (stops.there s (take i page) before) in
      let front : take n (piece ++ more) ≡ take n piece = take-append-le n piece more (omega (arith, stops.within)) in
      let next : get_or (piece ++ more) n 0 ≡ get_or piece n 0 = get_or_append_left piece more 0 n stops.within in
      let longer : StopsBy g s budget (take i page ++ take n (piece ++ more)) (get_or (piece ++ more) n 0) (sink_of new) (left_of new) q (cause_of q.fault) = rw (front, next) there in
      let among = fed_breaks_among g s budget (take i page) (piece ++ more) n (sink_of new) (left_of new) q (omega (arith, stops.within, length-append piece more)) (broke_apart is) longer in
      rw whole at among.place

-- A reader broke at the end of the page.
pub breaks_last : {S : Type 0} {g : Ghosts S} {s t : S} {budget : ℕ} {p : List ℕ} {q : Refusal} → BreaksInRun g s budget p t q → BreaksWithin budget p q.place
breaks_last h = inr (h.place, h.part.unrefused)

-- what is after a place, and some of it
pub rest_is : (page : List ℕ) (i : ℕ) → take (length page - i) (drop i page) ≡ drop i page
rest_is page i = take_all (length page - i) (drop i page) (omega (arith, length-drop i page))

-- entries with no lines
pub no_entries : (es : List Entry) → lines es ≡ [] → es ≡ []
no_entries [] none = refl
no_entries (e ∷ es) none = absurd (omega (arith, ap length none, length-append (line e ++ 10 ∷ []) (lines es), length-append (line e) (10 ∷ [])))

-- A reader has looked ahead from a place of the page, and was fed what it found.
pub record IsFed {g : Ghosts LineSinkState} (old new : Reader LineSinkState g) (budget : ℕ) (page rest : List ℕ) (i : ℕ) (found : Ahead) (n step : ℕ) : Type 0 where
  pub within : i < length page
  pub rest_is : rest ≡ drop i page
  pub count : n ≡ bytes_ahead found
  pub pace : step ≡ step_of found
  pub some : 0 < length rest → 0 < bytes_ahead found
  pub adds : refusal_of old ≡ None → (s : LineSinkState) (p : List ℕ) → HasRead old s p → AddsAhead (budget_of old) p rest found
  pub live : refusal_of old ≡ None
  pub was : budget_of old ≡ budget
  pub before : HasRead old no_lines (take i page)
  pub has_read : (s : LineSinkState) (p : List ℕ) → HasRead old s p → HasRead new s (p ++ take n rest)
  pub still : budget_of new ≡ budget_of old

module _ {g : Ghosts LineSinkState} {old new : Reader LineSinkState g} {budget : ℕ} {page rest : List ℕ} {i : ℕ} {found : Ahead} {n step : ℕ}
    (f : IsFed old new budget page rest i found n step) where
  pub next_has_read : HasRead new no_lines (take (i + n) page)
  next_has_read = rw (f.rest_is, ← (take-add i n page)) at (f.has_read no_lines (take i page) f.before)

  pub next_same : budget_of new ≡ budget
  next_same = f.still ∙ f.was

  abbrev pub came : List Entry
  came = entries_added (known budget page i) (known budget page (i + n))

  -- its lines are new
  pub next_new : (size : ℕ) (all : List ℕ) → size ≡ length (lines (known budget page i)) → all ≡ lines (known budget page (i + n)) → AreNew size all came
  next_new size all was is = let (more, grown) = more_known budget page i n in rw (was, is) (are_new (known budget page i) (known budget page (i + n)) more grown (read_values_are_in_range budget (take (i + n) page)).0)

  pub next_count : (count : ℕ) → count ≡ length (known budget page i) → count + length came ≡ length (known budget page (i + n))
  next_count count is = let (more, grown) = more_known budget page i n in rw is (counted (known budget page i) (known budget page (i + n)) more grown)

  -- and are written after their places
  pub next_written : (text : List ℕ) → text ≡ places_before budget page i → text ++ lines_on i step came ≡ places_before budget page (i + n)
  next_written text is =
      let adds = rw (f.was, f.rest_is) at (f.adds f.live no_lines (take i page) f.before) in
      let some = f.some (omega (arith, f.within, ap length f.rest_is, length-drop i page)) in
      rw (is, f.pace, f.count) (written_more budget page i found some adds)

-- what comes at the end of a page
module _ (budget : ℕ) (p : List ℕ) (i : ℕ) (end : i ≡ length p) where
  abbrev pub came_last : List Entry
  came_last = entries_added (begun budget p).entries (means budget p).entries

  pub whole_page : take i p ≡ p
  whole_page = take_all i p (omega (arith, end))

  all_known_last : known budget p i ≡ (begun budget p).entries
  all_known_last = ap (λ bytes. (begun budget bytes).entries) whole_page

  pub last_new : (size : ℕ) (all : List ℕ) → size ≡ length (lines (known budget p i)) → all ≡ lines (means budget p).entries → AreNew size all came_last
  last_new size all was is =
      let (more, grown) = begun_comes_first budget p in
      rw (was ∙ ap (λ es. length (lines es)) all_known_last, is) (are_new (begun budget p).entries (means budget p).entries more grown (read_values_are_in_range budget p).1)

  pub last_count : (count : ℕ) → count ≡ length (known budget p i) → count + length came_last ≡ length (means budget p).entries
  last_count count is =
      let (more, grown) = begun_comes_first budget p in
      rw (is ∙ ap length all_known_last) (counted (begun budget p).entries (means budget p).entries more grown)

-- The places of the entries of a page.

-- one place for each entry
abbrev repeated : ℕ → List Entry → List ℕ
repeated n es = replicate (length es) n

one_place : (n : ℕ) (es : List Entry) → lines_at n es ≡ lines_placed (repeated n es) es
unfolding lines_placed
one_place n [] = refl
one_place n (e ∷ es) = ap (line_at n e ++◌) (one_place n es)

placed_join : (ns ms : List ℕ) (es fs : List Entry) → length ns ≡ length es → lines_placed (ns ++ ms) (es ++ fs) ≡ lines_placed ns es ++ lines_placed ms fs
unfolding lines_placed
placed_join [] ms [] fs same = refl
placed_join (n ∷ ns) ms (e ∷ es) fs same =
    ap (line_at n e ++◌) (placed_join ns ms es fs (omega (arith, same))) ∙ sym (append_assoc (line_at n e) (lines_placed ns es) (lines_placed ms fs))
placed_join ns ms es fs same = absurd (omega (arith, same))

-- numbers that never fall, and then the greatest again
rises_more : (n : ℕ) (es : List Entry) (ns : List ℕ) → NeverFalls ns → All (λ a. a ≤ n) ns → NeverFalls (ns ++ repeated n es)
rises_more n [] [] h below = tt
rises_more n (e ∷ es) [] h below = (All-replicate (λ m. n ≤ m) (length es) n (omega arith), rises_more n es [] tt (All-nil (λ a. a ≤ n)))
rises_more n es (m ∷ ns) h below =
    let least = All-head (λ a. a ≤ n) m ns below in
    (All-append (λ k. m ≤ k) ns (repeated n es) h.0 (All-replicate (λ k. m ≤ k) (length es) n least), rises_more n es ns h.1 (All-tail (λ a. a ≤ n) m ns below))

-- no entry is added by no bytes

no_code : (sets : CodeSets) → codes.front sets [] ≡ codes.unfinished
unfolding codes.front
no_code sets = refl

begun_nothing : (budget : ℕ) → (begun budget []).entries ≡ []
unfolding stream_front placed_from
begun_nothing budget =
    let m : Machine = start_machine budget in
    let none : stream_front m [] ≡ course.pause nothing = rw (no_code m.sets) refl in
    ap (λ o. o.entries) (front_after_front m [] ∙ ap (course.outcome_by_front outcome_from m []) none)

take_nothing : (p : List ℕ) → take 0 p ≡ []
take_nothing [] = refl
take_nothing (b ∷ p) = refl

module _ (budget : ℕ) (p : List ℕ) where
  abbrev entries : ℕ → List Entry
  entries n = known budget p n

  -- fewer bytes give no more entries
  fewer : (m n : ℕ) → m ≤ n → length (entries m) ≤ length (entries n)
  fewer m n h =
      let (more, longer) = more_known budget p m (n - m) in
      let e : m + (n - m) ≡ n = omega (arith, h) in
      omega (arith, ap length longer, length-append (entries m) more, ap (λ k. length (entries k)) e)

  -- Places of entries whose lines are these bytes, all below n, exact for fewer than n bytes.
  record Placing (n : ℕ) (es : List Entry) (bytes : List ℕ) : Type 0 where
    at : List ℕ
    each : length at ≡ length es
    is : bytes ≡ lines_placed at es
    rise : NeverFalls at
    below : All (λ a. a < n) at
    exact : (m : ℕ) → m < n → PartsAt budget p at m

  exact_there : (n : ℕ) (bytes : List ℕ) (h : Placing n (entries n) bytes) (m : ℕ) → m ≤ n → (m < n) ⊎ (n ≤ m) → PartsAt budget p h.at m
  exact_there n bytes h m k (inl less) = h.exact m less
  exact_there n bytes h m k (inr least) =
      let same : n ≡ m = omega (arith, k, least) in
      let count = length (entries n) in
      subst (PartsAt budget p h.at) same (record {
        before = All-take (λ a. a < n) count h.at h.below;
        after = rw (drop_all count h.at (omega (arith, h.each))) (All-nil (λ a. n ≤ a));
      })

  -- more entries, at one place
  placing_more : (n : ℕ) (fs gs : List Entry) (bytes : List ℕ) → Placing n (entries n) bytes → gs ≡ entries n ++ fs → Placing (suc n) gs (bytes ++ lines_at n fs)
  placing_more n fs gs bytes h same =
      let more = repeated n fs in
      record {
        at = h.at ++ more;
        each = omega (arith, ap length same, length-append (entries n) fs, h.each, length-append h.at more, length-replicate (length fs) n);
        is =
            ap (◌++ lines_at n fs) h.is
            ∙ ap (lines_placed h.at (entries n) ++◌) (one_place n fs)
            ∙ sym (placed_join h.at more (entries n) fs h.each)
            ∙ ap (lines_placed (h.at ++ more)) (sym same);
        rise = rises_more n fs h.at h.rise (All-weaker (λ a. a < n) (λ a. a ≤ n) (λ a k. omega (arith, k)) h.at h.below);
        below = All-append (λ a. a < suc n) h.at more (All-weaker (λ a. a < n) (λ a. a < suc n) (λ a k. omega (arith, k)) h.at h.below) (All-replicate (λ a. a < suc n) (length fs) n (omega arith));
        exact = λ m k.
            let count = length (entries m) in
            let fits : m ≤ n = omega (arith, k) in
            let few : count ≤ length h.at = omega (arith, fewer m n fits, h.each) in
            let there = exact_there n bytes h m fits (cases_lt m n) in
            record {
              before = rw (take-append-le count h.at more few) there.before;
              after = rw (drop-append-le count h.at more few) (All-append (λ a. m ≤ a) (drop count h.at) more there.after (All-replicate (λ a. m ≤ a) (length fs) n fits));
            };
      }

  fronts : (n : ℕ) → Placing n (entries n) (places_before budget p n)
  unfolding places_before lines_placed
  fronts zero =
      let none : entries 0 ≡ [] = ap (λ bytes. (begun budget bytes).entries) (take_nothing p) ∙ begun_nothing budget in
      record { at = []; each = ap length (sym none); is = refl; rise = tt; below = All-nil (λ a. a < 0); exact = λ m k. absurd (omega (arith, k)) }
  fronts (suc n) =
      let e : suc n ≡ n + 1 = omega arith in
      let (more, longer) = more_known budget p n 1 in
      placing_more n (came_with budget p n) (entries (suc n)) (places_before budget p n) (fronts n) (ap entries e ∙ added_is (entries n) (entries (n + 1)) more longer)

pub places_are_exact : PlacesAreExact
places_are_exact budget p =
    let n = length p in
    let last = entries_added (begun budget p).entries (means budget p).entries in
    let (more, longer) = begun_comes_first budget p in
    let h = placing_more budget p n last (means budget p).entries (places_before budget p n) (fronts budget p n)
    (added_is (begun budget p).entries (means budget p).entries more longer ∙ ap (λ bytes. (begun budget bytes).entries ++ last) (sym (take_all n p (omega arith)))) in (
      h.at,
      record {
        each = h.each;
        lines_are = h.is;
        rise = h.rise;
        inside = All-weaker (λ a. a < suc n) (λ a. a ≤ n) (λ a k. omega (arith, k)) h.at h.below;
        exact = λ m k. h.exact m (omega (arith, k));
      },
    )
