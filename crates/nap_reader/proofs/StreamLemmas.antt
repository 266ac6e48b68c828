use Rattle.nap_reader.proofs.Common.{All, All-map, Bool, Code, CodeSets, DrawFault, Entry, IsMade, IsWord, Kind, List, LongRun, Machine, None, Ok, Opcode, Option, Outcome, Placed, Refusal, Result, RuleResult, Some, StreamFront, Unfinished, Work, [], act, after_body, all_at, ap, append-nil, append_assoc, arith, begun, between, body_front_by, body_of, bound_front, bytes_of, carried_words, code_front, code_length, code_rule, code_stays, cond, continue, continue_by, drawn_front, drop, drop-append-le, drop_of_length-le, ends_of, eqb-false, eqb-true, false, front_by, half_read, in_body, is_operand, kind_of, length, length-append, length-drop, length-map, length-prefix_len, lt-ltb, ltb, ltb-false, ltb-true, map-append, nat_tests, open_run, opened_front, outcome, outcome_by_front, outcome_from, outcome_within, pause, paused, place_at, placed_from, prefix_len-append, prefix_len-le-length, prepend, refl, refusal, refuse, refused_index, refused_stays, rule, run_front, run_length, run_limit, shown_front, steps_left, stream_front, subst, suc, sym, take, take-append-le, true, zero, ℕ, ⊤, ◌++◌, ◌+◌, ◌-◌, ◌<◌, ◌∙◌, ◌∷◌, ◌≡◌, ◌≤◌}
use Rattle.nap_codes.specs.Front as codes
use Rattle.nap_reader.specs.Bodies as bodies
use Rattle.nap_reader.specs.Course as course
use Rattle.nap_reader.proofs.OperandLemmas.{prefix_all}
use Rattle.nap_reader.proofs.SpelledLemmas.{KindMade, Settled, body_front-Settled, definition_length, front_kind_made}

pub prepend-append : {M E F U B : Type 0} (ds es : List E) (o : course.OutcomeOf M E F U B) → prepend (ds ++ es) o ≡ prepend ds (prepend es o)
prepend-append ds es o = rw append_assoc refl

pub continue-prepend : {M E F U B : Type 0} (next : M → List B → course.OutcomeOf M E F U B) (es : List E) (o : course.OutcomeOf M E F U B) (ys : List B) →
    continue next (prepend es o) ys ≡ prepend es (continue next o ys)
continue-prepend {F = F} next es o ys = search (arith, prepend-append)

-- The effect of each front: the entries that it puts, and what is left after it.

-- an open run is of words
abbrev pub IsOfWords : Unfinished → Type 0
IsOfWords (open_run op place run) = All IsWord run
IsOfWords _ = ⊤

-- the entries are put, and this is the work then: nothing, the result of an opcode's rule on words, or the result of a
-- code's rule
pub data Puts (work : Work) : List Entry → Work → Type 0 where
  puts_nothing : Puts work [] work
  by_rule : (op : Opcode) (run : List ℕ) (d : RuleResult) → All IsWord run → rule work op run ≡ Ok d → Puts work d.entries d.work
  by_code : (c : Code) (d : RuleResult) → IsMade c → code_rule work c ≡ Ok d → Puts work d.entries d.work

-- The second front is the first with these bytes after it. What is unread after it and what is left then, taken
-- together, are below k, and no more is left to charge.
pub data Fronts (q : List Placed) (work : Work) (left k : ℕ) : StreamFront → StreamFront → Type 0 where
  pauses : {u : Unfinished} {f : StreamFront} → IsOfWords u → Fronts q work left k (course.pause u) f
  refuses : {r : Refusal} → Fronts q work left k (course.refuse r) (course.refuse r)
  acts : {es : List Entry} {m : Machine} {xs ys : List Placed} → ys ≡ xs ++ q → length xs + steps_left m < k → m.left ≤ left → Puts work es m.work → Fronts q work left k (course.act es m xs) (course.act es m ys)

Fronts-acting : {q : List Placed} {work : Work} {left k : ℕ} {es : List Entry} {m : Machine} {xs : List Placed} {f : StreamFront} → Fronts q work left k (course.act es m xs) f → f ≡ course.act es m (xs ++ q)
Fronts-acting {es = es} {m = m} (acts same less few puts) = ap (course.act es m) same

Fronts-refusing : {q : List Placed} {work : Work} {left k : ℕ} {r : Refusal} {f : StreamFront} → Fronts q work left k (course.refuse r) f → f ≡ course.refuse r
Fronts-refusing refuses = refl

Fronts-cond : {q : List Placed} {work : Work} {left k : ℕ} (b : Bool) {x y x' y' : StreamFront} → (b ≡ true → Fronts q work left k x x') → (b ≡ false → Fronts q work left k y y') → Fronts q work left k (cond b x y) (cond b x' y')
Fronts-cond b f g = grind arith

Fronts-cond_left : {q : List Placed} {work : Work} {left k : ℕ} (b : Bool) {x y f : StreamFront} → (b ≡ true → Fronts q work left k x f) → (b ≡ false → Fronts q work left k y f) → Fronts q work left k (cond b x y) f
Fronts-cond_left b f g = grind arith

-- the operand bytes of a prefix carry words
run_words : (xs : List Placed) → All IsWord (carried_words (take (run_length xs) xs))
run_words xs = All-map IsWord (λ (x : Placed). x.byte - 64) (take (run_length xs) xs) (prefix_all (λ x. IsWord (x.byte - 64)) is_operand xs (run_length xs) word (omega arith))
  where
    word : (x : Placed) → is_operand x ≡ true → IsWord (x.byte - 64)
    word x is = grind (arith, nat_tests)

pub length-all_at : (place : ℕ) (bytes : List ℕ) → length (all_at place bytes) ≡ length bytes
length-all_at place bytes = length-map bytes _

pub place_at-append : (xs q : List Placed) (i : ℕ) → i < length xs → place_at (xs ++ q) i ≡ place_at xs i
place_at-append [] q i h = absurd (omega arith)
place_at-append (x ∷ xs) q zero h = refl
place_at-append (x ∷ xs) q (suc i) h = place_at-append xs q i (omega arith)

pub bytes_of-append : (xs ys : List Placed) → bytes_of (xs ++ ys) ≡ bytes_of xs ++ bytes_of ys
bytes_of-append xs ys = map-append (λ (x : Placed). x.byte) xs ys

pub bytes_of-placed : (n : ℕ) (bytes : List ℕ) → bytes_of (placed_from n bytes) ≡ bytes
unfolding placed_from
bytes_of-placed n [] = refl
bytes_of-placed n (b ∷ bytes) = ap (λ (bs : List ℕ). b ∷ bs) (bytes_of-placed (suc n) bytes)

pub bytes_of-all_at : (place : ℕ) (bytes : List ℕ) → bytes_of (all_at place bytes) ≡ bytes
bytes_of-all_at place [] = refl
bytes_of-all_at place (b ∷ bytes) = ap (λ (bs : List ℕ). b ∷ bs) (bytes_of-all_at place bytes)

drawn_fronts : (m : Machine) (place : ℕ) (rest q : List Placed) (by : Result RuleResult DrawFault) (k : ℕ) → length rest + steps_left m < k → ((d : RuleResult) → by ≡ Ok d → Puts m.work d.entries d.work) →
    Fronts q m.work m.left k (drawn_front m place rest by) (drawn_front m place (rest ++ q) by)
drawn_fronts m place rest q by k h puts = grind (arith, acts, refuses)

-- at least as much is charged for the bytes as there are
shown_fronts : (m : Machine) (place : ℕ) (bytes : List ℕ) (rest q : List Placed) (k : ℕ) → length rest + steps_left m < k → Fronts q m.work m.left k (shown_front m place bytes rest) (shown_front m place bytes (rest ++ q))
shown_fronts m place bytes rest q k h =
    Fronts-cond (ltb m.left (length bytes)) (λ _. refuses) (λ e.
    let within : length bytes ≤ m.left = ltb-false m.left (length bytes) e in
    let all : length (all_at place bytes ++ rest) ≡ length bytes + length rest = length-append (all_at place bytes) rest ∙ ap (λ (n : ℕ). n + length rest) (length-all_at place bytes) in
    acts (sym (append_assoc (all_at place bytes) rest q)) (omega arith) (omega arith) puts_nothing)

-- a run that has ended
ended_fronts : (m : Machine) (op : Opcode) (place : ℕ) (run rest q : List Placed) (k : ℕ) → length rest + steps_left m < k → All IsWord (carried_words run) → 0 < length rest →
    Fronts q m.work m.left k (run_front m op place run rest) (run_front m op place run (rest ++ q))
ended_fronts m op place run [] q k less words h = absurd (omega arith)
ended_fronts m op place run (x ∷ xs) q k less words h =
    Fronts-cond (ltb run_limit (length run)) (λ _. refuses) (λ _. drawn_fronts m place (x ∷ xs) q (rule m.work op (carried_words run)) k less (λ d is. by_rule op (carried_words run) d words is))

-- a run that is still open
open_fronts : (m : Machine) (op : Opcode) (place : ℕ) (run more rest q : List Placed) {k : ℕ} → All IsWord (carried_words run) → length run ≤ length more →
    Fronts q m.work m.left k (run_front m op place run []) (run_front m op place more rest)
open_fronts m op place run more rest q {k} words h =
    Fronts-cond_left (ltb run_limit (length run)) (λ e.
    let long : ltb run_limit (length more) ≡ true = lt-ltb run_limit (length more) (let least = ltb-true run_limit (length run) e in omega arith) in
    let is : run_front m op place more rest ≡ course.refuse (refusal LongRun place) = rw long refl in
    subst (Fronts q m.work m.left k (course.refuse (refusal LongRun place))) (sym is) refuses) (λ _. pauses words)

-- the run of an opcode, ended or still open
opcode_fronts : (m : Machine) (op : Opcode) (place : ℕ) (xs q : List Placed) (k : ℕ) → length xs + steps_left m < k → Fronts q m.work m.left k (opened_front m op place xs) (opened_front m op place (xs ++ q))
opcode_fronts m op place xs q k h =
    search (arith, eqb-true, prefix_len-append, length-prefix_len, drop_of_length-le, open_fronts, run_words, eqb-false, prefix_len-le-length, take-append-le, drop-append-le, ended_fronts, length-drop)

-- the smallest number of bytes of a code of this kind
abbrev least : Kind → ℕ
least (Kind.binds name show) = 2
least _ = 1

code_fronts : (m : Machine) (kind : Kind) (place : ℕ) (rest q : List Placed) (k : ℕ) → m.mode ≡ between → length rest + (least kind + m.left) ≤ k → KindMade kind →
    Fronts q m.work m.left k (code_front m kind place rest) (code_front m kind place (rest ++ q))
code_fronts m kind place rest q k mode h made = at kind h made
  where
    still : ends_of m.mode ≡ 0
    still = ap ends_of mode

    at : (kind : Kind) → length rest + (least kind + m.left) ≤ k → KindMade kind → Fronts q m.work m.left k (code_front m kind place rest) (code_front m kind place (rest ++ q))
    at (Kind.opens op) h made = opcode_fronts m op place rest q k (omega (arith, still))
    at Kind.strays h made = refuses
    at Kind.adds_nothing h made = acts refl (omega (arith, still)) (omega arith) puts_nothing
    at (Kind.acts c) h made = drawn_fronts m place rest q (code_rule m.work c) k (omega (arith, still)) (λ d is. by_code c d made is)
    at (Kind.calls name) h made = shown_fronts m place (body_of m.names name) rest q k (omega (arith, still))
    at (Kind.binds name show) h made =
        drawn_fronts (record m { mode = in_body name show }) place rest q (code_rule m.work (Code.DefMacro name show)) k (omega (arith, still))
        (λ d is. by_code (Code.DefMacro name show) d tt is)

least_of : (sets : CodeSets) (bytes : List ℕ) (c : Code) (n : ℕ) (after : CodeSets) → codes.front sets bytes ≡ codes.complete c n after → least (kind_of c) ≤ n
least_of sets bytes c n after e = grind (arith, definition_length, code_length)

by_fronts : (m : Machine) (xs q : List Placed) (f : codes.Front) → codes.front m.sets (bytes_of xs) ≡ f → m.mode ≡ between →
    Fronts q m.work m.left (length xs + (m.left + 0)) (front_by m xs f) (front_by m (xs ++ q) (codes.front m.sets (bytes_of (xs ++ q))))
by_fronts m xs q codes.unfinished e mode = pauses (elim (bytes_of xs) as (λ (bs : List ℕ). IsOfWords (half_read bs)) [ [] ↦ tt | _ ↦ tt ])
by_fronts m xs q (codes.refused fault i) e mode =
    let same : length (bytes_of xs) ≡ length xs = length-map xs _ in
    let within : i < length (bytes_of xs) = refused_index m.sets (bytes_of xs) fault i e in
    rw (bytes_of-append xs q, refused_stays m.sets (bytes_of xs) (bytes_of q) fault i e, place_at-append xs q i (omega arith)) refuses
by_fronts m xs q (codes.complete c n sets) e mode =
    let same : length (bytes_of xs) ≡ length xs = length-map xs _ in
    let within = code_length m.sets (bytes_of xs) c n sets e in
    let few = least_of m.sets (bytes_of xs) c n sets e in
    let last : n - 1 < length xs = omega (arith, within.0, within.1) in
    let following : length (drop n xs) + (least (kind_of c) + m.left) ≤ length xs + (m.left + 0) = simp length-drop (omega (arith, within.1, few, same)) in
    rw (bytes_of-append xs q, code_stays m.sets (bytes_of xs) (bytes_of q) c n sets e, place_at-append xs q (n - 1) last, drop-append-le n xs q (omega (arith, within.1)))
    (code_fronts (record m { sets = sets }) (kind_of c) (place_at xs (n - 1)) (drop n xs) q (length xs + (m.left + 0)) mode following (front_kind_made m.sets (bytes_of xs) c n sets e))

taken_bytes : (xs q : List Placed) (n : ℕ) → n ≤ length xs → take n (bytes_of (xs ++ q)) ≡ take n (bytes_of xs)
taken_bytes xs q n h = search (arith, bytes_of-append, take-append-le, length-map)

bound_fronts : (m : Machine) (name : ℕ) (show : Bool) (n : ℕ) (xs q : List Placed) → n + 2 ≤ length xs → Fronts q m.work m.left (length xs + (m.left + 1)) (bound_front m name show n xs) (bound_front m name show n (xs ++ q))
bound_fronts m name false n xs q h =
    let following : length (drop n xs) + m.left < length xs + (m.left + 1) = simp length-drop (omega arith) in
    rw (taken_bytes xs q n (omega arith), drop-append-le n xs q (omega arith)) (acts {m = after_body m name (take n (bytes_of xs))} {xs = drop n xs} refl (omega arith) (omega arith) puts_nothing)
bound_fronts m name true n xs q h =
    let following : length (drop (n + 2) xs) + m.left < length xs + (m.left + 1) = simp length-drop (omega arith) in
    rw (
      taken_bytes xs q n (omega arith),
      taken_bytes xs q (n + 2) (omega arith),
      place_at-append xs q (n + 1) (omega arith),
      drop-append-le (n + 2) xs q (omega arith),
    ) (shown_fronts (after_body m name (take n (bytes_of xs))) (place_at xs (n + 1)) (take (n + 2) (bytes_of xs)) (drop (n + 2) xs) q _ (omega arith))

body_fronts : (m : Machine) (name : ℕ) (show : Bool) (xs q : List Placed) {f g : bodies.BodyFront} → Settled (length xs) f g →
    Fronts q m.work m.left (length xs + (m.left + 1)) (body_front_by m name show xs f) (body_front_by m name show (xs ++ q) g)
body_fronts m name show xs q settled = grind (arith, pauses, refuses, bound_fronts, place_at-append)

pub front_fronts : (m : Machine) (xs q : List Placed) → Fronts q m.work m.left (length xs + steps_left m) (stream_front m xs) (stream_front m (xs ++ q))
unfolding stream_front
front_fronts m xs q = grind (arith, by_fronts, bytes_of-append, body_fronts, length-map, body_front-Settled)

-- more fronts than are needed change nothing
outcome_within-spare : (f g : ℕ) (m : Machine) (xs : List Placed) → length xs + steps_left m < f → length xs + steps_left m < g → outcome_within stream_front f m xs ≡ outcome_within stream_front g m xs
unfolding outcome_within
outcome_within-spare zero g m xs hf hg = absurd (omega arith)
outcome_within-spare (suc f) zero m xs hf hg = absurd (omega arith)
outcome_within-spare (suc f) (suc g) m xs hf hg = at (front_fronts m xs []) (λ m' ys h h'. outcome_within-spare f g m' ys h h')
  where
    at : {n n' : StreamFront} → Fronts [] m.work m.left (length xs + steps_left m) n n' →
        ((m' : Machine) (ys : List Placed) → length ys + steps_left m' < f → length ys + steps_left m' < g → outcome_within stream_front f m' ys ≡ outcome_within stream_front g m' ys) →
        outcome_by_front (outcome_within stream_front f) m xs n ≡ outcome_by_front (outcome_within stream_front g) m xs n
    at (pauses words) ih = refl
    at refuses ih = refl
    at (acts {es = es} {m = m'} {xs = ys} same less few puts) ih = ap (prepend es) (ih m' ys (omega arith) (omega arith))

-- the outcome of a list is that of its front, and then that of the rest
pub outcome_from-front : (m : Machine) (xs : List Placed) → outcome_from m xs ≡ outcome_by_front outcome_from m xs (stream_front m xs)
unfolding outcome outcome_within
outcome_from-front m xs = at (front_fronts m xs [])
  where
    at : {n n' : StreamFront} → Fronts [] m.work m.left (length xs + steps_left m) n n' → outcome_by_front (outcome_within stream_front (length xs + steps_left m)) m xs n ≡ outcome_by_front outcome_from m xs n
    at (pauses words) = refl
    at refuses = refl
    at (acts {es = es} {m = m'} {xs = ys} same less few puts) = ap (prepend es) (outcome_within-spare (length xs + steps_left m) (suc (length ys + steps_left m')) m' ys less (omega arith))

-- What holds of the outcome of every list: it holds where the front is a pause or a refusal, whatever comes after it,
-- and with the entries of a front that acts if it holds after that front.
module _ (Holds : Machine → List Placed → Outcome → Type 0)
    (pausing : (m : Machine) (xs : List Placed) (u : Unfinished) → IsOfWords u → Holds m xs (paused m xs (Some u)))
    (refusing : (m : Machine) (xs : List Placed) (r : Refusal) → ((q : List Placed) → stream_front m (xs ++ q) ≡ refuse r) → Holds m xs (course.refused m r))
    (acting : (m m' : Machine) (xs ys : List Placed) (es : List Entry) (o : Outcome) → ((q : List Placed) → stream_front m (xs ++ q) ≡ act es m' (ys ++ q)) → Puts m.work es m'.work → m'.left ≤ m.left → Holds m' ys o →
    Holds m xs (prepend es o)) where
  holds_within : (fuel : ℕ) (m : Machine) (xs : List Placed) → length xs + steps_left m < fuel → Holds m xs (outcome_within stream_front fuel m xs)
  unfolding outcome_within
  holds_within zero m xs h = absurd (omega arith)
  holds_within (suc fuel) m xs h = at (front_fronts m xs []) (front_fronts m xs) (holds_within fuel)
    where
      at : {f f' : StreamFront} → Fronts [] m.work m.left (length xs + steps_left m) f f' → ((q : List Placed) → Fronts q m.work m.left (length xs + steps_left m) f (stream_front m (xs ++ q))) →
          ((m' : Machine) (ys : List Placed) → length ys + steps_left m' < fuel → Holds m' ys (outcome_within stream_front fuel m' ys)) → Holds m xs (outcome_by_front (outcome_within stream_front fuel) m xs f)
      at (pauses {u = u} words) is ih = pausing m xs u words
      at (refuses {r = r}) is ih = refusing m xs r (λ q. Fronts-refusing (is q))
      at (acts {es = es} {m = m'} {xs = ys} same less few puts) is ih = acting m m' xs ys es _ (λ q. Fronts-acting (is q)) puts few (ih m' ys (omega arith))

  pub outcome_holds : (m : Machine) (xs : List Placed) → Holds m xs (outcome_from m xs)
  unfolding outcome
  outcome_holds m xs = holds_within (suc (length xs + steps_left m)) m xs (omega arith)

-- the outcome of a list in two pieces
pub outcome_from-append : (m : Machine) (xs ys : List Placed) → outcome_from m (xs ++ ys) ≡ continue outcome_from (outcome_from m xs) ys
outcome_from-append m xs ys =
    outcome_holds (λ m xs o. outcome_from m (xs ++ ys) ≡ continue outcome_from o ys) (λ m xs u words. refl) (λ m xs r is. outcome_from-front m (xs ++ ys) ∙ ap (outcome_by_front outcome_from m (xs ++ ys)) (is ys))
    (λ m m' xs zs es o is puts few ih.
    outcome_from-front m (xs ++ ys) ∙ ap (outcome_by_front outcome_from m (xs ++ ys)) (is ys) ∙ ap (prepend es) ih ∙ sym (continue-prepend outcome_from es o ys)) m xs

pub placed_from-append : (n : ℕ) (p q : List ℕ) → placed_from n (p ++ q) ≡ placed_from n p ++ placed_from (n + length p) q
unfolding placed_from
placed_from-append n [] q = ap (λ (m : ℕ). placed_from m q) (omega arith)
placed_from-append n (b ∷ p) q =
    ap (λ (xs : List Placed). record { byte = b; place = n } ∷ xs)
    (placed_from-append (suc n) p q ∙ ap (λ (m : ℕ). placed_from (suc n) p ++ placed_from m q) (omega arith))

-- the outcome of a stream once more of it has come
pub begun-append : (budget : ℕ) (p q : List ℕ) → begun budget (p ++ q) ≡ continue outcome_from (begun budget p) (placed_from (length p) q)
begun-append budget p q = search (arith, placed_from-append, outcome_from-append)

-- the outcome of a list leaves no more to charge
pub outcome_from-left : (m : Machine) (xs : List Placed) → (outcome_from m xs).machine.left ≤ m.left
outcome_from-left = outcome_holds (λ m xs o. o.machine.left ≤ m.left) (λ m xs u words. omega arith) (λ m xs r is. omega arith) (λ m m' xs ys es o is puts few ih. omega arith)

-- what is known of an outcome comes first in that with more input
pub continue_first : (r : Option Refusal) (o : Outcome) (ys : List Placed) → (es : List Entry) × ((continue_by outcome_from r o ys).entries ≡ o.entries ++ es)
continue_first (Some r) o ys = ([], sym (append-nil o.entries))
continue_first None o ys = ((outcome_from o.machine (o.rest ++ ys)).entries, refl)
