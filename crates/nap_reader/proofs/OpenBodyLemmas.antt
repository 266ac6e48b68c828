use Rattle.nap_reader.proofs.Common.{All, All-cons, All-head, All-nil, All-tail, AreOfBody, ArePending, ArePendingIn, BodyFront, Bool, Continues, EighthBit, Fault, Ghosts, IsOpenBody, IsRefused, List, Machine, Mode, None, OpenBody, Option, Outcome, Placed, ReadingState, Some, Store, [], act, after_body, ap, append-nil, append_assoc, ap₂, arith, between, body_front, body_front_after, body_front_by, bound_front, bytes_of, drop-append-add, drop_at, ends_body, eqb, eqb-false, eqb-true, false, in_body, length, length-append, length-map, lt-leb, nat_tests, ne_eqb, outcome_from, pending_escape, place_at, prepend, refl, refusal, refuse, shown_front, store_limit, stores, stream_front, subst, sym, take, take-append-add, take-map, take_at, true, ℕ, ◌++◌, ◌+◌, ◌-◌, ◌<◌, ◌∙◌, ◌∷◌, ◌≡◌, ◌≢◌, ◌≤◌}
use Rattle.nap_reader.specs.Bodies as bodies
use Rattle.nap_reader.proofs.ReadingLemmas.{by_front, front_at, holds_nothing, leads_to_refusal, place_at-following}
use Rattle.nap_reader.proofs.StreamLemmas.{bytes_of-append}
use Rattle.nap_reader.proofs.SpelledLemmas.{escape_unfinished}

-- The effect of the next bytes of an open body.

-- a byte that is neither ESC nor has the eighth bit
pub record IsPlain (byte : ℕ) : Type 0 where
  pub low : byte < 128
  pub other : byte ≢ 27

body_front_after-none : (f : BodyFront) → body_front_after 0 f ≡ f
body_front_after-none f = grind arith

body_front_after-twice : (n k : ℕ) (f : BodyFront) → body_front_after n (body_front_after k f) ≡ body_front_after (n + k) f
body_front_after-twice n k f = grind arith

-- a byte of the body, which has space for it
stores_one : (space : ℕ) (f : BodyFront) → space ≢ 0 → stores space f ≡ body_front_after 1 f
stores_one space f some = grind (arith, nat_tests)

plain_front : (space byte : ℕ) (bytes : List ℕ) → IsPlain byte → body_front space (byte ∷ bytes) ≡ stores space (body_front (space - 1) bytes)
unfolding body_front
plain_front space byte bytes plain = rw (lt-leb 128 byte plain.low, ne_eqb byte 27 plain.other) refl

-- ESC, and after it a byte that doesn't end the body
escape_front : (space byte : ℕ) (bytes : List ℕ) → byte < 128 → ends_body byte ≡ false → body_front space (27 ∷ byte ∷ bytes) ≡ stores space (body_front (space - 1) (byte ∷ bytes))
unfolding body_front
escape_front space byte bytes low ends = rw (lt-leb 128 byte low, ends) refl

-- ESC, and after it a byte that ends the body
ended_front : (space byte : ℕ) (bytes : List ℕ) → ends_body byte ≡ true → body_front space (27 ∷ byte ∷ bytes) ≡ bodies.ended 0
unfolding body_front
ended_front space byte bytes ends = search (arith) steps 100000

-- A byte that is refused, and its place: it has the eighth bit, or the body has no space for it or for the ESC before it.

pub eighth_front : (space : ℕ) (x : Placed) (escape : Option ℕ) (more : List Placed) → 128 ≤ x.byte →
    (body_front space (bytes_of (pending_escape escape) ++ x.byte ∷ bytes_of more) ≡ bodies.refused EighthBit (length (pending_escape escape))) × (place_at (pending_escape escape ++ x ∷ more) (length (pending_escape escape)) ≡ x.place)
unfolding body_front
eighth_front space x escape more h = grind arith

pub plain_full : (space byte : ℕ) (bytes : List ℕ) → IsPlain byte → space ≡ 0 → body_front space (byte ∷ bytes) ≡ bodies.refused Store 0
plain_full space byte bytes plain none = plain_front space byte bytes plain ∙ rw none refl

pub escape_full : (space byte : ℕ) (bytes : List ℕ) → byte < 128 → ends_body byte ≡ false → space ≡ 0 → body_front space (27 ∷ byte ∷ bytes) ≡ bodies.refused Store 0
escape_full space byte bytes low ends none = escape_front space byte bytes low ends ∙ rw none refl

pub pair_full : (space byte : ℕ) (bytes : List ℕ) → IsPlain byte → ends_body byte ≡ false → space ≡ 1 → body_front space (27 ∷ byte ∷ bytes) ≡ bodies.refused Store 1
pair_full space byte bytes plain ends one = escape_front space byte bytes plain.low ends ∙ rw (one, plain_front 0 byte bytes plain) refl

-- Bytes that belong to a body, before the next bytes.

none_of_body : (space : ℕ) (next : List ℕ) → AreOfBody space [] next
none_of_body space next = λ more. sym (body_front_after-none (body_front (space - 0) (next ++ more)) ∙ ap (λ (n : ℕ). body_front n (next ++ more)) (let e : space - 0 ≡ space = omega arith in e))

-- further bytes belong to it
then_of_body : (space : ℕ) (body next more added left : List ℕ) → AreOfBody space body next → next ++ more ≡ added ++ left → AreOfBody (space - length body) added left → AreOfBody space (body ++ added) left
then_of_body space body next more added left first joined then = λ last.
    let all : next ++ (more ++ last) ≡ added ++ (left ++ last) = sym (append_assoc next more last) ∙ ap (λ (bs : List ℕ). bs ++ last) joined ∙ append_assoc added left last in
    let less : space - length body - length added ≡ space - (length body + length added) = omega arith in
    rw (append_assoc body added (left ++ last), length-append body added, ← less, ← body_front_after-twice, ← then last, ← all) (first (more ++ last))

plain_of_body : (space : ℕ) (bytes : List ℕ) → All IsPlain bytes → length bytes ≤ space → AreOfBody space bytes []
plain_of_body space [] plain few = none_of_body space []
plain_of_body space (b ∷ bs) plain few =
    then_of_body space (b ∷ []) [] bs bs [] (λ more. plain_front space b more (All-head IsPlain b bs plain) ∙ stores_one space _ (omega (arith, few))) (sym (append-nil bs))
    (plain_of_body (space - 1) bs (All-tail IsPlain b bs plain) (omega (arith, few)))

escape_of_body : (space byte : ℕ) → byte < 128 → ends_body byte ≡ false → space ≢ 0 → AreOfBody space (27 ∷ []) (byte ∷ [])
escape_of_body space byte low ends some = λ more. escape_front space byte more low ends ∙ stores_one space _ some

-- a body begins
pub body_begins : (b : OpenBody) (h : ReadingState) → b.escape ≡ None → h.machine.mode ≡ in_body b.name b.show → h.body ≡ [] → h.open_run ≡ None → h.half ≡ [] → IsOpenBody [] b h
body_begins b h none mode empty still half = search (arith, none_of_body) steps 100000

abbrev pub escape_at : ℕ → Placed
escape_at place = record { byte = 27; place = place }

-- After this ESC, or none, and these bytes, a body with this space has the added ones, and this ESC, or none, is pending.
pub record AreAdded (space : ℕ) (before : Option ℕ) (xs added : List Placed) (escape : Option ℕ) : Type 0 where
  pub joined : pending_escape before ++ xs ≡ added ++ pending_escape escape
  pub are_of_body : AreOfBody space (bytes_of added) (bytes_of (pending_escape escape))

pub plain_added : (space : ℕ) (xs : List Placed) → All IsPlain (bytes_of xs) → length xs ≤ space → AreAdded space None xs xs None
plain_added space xs plain few = record { joined = sym (append-nil xs); are_of_body = plain_of_body space (bytes_of xs) plain (omega (arith, few, length-map xs (λ (x : Placed). x.byte))) }

pub lone_escape : (space : ℕ) (x : Placed) → x.byte ≡ 27 → AreAdded space None (x ∷ []) [] (Some x.place)
lone_escape space x is = record { joined = ap (λ (n : ℕ). record { byte = n; place = x.place } ∷ []) is; are_of_body = none_of_body space (27 ∷ []) }

-- a pending ESC, and after it another one, or a plain byte that doesn't end the body
pub escape_added : (space place : ℕ) (x : Placed) → x.byte ≡ 27 → space ≢ 0 → AreAdded space (Some place) (x ∷ []) (escape_at place ∷ []) (Some x.place)
escape_added space place x is some = search (arith, escape_of_body) steps 100000

pub pair_added : (space place : ℕ) (x : Placed) → IsPlain x.byte → ends_body x.byte ≡ false → 2 ≤ space → AreAdded space (Some place) (x ∷ []) (escape_at place ∷ x ∷ []) None
pair_added space place x plain ends some = record {
  joined = refl;
  are_of_body =
      then_of_body space (27 ∷ []) (x.byte ∷ []) [] (x.byte ∷ []) [] (escape_of_body space x.byte plain.low ends (omega (arith, some))) refl
      (plain_of_body (space - 1) (x.byte ∷ []) (All-cons IsPlain x.byte [] plain (All-nil IsPlain)) (omega (arith, some)));
}

pub either_added : (space place : ℕ) (x : Placed) → x.byte < 128 → ends_body x.byte ≡ false → space ≢ 0 → (x.byte ≢ 27 → 2 ≤ space) → (added : List Placed) × (escape : Option ℕ) × AreAdded space (Some place) (x ∷ []) added escape
either_added space place x low ends some two = at (eqb x.byte 27) refl
  where
    at : (test : Bool) → eqb x.byte 27 ≡ test → (added : List Placed) × (escape : Option ℕ) × AreAdded space (Some place) (x ∷ []) added escape
    at true e = (escape_at place ∷ [], Some x.place, escape_added space place x (eqb-true x.byte 27 e) some)
    at false e = let other = eqb-false x.byte 27 e in (escape_at place ∷ x ∷ [], None, pair_added space place x (record { low = low; other = other }) ends (two other))

-- the reading state with this pending ESC, or none, and these bytes in the body
abbrev pub state_with_body : ReadingState → OpenBody → Option ℕ → List ℕ → ReadingState
state_with_body h b escape body = record h {
  machine = record h.machine { mode = in_body b.name b.show };
  open_body = Some (record { name = b.name; show = b.show; escape = escape });
  body = body;
}

-- the space that is left for the body
abbrev pub space_for : ReadingState → ℕ
space_for h = store_limit - h.machine.stored - length h.body

-- bytes after an open body
module _ {S : Type 0} {g : Ghosts S} {s : S} {o : Outcome} {t : S} {h : ReadingState} {b : OpenBody} (opened : h.open_body ≡ Some b) where
  module _ {pending : List Placed} (k : Continues g s o t h pending) where
    pub pending_body : IsOpenBody k.rest b h
    pending_body = subst (ArePendingIn k.rest h) opened k.retained

    pub body_at_front : (f : BodyFront) → body_front (space_for h) (bytes_of (pending_escape b.escape) ++ bytes_of pending) ≡ f →
        stream_front h.machine (k.rest ++ pending) ≡ body_front_by h.machine b.name b.show (pending_body.bytes ++ (pending_escape b.escape ++ pending)) (body_front_after (length pending_body.bytes) f)
    body_at_front f e =
        let p = pending_body in
        let next = pending_escape b.escape ++ pending in
        let all : k.rest ++ pending ≡ p.bytes ++ next = ap (λ (xs : List Placed). xs ++ pending) p.is ∙ append_assoc p.bytes (pending_escape b.escape) pending in
        let size : length h.body ≡ length p.bytes = ap length (sym p.body) ∙ length-map p.bytes _ in
        let bytes : bytes_of (p.bytes ++ next) ≡ h.body ++ (bytes_of (pending_escape b.escape) ++ bytes_of pending) =
        bytes_of-append p.bytes next ∙ ap₂ (λ (xs ys : List ℕ). xs ++ ys) p.body (bytes_of-append (pending_escape b.escape) pending) in
        ap (stream_front h.machine) all ∙ front_at h.machine (p.bytes ++ next) p.mode ∙ ap (body_front_by h.machine b.name b.show (p.bytes ++ next))
        (ap (body_front (store_limit - h.machine.stored)) bytes ∙ p.are_of_body (bytes_of pending) ∙ ap₂ body_front_after size e)

    -- they are refused
    pub body_refused : (fault : Fault) (i : ℕ) → body_front (space_for h) (bytes_of (pending_escape b.escape) ++ bytes_of pending) ≡ bodies.refused fault i → IsRefused g s o t h (refusal fault (place_at (pending_escape b.escape ++ pending) i))
    body_refused fault i e = leads_to_refusal k _ (body_at_front (bodies.refused fault i) e ∙ ap (λ (n : ℕ). refuse (refusal fault n)) (place_at-following pending_body.bytes (pending_escape b.escape ++ pending) (length pending_body.bytes + i) i refl))

    -- the reading state once the body has ended
    pub body_over : (m : Machine) → m.mode ≡ between → ArePending [] (record h { machine = m; open_run = None; run = []; open_body = None; body = [] })
    body_over m mode = holds_nothing (record h { machine = m; open_run = None; run = []; open_body = None; body = [] }) refl mode refl refl pending_body.half

  -- the first of them are added to the body
  pub body_grows : {xs added pending : List Placed} {escape : Option ℕ} → Continues g s o t h (xs ++ pending) → AreAdded (space_for h) b.escape xs added escape → Continues g s o t (state_with_body h b escape (h.body ++ bytes_of added)) pending
  body_grows {xs} {added} {pending} {escape} k adds =
      let p = pending_body k in
      record {
        done = k.done;
        taken = k.taken;
        clear = k.clear;
        rest = k.rest ++ xs;
        retained = record {
          bytes = p.bytes ++ added;
          is = simp (p.is, append_assoc, adds.joined);
          mode = refl;
          body = bytes_of-append p.bytes added ∙ ap (λ (bs : List ℕ). bs ++ bytes_of added) p.body;
          are_of_body =
              then_of_body (store_limit - h.machine.stored) h.body (bytes_of (pending_escape b.escape)) (bytes_of xs) (bytes_of added) (bytes_of (pending_escape escape)) p.are_of_body
              (sym (bytes_of-append (pending_escape b.escape) xs) ∙ ap bytes_of adds.joined ∙ bytes_of-append added (pending_escape escape)) adds.are_of_body;
          still = p.still;
          half = p.half;
        };
        leads = k.leads ∙ ap₂ (λ (mode : Mode) (ys : List Placed). prepend k.done (outcome_from (record h.machine { mode = mode }) ys)) p.mode (sym (append_assoc k.rest xs pending));
      }

-- The next byte ends a body, after the pending ESC.
module _ {S : Type 0} {g : Ghosts S} {s : S} {o : Outcome} {t : S} {h : ReadingState} {name place : ℕ} {x : Placed} {pending : List Placed} (k : Continues g s o t h (x ∷ pending)) (ends : ends_body x.byte ≡ true) where
  pub ends_at : (show : Bool) (opened : h.open_body ≡ Some (record { name = name; show = show; escape = Some place })) →
      stream_front h.machine (k.rest ++ x ∷ pending) ≡ bound_front h.machine name show (length (pending_body opened k).bytes) ((pending_body opened k).bytes ++ escape_at place ∷ x ∷ pending)
  ends_at show opened =
      let before = (pending_body opened k).bytes in
      body_at_front opened k (bodies.ended 0) (ended_front _ x.byte (bytes_of pending) ends)
      ∙ ap (λ (n : ℕ). bound_front h.machine name show n (before ++ escape_at place ∷ x ∷ pending)) (let e : length before + 0 ≡ length before = omega arith in e)

  -- the body is bound, and its end is the next code
  abbrev pub body_bound : h.open_body ≡ Some (record { name = name; show = false; escape = Some place }) →
      Continues g s o t (record h { machine = after_body h.machine name h.body; half = 27 ∷ []; open_run = None; run = []; open_body = None; body = [] }) (x ∷ pending)
  body_bound opened = record {
    done = k.done;
    taken = k.taken;
    clear = k.clear;
    rest = escape_at place ∷ [];
    retained = record { mode = refl; body = refl; half = (refl, escape_unfinished h.machine.sets) };
    leads =
        let p = pending_body opened k in
        let rest = escape_at place ∷ x ∷ pending in
        by_front k (act [] (after_body h.machine name h.body) rest) (ends_at false opened
        ∙ rw (bytes_of-append p.bytes rest, take_at (bytes_of p.bytes) (bytes_of rest) (length p.bytes) (length-map p.bytes _), drop_at p.bytes rest (length p.bytes) refl, p.body) refl);
  }

  -- the body is presented
  pub body_shows : h.open_body ≡ Some (record { name = name; show = true; escape = Some place }) → stream_front h.machine (k.rest ++ x ∷ pending) ≡ shown_front (after_body h.machine name h.body) x.place (h.body ++ 27 ∷ x.byte ∷ []) pending
  body_shows opened =
      let p = pending_body opened k in
      let rest = escape_at place ∷ x ∷ pending in
      let body : take (length p.bytes) (bytes_of (p.bytes ++ rest)) ≡ h.body =
      ap (take (length p.bytes)) (bytes_of-append p.bytes rest) ∙ take_at (bytes_of p.bytes) (bytes_of rest) (length p.bytes) (length-map p.bytes _) ∙ p.body in
      let both : take (length p.bytes + 2) (bytes_of (p.bytes ++ rest)) ≡ h.body ++ 27 ∷ x.byte ∷ [] =
      take-map (λ (y : Placed). y.byte) (length p.bytes + 2) (p.bytes ++ rest) ∙ ap bytes_of (take-append-add p.bytes rest 2) ∙ bytes_of-append p.bytes (take 2 rest) ∙ ap (λ (bs : List ℕ). bs ++ 27 ∷ x.byte ∷ []) p.body in
      ends_at true opened ∙ rw (body, both, place_at-following p.bytes rest (length p.bytes + 1) 1 refl, drop-append-add p.bytes rest 2) refl
