use Rattle.nap_reader.proofs.Common.{All, All-cons, All-head, All-nil, All-tail, AllCharacters, CharSet, CodeSets, Entry, Ghosts, HaltsAfter, IsText, IsTextByte, Kind, List, Machine, Option, Outcome, Owes, Placed, ReadingState, SinkFault, State, Stops, TakesSome, TextStep, [], after, ap, append-nil, append_assoc, ap₂, arith, at_byte, bytes_of, cause_of, code_as, code_front, draw_fault, drawn_front, drawn_text, drop, fault_of, format_effector, format_effector_front, get_or-append_seam, hand_of, inl, inr, kind_of, length, length-append, memory, place_at, refl, refusal, rule_result, sink_model_of, stream, subst, suc, sym, take, text_code, text_entry, typed_rule, walk, ℕ, ◌++◌, ◌+◌, ◌<◌, ◌∙◌, ◌∷◌, ◌≡◌, ◌≢◌}
use Rattle.nap_reader.proofs.Base.{all_prefix, first_of, front_code, holds_nothing, is_between, is_half, leads_past, list_more, pays, split_bytes}
use Rattle.nap_codes.specs.Front as codes
use Rattle.nap_reader.proofs.TakingLemmas.{place_at-drop}

-- A stretch of text has the effect of its characters and format effectors one after another.

-- If all bytes from 20 to 7F are characters, each byte of a text is a format effector of one byte, or such a character.
pub are_typed : (sets : CodeSets) (set : CharSet) → AllCharacters sets set → (b : ℕ) → IsTextByte b → codes.front sets (b ∷ []) ≡ codes.complete (text_code set b) 1 sets
are_typed sets set are b is = search (arith, format_effector_front) steps 100000

-- a character and a format effector act by their rule
typed_acts : (step : Option TextStep) (set : CharSet) (b : ℕ) → kind_of (code_as step set b) ≡ Kind.acts (code_as step set b)
typed_acts step set b = grind arith

-- the entry of a byte of a text in this state
abbrev pub typed_in : State → CharSet → ℕ → Entry
typed_in s set b = text_entry set (hand_of s.drawing) b

-- the machine after the text was put
abbrev pub with_text : Machine → CharSet → List ℕ → Machine
with_text m set q = record m { work = (rule_result m.work (drawn_text m.work.state set q)).work }

module _ {S : Type 0} {g : Ghosts S} {s : S} {o : Outcome} {t : S} (set : CharSet) where
  -- the entries of characters are owed
  chars_past : {owed : List Entry} {h : ReadingState} (xs pending : List Placed) → IsText h set (bytes_of xs) → Owes g s o t owed h (xs ++ pending) →
      Owes g s o t (owed ++ drawn_text h.machine.work.state set (bytes_of xs)) (record h { machine = with_text h.machine set (bytes_of xs) }) pending
  unfolding drawn_text walk
  chars_past {owed} {h} [] pending is k = subst (λ (es : List Entry). Owes g s o t es h pending) (sym (append-nil owed)) k
  chars_past {owed} {h} (x ∷ xs) pending is k =
      let b = x.byte in
      let m = h.machine in
      let e = typed_in m.work.state set b in
      let h' : ReadingState = record h { machine = record m { work = (rule_result m.work (e ∷ [])).work } } in
      let retained = is_between h k.rest is.between k.retained in
      let acts = front_code m k.rest x (xs ++ pending) retained.mode ((is_half h k.rest is.between is.closed k.retained).0 ∙ is.rested) (are_typed m.sets set is.chars b (All-head IsTextByte b (bytes_of xs) is.typed)) refl
      ∙ ap (λ (k : Kind). code_front m k x.place (xs ++ pending)) (typed_acts (format_effector b) set b) ∙ ap (drawn_front m x.place (xs ++ pending)) (typed_rule m.work set b) in
      subst (λ (es : List Entry). Owes g s o t es (record h { machine = with_text m set (b ∷ bytes_of xs) }) pending) (append_assoc owed (e ∷ []) (drawn_text (after m.work.state e) set (bytes_of xs)))
      (chars_past {owed = owed ++ e ∷ []} {h = h'} xs pending (record { between = is.between; closed = is.closed; rested = is.rested; chars = is.chars; typed = All-tail IsTextByte b (bytes_of xs) is.typed })
      (leads_past k (e ∷ []) h' (xs ++ pending) (holds_nothing h' is.between retained.mode retained.body is.closed is.rested) acts))

  pub text_past : {owed : List Entry} {h : ReadingState} {q : List ℕ} (xs pending : List Placed) → IsText h set q → bytes_of xs ≡ q → Owes g s o t owed h (xs ++ pending) →
      Owes g s o t (owed ++ drawn_text h.machine.work.state set q) (record h { machine = with_text h.machine set q }) pending
  text_past {owed} {h} xs pending is same k = grind (arith, chars_past)

-- The character at which the put of a text halts.

-- the first entries of a text are the text of its first bytes, and the next one is the entry of the byte after them
text_parts : (s : State) (set : CharSet) (q : List ℕ) (front : List Entry) (next : Entry) (rest : List Entry) → drawn_text s set q ≡ front ++ next ∷ rest →
    (before : List ℕ) × (byte : ℕ) × (following : List ℕ) × (q ≡ before ++ byte ∷ following) × (front ≡ drawn_text s set before) × (next ≡ typed_in (walk s front) set byte) × (length front ≡ length before)
unfolding drawn_text walk
text_parts s set [] [] next rest e = let bad : ⊥ = cc in absurd bad
text_parts s set [] (first ∷ front) next rest e = let bad : ⊥ = cc in absurd bad
text_parts s set (b ∷ q) [] next rest e = ([], b, q, refl, refl, cc, refl)
text_parts s set (b ∷ q) (first ∷ front) next rest e =
    let is : first ≡ typed_in s set b = cc in
    let (before, byte, following, parts, same, last, count) = text_parts (after s (typed_in s set b)) set q front next rest (cc) in
    (b ∷ before, byte, following, ap (λ (bs : List ℕ). b ∷ bs) parts, ap₂ (λ (x : Entry) (xs : List Entry). x ∷ xs) is same, last ∙ ap (λ (e : Entry). typed_in (walk (after s e) front) set byte) (sym is), ap suc count)

-- the sink took the entries of the bytes before one, and a part of the entry of that one
pub record HaltsAt {S : Type 0} (g : Ghosts S) (s : State) (set : CharSet) (q : List ℕ) (i : ℕ) (t u : S) (fault : SinkFault) : Type 0 where
  pub before : List ℕ
  pub byte : ℕ
  pub following : List ℕ
  pub parts : q ≡ before ++ byte ∷ following
  pub count : i ≡ length before
  pub part : TakesSome g t (drawn_text s set before) (typed_in (walk s (drawn_text s set before)) set byte ∷ []) u (cause_of (draw_fault (fault_of fault)))
  pub wants : cause_of (draw_fault (fault_of fault)) ≡ memory → g.wants t (drawn_text s set before ++ typed_in (walk s (drawn_text s set before)) set byte ∷ [])

pub halts_at : {S : Type 0} (g : Ghosts S) (s : State) (set : CharSet) (q : List ℕ) (i : ℕ) (t u : S) (fault : SinkFault) → 0 < length q → HaltsAfter (sink_model_of g) (drawn_text s set q) t u i fault → HaltsAt g s set q i t u fault
unfolding drawn_text walk
halts_at g s set q i t u SinkFault.Memory some h =
    let (before, byte, following, parts, same, last, count) = text_parts s set q h.prefix h.next h.rest h.parts in
    record { before = before; byte = byte; following = following; parts = parts; count = sym h.count ∙ count; part = inr ([], _, [], refl, rw (append-nil, ← same) h.taken); wants = λ _. rw (← same, ← last) h.wants }
halts_at g s set [] i t u SinkFault.Write some (inl h) = absurd (omega arith)
halts_at g s set (b ∷ q) i t u SinkFault.Write some (inl (failed, same, none)) =
    record { before = []; byte = b; following = q; parts = refl; count = none; part = inl (failed, same, refl); wants = λ is. let bad : ⊥ = cc in absurd bad }
halts_at g s set q i t u SinkFault.Write some (inr h) =
    let (before, byte, following, parts, same, last, count) = text_parts s set q h.prefix h.next h.rest h.parts in
    record { before = before; byte = byte; following = following; parts = parts; count = sym h.count ∙ count; part = inr ([], _, [], refl, rw (append-nil, ← same, ← last) h.broken); wants = λ is. let bad : ⊥ = cc in absurd bad }

-- a sink's fault is no refusal of the stream's own
not_own : (fault : SinkFault) → cause_of (draw_fault (fault_of fault)) ≢ stream
not_own fault is = grind arith

-- Reading breaks at that character.
pub text_stops : {S : Type 0} {g : Ghosts S} {t u : S} {h : ReadingState} {set : CharSet} {q : List ℕ} {i : ℕ} {fault : SinkFault} (all : List Placed) (rest : List ℕ) → IsText h set q → bytes_of all ≡ q ++ rest → HaltsAt g h.machine.work.state set q i t u fault →
    Stops g t h all i u (refusal (draw_fault (fault_of fault)) (place_at all i))
unfolding drawn_text walk
text_stops {g = g} {t = t} {u = u} {h = h} {set = set} {fault = fault} all rest is comes halt =
    let before = halt.before in
    let n = length before in
    let (front, back) = split_bytes all before (halt.byte ∷ (halt.following ++ rest)) (comes ∙ ap (λ (bs : List ℕ). bs ++ rest) halt.parts ∙ append_assoc before (halt.byte ∷ halt.following) rest) in
    let (x, following, there, byte, others) = first_of (drop n all) halt.byte (halt.following ++ rest) back in
    let typed : All IsTextByte (before ++ halt.byte ∷ halt.following) = subst (All IsTextByte) halt.parts is.typed in
    let h' : ReadingState = record h { machine = with_text h.machine set before } in
    let last : IsTextByte x.byte = subst IsTextByte (get_or-append_seam before halt.byte halt.following 0 ∙ sym byte) (typed n 0 (omega (arith, length-append before (halt.byte ∷ halt.following)))) in
    let place : place_at all n ≡ x.place = ap (place_at all) (let e : n ≡ n + 0 = omega arith in e) ∙ sym (place_at-drop all n 0) ∙ ap (λ (ys : List Placed). place_at ys 0) there in
    rw halt.count (record {
      byte = x;
      following = following;
      is = there;
      owed = drawn_text h.machine.work.state set before;
      leads = record {
        sink = t;
        holding = h';
        left = refl;
        run = λ m every run. run;
        passes = λ s o pending k. text_past set (take n all) pending (record { between = is.between; closed = is.closed; rested = is.rested; chars = is.chars; typed = all_prefix IsTextByte before (halt.byte ∷ halt.following) typed }) front k;
        none = λ none.
            let empty : before ≡ [] = sym front ∙ ap bytes_of none in
            (refl, ap (λ (q : List ℕ). record h { machine = with_text h.machine set q }) empty, ap (drawn_text h.machine.work.state set) empty);
      };
      stops = record {
        own = λ own. absurd (not_own fault own);
        broke = λ _.
            at_byte (inr (λ _. is.closed)) (record {
              place = place;
              adds = typed_in h'.machine.work.state set x.byte ∷ [];
              after = record h' { machine = with_text h'.machine set (x.byte ∷ []) };
              came = [];
              passes = λ known s o pending k.
                  pays (text_past set (x ∷ []) pending (record { between = is.between; closed = is.closed; rested = is.rested; chars = is.chars; typed = All-cons IsTextByte x.byte [] last (All-nil IsTextByte) }) refl k) list_more refl (λ clear. clear);
              part = rw byte halt.part;
              why = inr (refl, λ none. let bad : ⊥ = cc in bad, λ memory. rw byte (halt.wants memory));
            });
      };
    })
