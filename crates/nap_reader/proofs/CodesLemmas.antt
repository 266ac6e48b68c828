use Rattle.nap_reader.proofs.Common.{All, All-head, AreCharacters, ArePending, Bool, Call, Calls, CharSet, Code, CodeFault, CodeSets, CodeTakes, Codes, Continues, Define, DrawFault, Entry, Fault, FaultMatchesDevice, FaultMatchesSink, Ghosts, HaltsAfter, IsLive, IsOpcodeByte, IsText, IsTextByte, Kind, LeadsOn, LexerState, List, Memory, NeverWants, None, Nothing, Ok, Opcode, OpenBody, OpenRun, Option, Outcome, Passes, Placed, ReadingState, Refuses, Request, RuleResult, RunAt, SinkFault, Some, Stop, Stops, StopsByte, Stray, Takes, TakesUnder, Work, [], after_charge, after_drawing, ap, append_assoc, arith, body_of, bytes_of, code_fault, code_front, code_rule, draw_fault, drawn_front, drawn_text, drop, false, fault_of, get_or, kind_of, length, length-append, length-drop, length-map, nil_from_length, one_byte_opcode, place_at, placed_at, placed_by_step, refl, refusal, rule_result, shown_front, sink_model_of, state_after_request, stream_front, subst, sym, take, take_rest, with_machine, ℕ, ◌*◌, ◌++◌, ◌+◌, ◌-◌, ◌<◌, ◌∙◌, ◌∷◌, ◌≡◌, ◌≢◌, ◌≤◌}
use Rattle.nap_reader.proofs.Base.{Fails, IsAt, TookMore, WantsMore, acts_itself, as_it_was, binds_code, body_begins, by_itself, byte-placed_by_step, byte_refused, bytes_of-append, code_breaks, code_continues, code_ends, code_fault_own, code_over, front_kind_made, is_between, leads_on, leads_shown, leads_to_fault, leads_to_refusal, list_more, opcode_alone, opcode_of_kind, opens_drawn, pays, place_at-append, place_at-placed_by_step, run_opens, split_bytes, stops_now, stops_own}
use Rattle.nap_codes.specs.Front as codes
use Rattle.nap_reader.specs.Stream as model
use Rattle.nap_reader.proofs.TakingLemmas.{Drew, LeftBy, leads_after, left_is, next_in_slice, one_takes, own_spares, place_at-drop, stop_takes, works_on, works_still}
use Rattle.nap_reader.proofs.TextLemmas.{halts_at, text_past, text_stops}
use Rattle.nap_reader.specs.declared.machine.Machine.{Machine}
use Rattle.nap_reader.specs.declared.machine.codes.CodeOutcome.{CodeOutcome}

-- One code, while nothing is open.

-- bytes lead to another state, in which nothing acts before the byte that comes next
pub leads_by : {S : Type 0} {g : Ghosts S} {t : S} {h : ReadingState} {u v : S} {h' k : ReadingState} {xs : List Placed} (next : List ℕ) → v ≡ u → k ≡ h' → 0 < length xs → h'.machine.left ≡ h.machine.left →
    ((n : ℕ) → All (IsAt n) xs → RunAt n h.open_run → RunAt n h'.open_run) → Passes g t h xs u h' [] → LeadsOn g t h v k xs next
leads_by {u = u} {h' = h'} next sink retained some left run passes = record {
  conveys = record { sink = u; holding = h'; left = left; run = run; passes = passes; none = λ none. absurd (omega (arith, some, ap length none)) };
  acted = as_it_was sink retained;
}

-- A byte is an opcode, with no incomplete code before it.
pub record StartsRun (h : ReadingState) (x : Placed) (op : Opcode) : Type 0 where
  pub between : h.open_body ≡ None
  pub closed : h.open_run ≡ None
  pub is : IsOpcodeByte h.half h.machine.sets x.byte op

-- the reading state once the opcode's run is open
abbrev pub open_at : {h : ReadingState} {x : Placed} {op : Opcode} → StartsRun h x op → ReadingState
open_at {h} {x} {op} k = record h { half = []; open_run = Some (record { op = op; place = x.place }); run = [] }

pub run_opened : {S : Type 0} {g : Ghosts S} {t v : S} {h retained : ReadingState} {x : Placed} {op : Opcode} (k : StartsRun h x op) (next : List ℕ) → v ≡ t → retained ≡ open_at k → LeadsOn g t h v retained (x ∷ []) next
run_opened {x = x} {op = op} k next sink same =
    leads_by next sink same (omega arith) refl (λ n all before. All-head (IsAt n) x [] all) (λ s o pending c. run_opens k.between k.closed c op k.is.rested k.is.names)

-- A code draws by a rule, and makes this request.
pub data IsRuled (c : Code) : Request → Type 0 where
  acts : (acting : Code) → kind_of c ≡ Kind.acts acting → IsRuled c Nothing
  binds : (name : ℕ) (show : Bool) → kind_of c ≡ Kind.binds name show → IsRuled c (Define name show)

-- the result of a code's rule: these entries and this work
abbrev pub drawn_by : List Entry → Work → RuleResult
drawn_by entries work = record { entries = entries; work = work; clears = false }

-- With this byte, after those of an incomplete code, a code is complete, and no run is open.
pub record EndsCode (sets : CodeSets) (half : List ℕ) (open_run : Option OpenRun) (byte : ℕ) (c : Code) (after : CodeSets) : Type 0 where
  pub closed : open_run ≡ None
  pub whole : codes.front sets (half ++ byte ∷ []) ≡ codes.complete c (length (half ++ byte ∷ [])) after

-- the reading state after the code was read, with the work that it leaves
abbrev pub drawn_at : ReadingState → CodeSets → Work → ReadingState
drawn_at h after work = record h { machine = record h.machine { work = work; sets = after }; half = [] }

-- the machine on which the code's rule draws
abbrev asked : ReadingState → CodeSets → Request → model.Machine
asked h after request = (state_after_request (record h { machine = record h.machine { sets = after } }) request).machine

-- the reading state after the rule has acted
abbrev ruled_at : ReadingState → CodeSets → Request → RuleResult → ReadingState
ruled_at h after request drawn = record (state_after_request h request) { machine = after_drawing (asked h after request) drawn; half = [] }

module _ {S : Type 0} (g : Ghosts S) (t : S) {h : ReadingState} {x : Placed} {c : Code} {after : CodeSets} (between : h.open_body ≡ None) (k : EndsCode h.machine.sets h.half h.open_run x.byte c after) where
  -- the front at the byte, and the bytes that are pending then
  pub ends : {kind : Kind} → kind_of c ≡ kind → {T : Type 0} {g' : Ghosts T} {s v : T} {o : Outcome} {pending : List Placed} (c' : Continues g' s o v h (x ∷ pending)) → stream_front h.machine (c'.rest ++ x ∷ pending) ≡ code_front (record h.machine { sets = after }) kind x.place pending
  ends kind c' = rw kind at (code_ends between k.closed c' c _ after k.whole refl)

  pub over : {T : Type 0} {g' : Ghosts T} {s v : T} {o : Outcome} {pending : List Placed} → Continues g' s o v h (x ∷ pending) → (work : Work) → ArePending [] (drawn_at h after work)
  over c' work = code_over between k.closed c' (drawn_at h after work) between refl refl k.closed refl

  ruled_front : {request : Request} → IsRuled c request → {T : Type 0} {g' : Ghosts T} {s v : T} {o : Outcome} {pending : List Placed} (c' : Continues g' s o v h (x ∷ pending)) →
      stream_front h.machine (c'.rest ++ x ∷ pending) ≡ drawn_front (asked h after request) x.place pending (code_rule h.machine.work c)
  ruled_front (acts acting kind) c' = ends (acts_itself c acting kind) c'
  ruled_front (binds name show kind) c' = rw (binds_code c name show kind) (ends kind c')

  -- A code acts, or defines a macro, whose body comes next.
  ruled_past : {request : Request} → IsRuled c request → {T : Type 0} {g' : Ghosts T} {s v w : T} {o : Outcome} {pending : List Placed} {drawn : RuleResult} → code_rule h.machine.work c ≡ Ok drawn → TookMore g' → g'.took v drawn.entries w → (g'.failed v ≡ false → g'.failed w ≡ false) →
      Continues g' s o v h (x ∷ pending) → Continues g' s o w (ruled_at h after request drawn) pending
  ruled_past (acts acting kind) {w = w} {pending = pending} {drawn = drawn} rule more took clear c' =
      let h' = ruled_at h after Nothing drawn in
      leads_on c' w drawn.entries h' pending more (code_over between k.closed c' h' between refl refl k.closed refl) (ruled_front (acts acting kind) c' ∙ ap (drawn_front (asked h after Nothing) x.place pending) rule) took clear
  ruled_past (binds name show kind) {w = w} {pending = pending} {drawn = drawn} rule more took clear c' =
      let body : OpenBody = record { name = name; show = show; escape = None } in
      let h' = ruled_at h after (Define name show) drawn in
      leads_on c' w drawn.entries h' pending more (body_begins body h' refl refl (is_between h c'.rest between c'.retained).body k.closed refl)
      (ruled_front (binds name show kind) c' ∙ ap (drawn_front (asked h after (Define name show)) x.place pending) rule) took clear

  pub ruled_leads : {u : S} {request : Request} {entries : List Entry} {work : Work} {retained : ReadingState} (ruled : IsRuled c request) → retained ≡ drawn_at h after work → Drew g (code_rule h.machine.work c) t (drawn_by entries work) u → TookMore g → (next : List ℕ) →
      LeadsOn g t h u (state_after_request retained request) (x ∷ []) next
  ruled_leads (acts acting kind) same drew more next = leads_by next refl same (omega arith) refl (λ n all before. before) (λ s o pending. ruled_past (acts acting kind) drew.is more drew.took drew.clear)
  ruled_leads (binds name show kind) same drew more next =
      leads_by next refl (ap (λ (h : ReadingState). state_after_request h (Define name show)) same) (omega arith) refl (λ n all before. before) (λ s o pending. ruled_past (binds name show kind) drew.is more drew.took drew.clear)

  -- A code's rule is refused, or breaks.
  pub ruled_breaks : {u : S} {fault : DrawFault} {request : Request} → IsRuled c request → Fails g (code_rule h.machine.work c) t u fault → StopsByte g t [] h x u (refusal (draw_fault fault) x.place)
  ruled_breaks {u} {fault} {request} ruled fails = record {
    own = λ own s o pending c'. leads_to_fault c' u (asked h after request) x.place pending _ (ruled_front ruled c') fault fails.drew own;
    broke = code_breaks (ruled_at h after request) k.closed (λ drawn rule known s o pending. ruled_past ruled rule list_more refl (λ clear. clear)) fails;
  }

  -- A code calls a macro.
  pub code_calls : {t₀ v : S} {h₀ retained : ReadingState} {all : List Placed} {index name : ℕ} (following : List Placed) → drop index all ≡ x ∷ following → LeadsOn g t₀ h₀ t h (take index all) (bytes_of (drop index all)) → kind_of c ≡ Kind.calls name →
      v ≡ t → retained ≡ drawn_at h after h.machine.work → Calls g t₀ h₀ v retained all index name
  code_calls following is leads kind sink same = rw (sink, same) record {
    byte = x;
    following = following;
    is = is;
    holding = h;
    leads = leads;
    between = between;
    closed = k.closed;
    left = refl;
    front_is = λ rest pending pends. ends kind (by_itself rest h (x ∷ pending) pends);
    rested = k.closed;
    still = λ rest pends. over (by_itself rest h (x ∷ []) pends) h.machine.work;
    named = rw kind at (front_kind_made h.machine.sets (h.half ++ x.byte ∷ []) c _ after k.whole);
  }

-- A call of a name without a body leads to the bytes after it.
pub empty_call_leads : {S : Type 0} {g : Ghosts S} {t : S} {h : ReadingState} {u : S} {h' : ReadingState} {all : List Placed} {index name : ℕ} → Calls g t h u h' all index name → body_of h'.machine.names name ≡ [] → LeadsOn g t h u h' (take (index + 1) all) (bytes_of (drop (index + 1) all))
empty_call_leads {g = g} {u = u} {h' = h'} {all = all} {index = index} calls none =
    leads_after all index calls.leads 1
    (subst (λ (xs : List Placed). LeadsOn g u calls.holding u h' (take 1 xs) (bytes_of (drop 1 xs))) (sym calls.is)
    (leads_by (bytes_of calls.following) refl refl (omega arith) (sym calls.left) (λ n all before. subst (RunAt n) (sym calls.rested) tt)
    (λ s o pending k. leads_shown k h'.machine calls.byte.place [] pending (calls.front_is k.rest pending k.retained ∙ ap (λ (bytes : List ℕ). shown_front h'.machine calls.byte.place bytes pending) none) (omega arith) h' (whole h'.machine) (calls.still k.rest k.retained))))
  where
    whole : (m : model.Machine) → m ≡ after_charge m 0
    whole m = rw (let e : m.left - 0 ≡ m.left = omega arith in e) refl

-- A machine consumes such a call.
pub empty_call_takes : {S : Type 0} {g : Ghosts S} {names : List (List ℕ)} {old new : Machine S g} {xs : List Placed} {ended : Bool} {count name : ℕ} → Takes old new xs ended count (Call name) → body_of names name ≡ [] → TakesUnder names old new xs ended count Nothing
empty_call_takes {g = g} {old = old} {new = new} {xs = xs} {count = count} {name = name} t none = record {
  within = t.within;
  leaves = t.leaves;
  by = λ h following between bound over.
      let (index, counted, calls) = t.by h following between over in
      subst (λ (n : ℕ). LeadsOn g old.sink (with_machine h old) new.sink (with_machine h new) (take n (xs ++ following)) (bytes_of (drop n (xs ++ following)))) (sym counted)
      (empty_call_leads calls (ap (λ (names : List (List ℕ)). body_of names name) bound ∙ none));
}

-- A byte of a code that isn't complete.
pub half_leads : {S : Type 0} {g : Ghosts S} {t v : S} {h retained : ReadingState} (x : Placed) (next : List ℕ) → v ≡ t → retained ≡ record h { half = h.half ++ x.byte ∷ [] } → h.open_body ≡ None → h.open_run ≡ None →
    codes.front h.machine.sets (h.half ++ x.byte ∷ []) ≡ codes.unfinished → LeadsOn g t h v retained (x ∷ []) next
half_leads x next sink retained between closed unfinished = leads_by next sink retained (omega arith) refl (λ n all before. before) (λ s o pending c. code_continues between closed c unfinished)

-- The effect of a byte on a machine without an open run.

-- A machine consumes a byte of a code that isn't complete.
pub half_takes : {S : Type 0} {g : Ghosts S} {old new : Machine S g} {x : Placed} {zs : List Placed} {ended : Bool} → codes.front old.lexer.sets (old.lexer.half ++ x.byte ∷ []) ≡ codes.unfinished →
    LeftBy old new old.work (record { sets = old.lexer.sets; half = old.lexer.half ++ x.byte ∷ [] }) → new.sink ≡ old.sink → IsLive new → Takes old new (x ∷ zs) ended 1 Nothing
half_takes {x = x} {zs = zs} unfinished left same live =
    one_takes (works_still left.kept same live) (λ h following between. half_leads x (bytes_of (zs ++ following)) same (left_is left h) between left.before unfinished)

-- A machine refuses a byte.
pub fault_takes : {S : Type 0} {g : Ghosts S} {old new : Machine S g} {x : Placed} {zs : List Placed} {ended : Bool} (fault : CodeFault) → codes.front old.lexer.sets (old.lexer.half ++ x.byte ∷ []) ≡ codes.refused fault (length old.lexer.half) →
    old.open_run ≡ None → new.refusal ≡ Some (refusal (code_fault fault) x.place) → new.sink ≡ old.sink → Takes old new (x ∷ zs) ended 0 Stop
fault_takes {g = g} {old = old} {x = x} {zs = zs} fault refused closed is same =
    stop_takes is same (omega arith) (grind arith) (λ spared. own_spares (code_fault_own fault)) (λ h following between over. stops_now refl
    (stops_own g old.sink (with_machine h old) x old.sink (refusal (code_fault fault) x.place) (code_fault_own fault) (λ s o pending c. byte_refused between closed c fault _ refused refl)))

-- the lexer after a code
abbrev pub rested : CodeSets → LexerState
rested after = record { sets = after; half = [] }

-- A byte ends a code.
abbrev pub Lexes : {S : Type 0} {g : Ghosts S} → Machine S g → ℕ → Code → CodeSets → Type 0
Lexes old byte c after = EndsCode old.lexer.sets old.lexer.half old.open_run byte c after

pub lexes_alone : {sets : CodeSets} {half : List ℕ} {open_run : Option OpenRun} {byte : ℕ} {c : Code} {after : CodeSets} → open_run ≡ None → half ≡ [] → codes.front sets (byte ∷ []) ≡ codes.complete c 1 after → EndsCode sets half open_run byte c after
lexes_alone closed none front = record { closed = closed; whole = rw none front }

-- A code is an operand outside a run.
pub strays_takes : {S : Type 0} {g : Ghosts S} {old new : Machine S g} {x : Placed} {zs : List Placed} {c : Code} {after : CodeSets} {ended : Bool} → Lexes old x.byte c after → kind_of c ≡ Kind.strays → new.refusal ≡ Some (refusal Stray x.place) → new.sink ≡ old.sink → Takes old new (x ∷ zs) ended 0 Stop
strays_takes {g = g} {old = old} {x = x} k kind is same =
    stop_takes is same (omega arith) (grind arith) (λ spared. own_spares refl) (λ h following between over. stops_now refl
    (stops_own g old.sink (with_machine h old) x old.sink (refusal Stray x.place) refl (λ s o pending c'. leads_to_refusal c' _ (ends g old.sink between k kind c'))))

-- An opcode was read: no code was incomplete before it, and the lexer is unchanged.
pub opcode_read : {sets : CodeSets} {half : List ℕ} {open_run : Option OpenRun} {byte : ℕ} {c : Code} {after : CodeSets} (k : EndsCode sets half open_run byte c after) {op : Opcode} → kind_of c ≡ Kind.opens op →
    (rested after ≡ record { sets = sets; half = half }) × IsOpcodeByte [] after byte op
opcode_read {sets} {half} {byte = byte} {c = c} {after = after} k {op} kind =
    let front = rw (opcode_of_kind c op kind) at k.whole in
    let one = one_byte_opcode sets (half ++ byte ∷ []) op _ after front in
    let none : half ≡ [] = nil_from_length half (omega (arith, one.0, length-append half (byte ∷ []))) in
    let names : codes.front after (byte ∷ []) ≡ codes.complete (Code.Op op) 1 after = rw (one.0, none, ← one.1) at front in (
      rw (one.1, none),
      record { rested = refl; drawn = opens_drawn after (byte ∷ []) (Code.Op op) 1 after op names refl; alone = opcode_alone after byte op names; names = names },
    )

-- The machine takes the code at the front of the rest of a slice.

pub length-rest_of : (bytes : List ℕ) (at : ℕ) → length (take (length bytes - at) (drop at bytes)) ≡ length bytes - at
length-rest_of bytes at = ap length (take_rest bytes at) ∙ length-drop at bytes

abbrev placed_rest : ℕ → ℕ → List ℕ → ℕ → List Placed
placed_rest place step bytes at = placed_at (get_or bytes at 0) (place + step * at) ∷ placed_by_step (place + step * (at + 1)) step (drop (at + 1) bytes)

pub codes_from : {S : Type 0} {g : Ghosts S} {old new : Machine S g} {ended : Bool} {outcome : CodeOutcome} (place step : ℕ) (bytes : List ℕ) (at : ℕ) → at < length bytes → Codes old new (drop at bytes) ended outcome → CodeTakes old new (placed_rest place step bytes at) ended outcome
codes_from place step bytes at less codes = let here = rw (next_in_slice place step bytes at less) at codes in here.by (placed_at (get_or bytes at 0) (place + step * at)) (placed_by_step (place + step * (at + 1)) step (drop (at + 1) bytes)) refl

-- It keeps the refusal, with the place of the byte.
pub stopped_from : {S : Type 0} {g : Ghosts S} {old new kept : Machine S g} {ended : Bool} {more index : ℕ} {fault : Fault} (place step : ℕ) (bytes : List ℕ) (at : ℕ) → at < length bytes → Codes old new (drop at bytes) ended (CodeOutcome.Stopped more fault index) → Refuses new kept (refusal fault (place + step * (at + index))) →
    Takes old kept (placed_rest place step bytes at) ended more Stop
stopped_from {new = new} {kept = kept} {index = index} {fault = fault} place step bytes at less codes refuses =
    let within : at + index < length bytes = omega (arith, codes.within.1, less, length-drop at bytes) in
    let placed : place_at (placed_rest place step bytes at) index ≡ place + step * (at + index) = ap (λ (xs : List Placed). place_at xs index) (sym (byte-placed_by_step place step bytes at less)) ∙ place_at-drop (placed_by_step place step bytes) at index ∙ place_at-placed_by_step place step bytes (at + index) within in
    codes_from place step bytes at less codes kept (subst (λ (n : ℕ). Refuses new kept (refusal fault n)) (sym placed) refuses)

-- a sink's fault says whether the sink has failed
tells_sink : {S : Type 0} {g : Ghosts S} {s t : S} {n : ℕ} (fault : SinkFault) → FaultMatchesDevice (sink_model_of g) s t n fault → FaultMatchesSink g s t (draw_fault (fault_of fault))
tells_sink fault tells = grind arith

-- memory isn't lacking for a sink that never wants any
halts_spare : {S : Type 0} (g : Ghosts S) (s t : S) (list : List Entry) (n : ℕ) (fault : SinkFault) → HaltsAfter (sink_model_of g) list s t n fault → NeverWants g s → draw_fault (fault_of fault) ≢ Memory
halts_spare g s t list n fault h k e = grind arith

-- The first bytes are characters, and the format effectors among them.
pub record IsTextOf {S : Type 0} {g : Ghosts S} (old : Machine S g) (set : CharSet) (bytes chars : List ℕ) : Type 0 where
  pub rest : List ℕ
  pub is : chars ++ rest ≡ bytes
  pub some : 0 < length chars
  pub typed : All IsTextByte chars
  pub closed : old.open_run ≡ None
  pub are : AreCharacters old.lexer set

module _ {S : Type 0} {g : Ghosts S} {old : Machine S g} {set : CharSet} {bytes chars : List ℕ} (k : IsTextOf old set bytes chars) where
  few : length chars ≤ length bytes
  few = omega (arith, sym (ap length k.is), length-append chars k.rest)

  few_placed : (xs : List Placed) → bytes ≡ bytes_of xs → length chars ≤ length xs
  few_placed xs is = omega (arith, few, ap length is, length-map xs (λ (x : Placed). x.byte))

  is_text : (h : ReadingState) → h.open_body ≡ None → IsText (with_machine h old) set chars
  is_text h between = record { between = between; closed = k.closed; rested = k.are.rested; chars = k.are.chars; typed = k.typed }

  split : (xs following : List Placed) → bytes ≡ bytes_of xs → bytes_of (xs ++ following) ≡ chars ++ (k.rest ++ bytes_of following)
  split xs following is = bytes_of-append xs following ∙ ap (λ (bs : List ℕ). bs ++ bytes_of following) (sym (k.is ∙ is)) ∙ append_assoc chars k.rest (bytes_of following)

  -- The characters are consumed.
  pub text_taken : {new : Machine S g} {ended : Bool} → LeftBy old new (rule_result old.work (drawn_text old.work.state set chars)).work old.lexer → g.took old.sink (drawn_text old.work.state set chars) new.sink → (g.failed old.sink ≡ false → g.failed new.sink ≡ false) → IsLive new →
      TookMore g → WantsMore g → Codes old new bytes ended (CodeOutcome.Acted (length chars))
  text_taken left took clear live more wants = record {
    within = (k.some, few);
    closed = left.closed ∙ sym left.before;
    by = λ x ys is. record {
      within = few_placed (x ∷ ys) is;
      leaves = works_on _ left.kept wants took clear live;
      by = λ h following between over.
          let all : List Placed = x ∷ (ys ++ following) in
          let same = (split_bytes all chars _ (split (x ∷ ys) following is)).0 in
          leads_by (bytes_of (drop (length chars) all)) refl (left_is left h) (omega (arith, k.some, ap length same, length-map (take (length chars) all) (λ (x : Placed). x.byte))) refl (λ n all before. before)
          (λ s o pending c. pays (text_past set (take (length chars) all) pending (is_text h between) same c) more took clear);
    };
  }

  -- One of the characters is refused, or breaks.
  pub text_halts : {new : Machine S g} {ended : Bool} (fault : SinkFault) {index : ℕ} → new.open_run ≡ old.open_run → HaltsAfter (sink_model_of g) (drawn_text old.work.state set chars) old.sink new.sink index fault → FaultMatchesDevice (sink_model_of g) old.sink new.sink index fault →
      Codes old new bytes ended (CodeOutcome.Stopped index (draw_fault (fault_of fault)) index)
  text_halts {new} fault {index} closed halts tells =
      let halt = halts_at g old.work.state set chars index old.sink new.sink fault k.some halts in
      let less : index < length chars = omega (arith, halt.count, ap length halt.parts, length-append halt.before (halt.byte ∷ halt.following)) in
      record {
        within = (omega (arith, less, few), omega (arith, less, few));
        closed = closed;
        by = λ x ys is kept refuses.
            let few_there : index < length (x ∷ ys) = omega (arith, less, few_placed (x ∷ ys) is) in
            stop_takes refuses.is refuses.sink (omega (arith, few_there)) (tells_sink fault tells) (λ spared. halts_spare g old.sink new.sink _ index fault halts spared.1)
            (λ h following between over.
            subst (λ (n : ℕ). Stops g old.sink (with_machine h old) (x ∷ (ys ++ following)) index new.sink (refusal (draw_fault (fault_of fault)) n)) (place_at-append (x ∷ ys) following index few_there)
            (text_stops (x ∷ (ys ++ following)) _ (is_text h between) (split (x ∷ ys) following is) halt));
      }
