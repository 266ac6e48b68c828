use Rattle.nap_reader.proofs.Common.{Bool, Call, Calls, Define, DoesNothing, DrawFault, Entry, Fault, FaultMatchesSink, Ghosts, IsLive, IsOver, IsSpared, KeepsMemory, LeadsOn, LeadsThrough, Leaves, LexerState, List, Memory, NeverWants, None, Nothing, Ok, OpenRun, Option, Placed, ReadingState, Refusal, Request, Result, RuleResult, Sink, Some, Stop, Stops, StopsByte, Takes, TakesBy, TakesUnder, Work, Works, [], ap, arith, bytes_of, cause_of, clear_request_if, drop, drop-append-le, drop-drop, drop_more, false, false≢true, get_or, if◌then◌else◌, length, length-drop, memory, no_names, place_at, placed_by_step, refl, run_by, state_after_request, stream, subst, suc, sym, take, take-add, take-append-drop, true, with_machine, zero, ℕ, ◌*◌, ◌++◌, ◌+◌, ◌<◌, ◌∙◌, ◌∷◌, ◌≡◌, ◌≢◌, ◌≤◌}
use Rattle.nap_reader.proofs.Base.{WantsMore, bytes_of-append, bytes_of-placed_by_step, leads_nowhere, leads_then, stops_then}
use Rattle.nap_reader.specs.declared.machine.Machine.{Machine}

-- The reading state, by the machine.

-- A rule drew, on a sink that was t and is u.
pub record Drew {S : Type 0} (g : Ghosts S) (by : Result RuleResult DrawFault) (t : S) (drawn : RuleResult) (u : S) : Type 0 where
  pub is : by ≡ Ok drawn
  pub took : g.took t drawn.entries u
  pub clear : g.failed t ≡ false → g.failed u ≡ false

-- the reading state once codes have acted
pub state_is : {S : Type 0} {g : Ghosts S} (h : ReadingState) (m : Machine S g) (work : Work) (lexer : LexerState) (open_run : Option OpenRun) → m.work ≡ work → m.lexer ≡ lexer → m.open_run ≡ open_run →
    with_machine h m ≡ record h { machine = record h.machine { work = work; sets = lexer.sets }; half = lexer.half; open_run = open_run; run = run_by open_run m.run.items }
state_is h m work lexer open_run is_work is_lexer is_run = rw (is_work, is_lexer, is_run)

-- an opcode may unbind all names
pub asked_is : (h : ReadingState) (work : Work) (clears : Bool) → state_after_request (record h { machine = record h.machine { work = work } }) (clear_request_if clears)
    ≡ record h { machine = record h.machine { work = work; names = if clears then no_names else h.machine.names } }
asked_is h work clears = grind arith

-- No run is open, before or then, and the machine has this work and this lexer then.
pub record LeftBy {S : Type 0} {g : Ghosts S} (old new : Machine S g) (work : Work) (lexer : LexerState) : Type 0 where
  pub before : old.open_run ≡ None
  pub closed : new.open_run ≡ None
  pub work_is : new.work ≡ work
  pub lexer_is : new.lexer ≡ lexer
  pub kept : KeepsMemory old new

-- the reading state then
pub left_is : {S : Type 0} {g : Ghosts S} {old new : Machine S g} {work : Work} {lexer : LexerState} → LeftBy old new work lexer → (h : ReadingState) →
    with_machine h new ≡ record (with_machine h old) { machine = record h.machine { work = work; sets = lexer.sets }; half = lexer.half }
left_is left h = rw (left.work_is, left.lexer_is, left.closed, left.before)

-- What a machine answers.

-- memory isn't lacking where the stream itself is refused
pub own_spares : {fault : Fault} → cause_of fault ≡ stream → fault ≢ Memory
own_spares own is = let bad : memory ≡ stream = ap cause_of (sym is) ∙ own in cc

-- a fault that isn't the sink's says that the sink works still
pub own_tells : {S : Type 0} (g : Ghosts S) (t : S) {fault : Fault} → fault ≢ Sink → FaultMatchesSink g t t fault
own_tells g t other = (λ device. absurd (other device), λ works fails. absurd (false≢true (sym works ∙ fails)))

-- a sink that never wanted memory doesn't after it took entries
never_after : {S : Type 0} (g : Ghosts S) (t u : S) (list : List Entry) → WantsMore g → g.took t list u → NeverWants g t → NeverWants g u
never_after g t u list more took never wanted wants = never (list ++ (wanted ++ [])) (more t u list wanted [] took wants)

spared_by : {S : Type 0} {g : Ghosts S} (old new : Machine S g) → KeepsMemory old new → (NeverWants g old.sink → NeverWants g new.sink) → IsSpared old → IsSpared new
spared_by old new (run, scratch) never ((runs, points), sink) = ((omega (arith, run, runs), omega (arith, scratch, points)), never sink)

-- the machine goes on, and its sink is unchanged
-- memory of the same size was kept
pub kept_as : {a b c d : ℕ} → b ≡ a → d ≡ c → (a ≤ b) × (c ≤ d)
kept_as first second = (omega (arith, first), omega (arith, second))

pub works_still : {S : Type 0} {g : Ghosts S} {old new : Machine S g} → KeepsMemory old new → new.sink ≡ old.sink → IsLive new → Works old new
works_still {g = g} {old = old} {new = new} kept same live = record { live = live; clear = λ clear. ap g.failed same ∙ clear; spares = spared_by old new kept (subst (NeverWants g) (sym same)) }

-- it goes on once its sink took entries
pub works_on : {S : Type 0} {g : Ghosts S} {old new : Machine S g} (list : List Entry) → KeepsMemory old new → WantsMore g → g.took old.sink list new.sink → (g.failed old.sink ≡ false → g.failed new.sink ≡ false) → IsLive new → Works old new
works_on {g = g} {old = old} {new = new} list kept more took clear live = record { live = live; clear = clear; spares = spared_by old new kept (never_after g old.sink new.sink list more took) }

-- the machine stops
pub stop_takes : {S : Type 0} {g : Ghosts S} {old new : Machine S g} {bytes : List Placed} {ended : Bool} {count : ℕ} {r : Refusal} {u : S} → new.refusal ≡ Some r → new.sink ≡ u → count ≤ length bytes → FaultMatchesSink g old.sink u r.fault → (IsSpared old → r.fault ≢ Memory) →
    ((h : ReadingState) (following : List Placed) → h.open_body ≡ None → (ended ≡ true → IsOver (bytes_of following)) → Stops g old.sink (with_machine h old) (bytes ++ following) count u r) → Takes old new bytes ended count Stop
stop_takes {r = r} is same few tells spares stops = grind arith

-- the machine continues from a state
pub leaves_from : {S : Type 0} {g : Ghosts S} (old mid new : Machine S g) (request : Request) → Works old mid → Leaves mid new request → Leaves old new request
leaves_from old mid new request h k = grind arith

-- the code may request that all names are unbound
pub asks_takes : {S : Type 0} {g : Ghosts S} {old new : Machine S g} {xs : List Placed} {ended : Bool} {count : ℕ} (clears : Bool) → Works old new → count ≤ length xs →
    ((h : ReadingState) (following : List Placed) → h.open_body ≡ None → (ended ≡ true → IsOver (bytes_of following)) →
    LeadsOn g old.sink (with_machine h old) new.sink (state_after_request (with_machine h new) (clear_request_if clears)) (take count (xs ++ following)) (bytes_of (drop count (xs ++ following)))) → Takes old new xs ended count (clear_request_if clears)
asks_takes true works few leads = record { within = few; leaves = works; by = leads }
asks_takes false works few leads = record { within = few; leaves = works; by = leads }

-- The machine consumes one byte.
pub one_takes : {S : Type 0} {g : Ghosts S} {old new : Machine S g} {x : Placed} {zs : List Placed} {ended : Bool} {request : Request} → Leaves old new request →
    ((h : ReadingState) (following : List Placed) → h.open_body ≡ None → TakesBy g old.sink (with_machine h old) new.sink (with_machine h new) (x ∷ (zs ++ following)) 1 new.refusal request) → Takes old new (x ∷ zs) ended 1 request
one_takes leaves by = record { within = omega arith; leaves = leaves; by = λ h following between over. by h following between }

-- the bytes of a slice from one on
pub next_in_slice : (place step : ℕ) (bytes : List ℕ) (at : ℕ) → at < length bytes → drop at bytes ≡ get_or bytes at 0 ∷ bytes_of (placed_by_step (place + step * (at + 1)) step (drop (at + 1) bytes))
next_in_slice place step bytes at less = rw bytes_of-placed_by_step (drop_more bytes at 0 less)

-- The bytes that a machine consumes, and then some of those after them.

pub place_at-drop : (xs : List Placed) (n i : ℕ) → place_at (drop n xs) i ≡ place_at xs (n + i)
place_at-drop [] zero i = refl
place_at-drop [] (suc n) i = refl
place_at-drop (x ∷ xs) zero i = ap (λ (k : ℕ). place_at (x ∷ xs) k) (let e : i ≡ 0 + i = omega arith in e)
place_at-drop (x ∷ xs) (suc n) i = place_at-drop xs n i ∙ ap (λ (k : ℕ). place_at (x ∷ xs) k) (let e : suc (n + i) ≡ suc n + i = omega arith in e)

-- bytes in two parts
two_parts : (all : List Placed) (n m : ℕ) → (take (n + m) all ≡ take n all ++ take m (drop n all)) × (drop m (drop n all) ≡ drop (n + m) all)
two_parts all n m = grind (arith, take-add, drop-drop)

-- the next bytes in two parts
next_parts : (all : List Placed) (n m : ℕ) → bytes_of (drop n all) ≡ bytes_of (take m (drop n all)) ++ bytes_of (drop (n + m) all)
next_parts all n m = simp (← bytes_of-append, ← (two_parts all n m).1, take-append-drop)

module _ {S : Type 0} {g : Ghosts S} {t : S} {h : ReadingState} {u : S} {h' : ReadingState} (all : List Placed) (n : ℕ) (first : LeadsOn g t h u h' (take n all) (bytes_of (drop n all))) where
  -- The bytes lead on.
  pub leads_after : {v : S} {h'' : ReadingState} (m : ℕ) → LeadsOn g u h' v h'' (take m (drop n all)) (bytes_of (drop m (drop n all))) →
      LeadsOn g t h v h'' (take (n + m) all) (bytes_of (drop (n + m) all))
  leads_after {v} {h''} m later =
      rw ((two_parts all n m).0, ← (two_parts all n m).1) (leads_then first v h'' (take m (drop n all)) (bytes_of (drop m (drop n all))) (rw (two_parts all n m).1 (next_parts all n m)) later)

  -- The bytes lead to a byte that stops.
  pub stops_after : {v : S} {r : Refusal} (m : ℕ) → Stops g u h' (drop n all) m v r → Stops g t h all (n + m) v r
  stops_after {v} {r} m stops =
      let parts = two_parts all n m in
      let is : bytes_of (drop n all) ≡ bytes_of (take m (drop n all)) ++ stops.byte.byte ∷ bytes_of stops.following =
      next_parts all n m ∙ ap (λ (xs : List Placed). bytes_of (take m (drop n all)) ++ bytes_of xs) (sym parts.1 ∙ stops.is) in
      let (owed, leads, stopped) = subst (λ (xs : List Placed). (owed : List Entry) × (k : LeadsThrough g t h owed xs) × StopsByte g k.sink owed k.holding stops.byte v r) (sym parts.0)
      (stops_then first (take m (drop n all)) (bytes_of stops.following) is stops.leads stops.stops) in
      record { byte = stops.byte; following = stops.following; is = sym parts.1 ∙ stops.is; owed = owed; leads = leads; stops = stopped }

  -- The bytes lead to a call.
  pub calls_after : {v : S} {h'' : ReadingState} {name : ℕ} (m : ℕ) → Calls g u h' v h'' (drop n all) m name → Calls g t h v h'' all (n + m) name
  calls_after m calls = record {
    byte = calls.byte;
    following = calls.following;
    is = sym (two_parts all n m).1 ∙ calls.is;
    holding = calls.holding;
    leads = leads_after m calls.leads;
    between = calls.between;
    closed = calls.closed;
    left = calls.left;
    front_is = calls.front_is;
    rested = calls.rested;
    still = calls.still;
    named = calls.named;
  }

  pub takes_after : (new : Machine S g) (k : ReadingState) (request : Request) (m : ℕ) → TakesBy g u h' new.sink (with_machine k new) (drop n all) m new.refusal request → TakesBy g t h new.sink (with_machine k new) all (n + m) new.refusal request
  takes_after new k (Define name show) m (graphic, later) = (graphic, leads_after m later)
  takes_after new k (Call name) m (index, counted, calls) = (n + index, omega (arith, counted), calls_after index calls)
  takes_after new k Stop m (why, is, stops) = (why, is, stops_after m stops)
  takes_after new k _ m later = leads_after m later

-- The machine consumed none so far, and is unchanged.
pub takes_none : {S : Type 0} {g : Ghosts S} {old mid : Machine S g} {xs : List Placed} {ended : Bool} → LeftBy old mid old.work old.lexer → mid.sink ≡ old.sink → IsLive mid → Takes old mid xs ended 0 Nothing
takes_none {g = g} {xs = xs} left same live = search (arith, works_still, leads_nowhere, left_is) steps 100000

-- What a machine does whatever names are bound, it does where these are.
pub takes_under : {S : Type 0} {g : Ghosts S} {names : List (List ℕ)} {old new : Machine S g} {xs : List Placed} {ended : Bool} {count : ℕ} {request : Request} → Takes old new xs ended count request → TakesUnder names old new xs ended count request
takes_under t = record { within = t.within; leaves = t.leaves; by = λ h following between bound over. t.by h following between over }

takes_always : {S : Type 0} {g : Ghosts S} {old new : Machine S g} {xs : List Placed} {ended : Bool} {count : ℕ} {request : Request} → ((names : List (List ℕ)) → TakesUnder names old new xs ended count request) → Takes old new xs ended count request
takes_always t = record { within = (t []).within; leaves = (t []).leaves; by = λ h following between over. (t h.machine.names).by h following between refl over }

-- The machine consumes more of the bytes that are left.
pub under_then : {S : Type 0} {g : Ghosts S} {names : List (List ℕ)} {old mid new : Machine S g} {xs : List Placed} {ended : Bool} {count n all : ℕ} {request : Request} → TakesUnder names old mid xs ended count Nothing → TakesUnder names mid new (drop count xs) ended n request → all ≡ count + n → TakesUnder names old new xs ended all request
under_then {old = old} {mid = mid} {new = new} {xs = xs} {count = count} {n = n} {request = request} t takes is = rw is record {
  within = omega (arith, t.within, takes.within, length-drop count xs);
  leaves = leaves_from old mid new request t.leaves takes.leaves;
  by = λ h following between bound over.
      takes_after (xs ++ following) count (t.by h following between bound over) new h request n
      (rw (drop-append-le count xs following t.within) (takes.by h following between bound over));
}

pub takes_then : {S : Type 0} {g : Ghosts S} {old mid new : Machine S g} {xs : List Placed} {ended : Bool} {count n all : ℕ} {request : Request} → Takes old mid xs ended count Nothing → Takes mid new (drop count xs) ended n request → all ≡ count + n → Takes old new xs ended all request
takes_then t takes is = takes_always (λ names. under_then (takes_under t) (takes_under takes) is)

-- A machine that did nothing goes on as before.
module _ {S : Type 0} {g : Ghosts S} {old mid : Machine S g} (idle : DoesNothing old mid) (live : IsLive old) where
  pub idle_lives : IsLive mid
  idle_lives = record { live = idle.refusal ∙ live.live; agrees = rw (idle.work, idle.sink) live.agrees }

  pub idle_takes : {new : Machine S g} {xs : List Placed} {ended : Bool} {n : ℕ} {request : Request} → old.open_run ≡ None → mid.open_run ≡ old.open_run → Takes mid new xs ended n request → Takes old new xs ended n request
  idle_takes closed same takes =
      takes_then (takes_none (record { before = closed; closed = same ∙ closed; work_is = idle.work; lexer_is = idle.lexer; kept = idle.kept }) idle.sink idle_lives) takes (omega arith)
