use Rattle.nap_reader.proofs.Common.{All-map, ArePending, Bool, Budget, Calls, CanAdvance, CanPass, CannotShow, Continues, Err, Exceeds, Fault, FaultMatchesSink, Ghosts, Goes, HasMemory, HasRead, HasReadOn, Input, IsLive, IsNextByte, IsNextText, IsSome, LacksFrom, Latches, LeadsOn, List, Memory, Moves, None, OnOk, OpenBody, Option, Overcharges, Passes, Placed, Position, Progresses, Promise, Reaches, Reader, ReadingState, Reads, ReadsFurther, ReadsTo, Refusal, Request, Result, Sink, Some, Stop, Stops, StopsByte, StopsFrom, StoreState, StoresBody, TakesBy, TakesSlice, TakesUnder, Works, [], after_charge, all_at, ap, append-nil, append_assoc, ap₂, arith, begun, body_of, budget_of, bytes_of, drop, drop-drop, false≢true, inl, inr, length, length-append, length-drop, machine_of, mode_of, next_bytes, nil_from_length, past, place_at, placed_at, placed_by_step, position_of, reading_state, reading_state_by, refl, refusal, shown_front, sink_of, state_after_request, store_grown, store_limit, stream_front, subst, sym, take, take_all, unread, unread_of, ℕ, ◌*◌, ◌++◌, ◌+◌, ◌-◌, ◌<◌, ◌^◌, ◌∙◌, ◌∷◌, ◌≡◌, ◌≢◌, ◌≤◌, ◌⊎◌}
use Rattle.nap_reader.proofs.Base.{Lawful, as_it_was, can_few, can_less, can_next, cannot_stops, drop_next, frames-unread, has_read_by, lacks, leads_shown, length-all_at, length-next, length-placed_by_step, place_at-append, place_at-placed_by_step, stops_now, unread-store_grown}
use Rattle.nap_reader.specs.declared.machine.Machine.{Machine}
use Rattle.nap_reader.proofs.PieceLemmas.{reaches_called, reaches_left, reaches_on}
use Rattle.nap_reader.proofs.StopLemmas.{stops_reached}
use Rattle.nap_reader.proofs.TakingLemmas.{own_tells, place_at-drop, stops_after}

-- How a reader advances in a piece, and where it stops.

-- What was read of the input.

counts_then : {old mid new : Input} {piece : List ℕ} {n m : ℕ} (k : ℕ) → k ≤ n + m → HasReadOn old mid piece n → HasReadOn mid new piece m → HasReadOn old new piece k
counts_then k few first then = record { reads = then.reads; budget = then.budget ∙ first.budget; promise = then.promise ∙ first.promise; fed = omega (arith, first.fed, then.fed); turns = omega (arith, few, first.turns, then.turns) }

-- the number of bytes that may still be read
abbrev pub to_come : Input → List ℕ → ℕ
to_come input piece = input.fed + (length piece - input.at) + input.budget - input.turns

-- 1 where something is open
abbrev pub is_open : {A : Type 0} → Option A → ℕ
is_open None = 0
is_open (Some a) = 1

-- Fewer bytes may still be read; or as many, and what was open has ended.
pub smaller : {A : Type 0} {old new : Option A} {input input' : Input} {piece : List ℕ} {n : ℕ} → Reads input piece → HasReadOn input input' piece n → (0 < n) ⊎ ((new ≡ None) × (old ≢ None)) → 2 * to_come input' piece + is_open new < 2 * to_come input piece + is_open old
smaller {A} {old} {new} {input} {input'} {piece} {n} reads counts which = grind arith

-- What an input does, one thing after another.

pub moves_then : {old mid new : Input} {n m : ℕ} {came : List Placed} {first_store then_store store : StoreState} {before after opened : Option OpenBody} (k : ℕ) → k ≡ n + m → Moves old mid n [] first_store before → Moves mid new m came then_store after → then_store ≡ store → after ≡ opened → Moves old new k came store opened
moves_then {old} {n = n} {m = m} {came = came} k all first then same_store same_body = grind (arith, drop-drop, length-drop)

-- no byte was passed
pub stores_moves : {old new : Input} {store : StoreState} {opened : Option OpenBody} → StoresBody old new store opened → unread store.bytes old.frames.stack.items ≡ unread_of old → Moves old new 0 [] store opened
stores_moves sets kept = grind arith

pub stores_can : {old new : Input} {piece : List ℕ} {n : ℕ} {store : StoreState} {opened : Option OpenBody} → StoresBody old new store opened → CanPass old piece n → CanPass new piece n
stores_can sets can = grind arith

pub grown_moves : {old new : Input} (more : List ℕ) {opened : Option OpenBody} → StoresBody old new (store_grown old.store more) opened → Moves old new 0 [] (store_grown old.store more) opened
grown_moves {old} more sets = stores_moves sets (unread-store_grown old.store.bytes more old.frames.stack.items old.framed)

pub same_input : {old new : Input} → new ≡ old → Moves old new 0 [] old.store old.body
same_input {old} same = subst (λ (new : Input). Moves old new 0 [] old.store old.body) (sym same) (stores_moves (record { frames = refl; at = refl; fed = refl; turns = refl; budget = refl; charged = refl; promise = refl; store_is = refl; body = refl }) refl)

module _ {old new : Input} {n : ℕ} {came : List Placed} {store : StoreState} {opened : Option OpenBody} (moved : Moves old new n came store opened) where
  pub counts_moved : {piece : List ℕ} → Reads old piece → n ≤ length (next_bytes old piece) → HasReadOn old new piece n
  counts_moved {piece} reads few =
      let small = reads.few in
      let within : new.at ≤ length piece = omega (arith, few, reads.within, length-next (position_of old) piece, moved.at) in
      grind arith

  -- the next bytes then
  pub next_moved : (piece : List ℕ) → next_bytes new piece ≡ came ++ drop n (next_bytes old piece)
  next_moved piece = grind (arith, append_assoc, drop_next)

  -- the reading state then
  pub state_moved : {S : Type 0} {g : Ghosts S} (m : Machine S g) {left : ℕ} → new.budget - new.charged ≡ left →
      reading_state_by m new ≡ record (reading_state_by m old) { machine = record (machine_of m old) { left = left; names = store.names; stored = store.stored; mode = mode_of opened }; open_body = opened; body = store.body }
  state_moved m is_left = rw (is_left, moved.store_is, moved.body) refl

pub next_same : {old new : Input} {piece : List ℕ} {byte place : ℕ} {store : StoreState} {opened : Option OpenBody} → IsNextByte old piece byte place → Moves old new 0 [] store opened → IsNextByte new piece byte place
next_same next moved = record { reads = (counts_moved moved next.reads (omega arith)).reads; rest = next.rest; is = next_moved moved _ ∙ next.is }

-- one byte after others
past_twice : (p : Position) (n : ℕ) (came : List Placed) → past (past p n []) 1 came ≡ past p (n + 1) came
past_twice p n came =
    let moved : (a : ℕ) → a + (n - length p.frames) + (1 - length (drop n p.frames)) ≡ a + (n + 1 - length p.frames) = λ a. omega (arith, length-drop n p.frames) in
    rw (drop-drop 1 n p.frames, moved p.at, moved p.place) refl

-- How far a reader has read.

pub reads_at : {S : Type 0} {g : Ghosts S} {old : Reader S g} {m m' : Machine S g} {input input' : Input} {piece : List ℕ} {n : ℕ} {came : List Placed} {store : StoreState} {opened : Option OpenBody} → ReadsTo old piece m input → Moves input input' n came store opened → n ≤ length (next_bytes input piece) → Works m m' →
    Reaches old piece (past (position_of input) n came) m'.sink (reading_state_by m' input') → ReadsTo old piece m' input'
reads_at by moved few works reaches = grind arith

-- Some or none of the next bytes were consumed, and the reading state leads on.
pub goes_by : {S : Type 0} {g : Ghosts S} {m m' : Machine S g} {input input' : Input} {piece : List ℕ} {n : ℕ} {store : StoreState} {opened : Option OpenBody} → Moves input input' n [] store opened → Reads input piece → n ≤ length (next_bytes input piece) → Works m m' →
    LeadsOn g m.sink (reading_state_by m input) m'.sink (reading_state_by m' input') (take n (next_bytes input piece)) (bytes_of (drop n (next_bytes input piece))) → Goes piece n m input m' input'
goes_by {n = n} moved reads few works leads = record { counts = counts_moved moved reads few; on = λ old by. reads_at by moved few works (reaches_on by.reaches n few leads) }

-- If nothing is read, nothing changes.
pub goes_nowhere : {S : Type 0} {g : Ghosts S} {m : Machine S g} {input : Input} {piece : List ℕ} → Reads input piece → Goes piece 0 m input m input
goes_nowhere reads = record { counts = record { reads = reads; budget = refl; promise = refl; fed = refl; turns = omega arith }; on = λ old by. by }

pub goes_less : {S : Type 0} {g : Ghosts S} {m m' : Machine S g} {input input' : Input} {piece : List ℕ} {n : ℕ} (k : ℕ) → k ≤ n → Goes piece n m input m' input' → Goes piece k m input m' input'
goes_less k few goes = let c = goes.counts in record { counts = record { reads = c.reads; budget = c.budget; promise = c.promise; fed = c.fed; turns = omega (arith, few, c.turns) }; on = goes.on }

-- one advance after another is an advance
pub goes_then : {S : Type 0} {g : Ghosts S} {m m' m'' : Machine S g} {input input' input'' : Input} {piece : List ℕ} {n k : ℕ} → Goes piece n m input m' input' → Goes piece k m' input' m'' input'' → Goes piece n m input m'' input''
goes_then {n = n} first later = record { counts = counts_then n (omega arith) first.counts later.counts; on = λ old by. later.on old (first.on old by) }

-- A reader had advanced before it was refused.
pub stops_then : {S : Type 0} {g : Ghosts S} {m m' m'' : Machine S g} {input input' input'' : Input} {piece : List ℕ} → ReadsFurther piece m input m' input' → StopsFrom piece m' input' m'' input'' → StopsFrom piece m input m'' input''
stops_then goes stops = (stops.0, stops.1, λ old by. stops.2 old (goes old by))

-- What a reader lacks memory for.

pub other_lacks : {S : Type 0} {g : Ghosts S} {m : Machine S g} {input : Input} {piece : List ℕ} {fault : Fault} → fault ≢ Memory → LacksFrom piece m input fault
other_lacks other short = absurd (other short)

-- the promise is exceeded once this much is charged
pub overcharged : {S : Type 0} {g : Ghosts S} {old : Reader S g} {piece : List ℕ} {m : Machine S g} {input : Input} {p : Position} {t : S} {h : ReadingState} {stored charged : ℕ} → ReadsTo old piece m input → Reaches old piece p t h →
    h.machine.left + charged ≤ input.budget → Exceeds input.store.promise stored charged → stored ≤ store_limit → HasMemory old → Overcharges old piece
overcharged {old = old} by there left exceeds few memory s q had_read = elim exceeds [
  | inl less ↦ absurd (omega (arith, less, few, memory.1, ap (λ (promise : Promise). promise.stored) by.counts.promise))
  | inr less ↦ omega (arith, less, left, reaches_left there s q had_read, by.counts.budget, ap (λ (promise : Promise). promise.charged) by.counts.promise)
]

-- memory is lacking for bytes of a body, up to which nothing was charged
pub keep_lacks : {S : Type 0} {g : Ghosts S} {m : Machine S g} {input : Input} {piece : List ℕ} {fault : Fault} (mid : Input) (stored : ℕ) → mid.store.promise ≡ input.store.promise → mid.charged ≡ input.charged →
    Exceeds mid.store.promise stored mid.charged → stored ≤ store_limit → LacksFrom piece m input fault
keep_lacks {input = input} mid stored same charged exceeds few short old by memory =
    overcharged by by.reaches (omega (arith, input.within)) (rw (same, charged) at exceeds) few memory

-- The stream is refused at the byte with this index, or reading breaks there.
pub stops_from : {S : Type 0} {g : Ghosts S} {m m' : Machine S g} {input after : Input} {piece : List ℕ} {index : ℕ} {r : Refusal} {store : StoreState} {opened : Option OpenBody} → Lawful g → m'.refusal ≡ Some r → FaultMatchesSink g m.sink m'.sink r.fault → LacksFrom piece m input r.fault →
    Moves input after (index + 1) [] store opened → Stops g m.sink (reading_state_by m input) (next_bytes input piece) index m'.sink r → StopsFrom piece m input m' after
stops_from {g = g} {m' = m'} {after = after} {r = r} laws is tells lacks moved stops = (
  r,
  is,
  λ old by. record {
    budget = moved.budget ∙ by.counts.budget;
    turns = omega (arith, by.counts.turns, moved.turns);
    tells = (tells.0, λ working fails. tells.1 (by.works.clear working) fails);
    lacks = λ short memory. lacks short old by memory;
    stops = λ rested agrees.
        stops_reached by.reaches laws (record { machine = m'; input = after; rested = rested; agrees = agrees }) (omega (arith, moved.budget, moved.charged)) stops (omega (arith, moved.fed, by.counts.fed));
  },
)

-- The next byte is refused, or memory is lacking for it.
pub byte_stops : {S : Type 0} {g : Ghosts S} {m m' : Machine S g} {input after : Input} {piece : List ℕ} {byte place : ℕ} {r : Refusal} {store : StoreState} {opened : Option OpenBody} → Lawful g → IsNextByte input piece byte place →
    m'.refusal ≡ Some r → m'.sink ≡ m.sink → r.fault ≢ Sink → LacksFrom piece m input r.fault → Moves input after 1 [] store opened → StopsByte g m.sink [] (reading_state_by m input) (placed_at byte place) m.sink r → StopsFrom piece m input m' after
byte_stops {S} {g} {m} {m'} {input} {piece = piece} {byte = byte} {place = place} {r = r} laws next is sink other lacks moved stops =
    stops_from {index = 0} laws is (subst (λ (t : S). FaultMatchesSink g m.sink t r.fault) (sym sink) (own_tells g m.sink other)) lacks moved
    (stops_now next.is (subst (λ (t : S). StopsByte g m.sink [] (reading_state_by m input) (placed_at byte place) t r) (sym sink) stops))

pub own_is : {fault : Fault} → fault ≡ Budget → fault ≢ Memory
own_is is short = let bad : Budget ≡ Memory = sym is ∙ short in cc

-- the fault of a body that can't be presented isn't the sink's
pub own_fault : {mid after : Input} {bytes : List ℕ} {fault : Fault} → CannotShow mid after bytes fault → fault ≢ Sink
own_fault {fault = fault} cannot is = grind arith

-- All of the piece was consumed.
pub takes_piece : {S : Type 0} {g : Ghosts S} (old new : Reader S g) (piece : List ℕ) → ReadsTo old piece new.machine new.input → next_bytes new.input piece ≡ [] → (s : S) (p : List ℕ) → HasRead old s p → HasRead new s (p ++ piece)
takes_piece {S} {g} old new piece by empty s p had_read =
    let input = new.input in
    let leads = by.reaches.leads in
    let gone : length (unread_of input) + (length piece - input.at) ≡ 0 = sym (length-next (position_of input) piece) ∙ ap (λ (xs : List Placed). length xs) empty in
    let all : take input.at piece ≡ piece = take_all input.at piece (omega (arith, gone)) in
    let none = nil_from_length (unread_of input) (omega (arith, gone)) in
    let (sink, same) = by.reaches.acted.none (ap bytes_of empty) in
    let fed = by.counts.fed in
    let within = by.counts.reads.within in
    let known : Continues g s (begun (budget_of old) (p ++ piece)) by.reaches.sink by.reaches.holding [] = rw (all, none) at (leads.known s p had_read) in
    has_read_by new s (p ++ piece) by.works.live.live (omega (arith, fed, within, gone, had_read.fed leads.live, length-append p piece))
    (subst (λ (n : ℕ). Continues g s (begun n (p ++ piece)) (sink_of new) (reading_state new) []) (sym by.counts.budget) (rw (same, sink) known))

-- A reader is at its begin.
pub begins_piece : {S : Type 0} {g : Ghosts S} {piece : List ℕ} (old : Reader S g) → IsLive old.machine → old.input.frames.stack.items ≡ [] → length piece < 2 ^ 63 → old.input.fed + length piece < 2 ^ 63 → ReadsTo old piece old.machine (record old.input { at = 0 })
begins_piece {g = g} old live none small few =
    let empty : unread_of old.input ≡ [] = ap (unread old.input.store.bytes) none in
    record {
      counts = record { reads = record { within = omega arith; small = small; few = omega (arith, few) }; budget = refl; promise = refl; fed = refl; turns = omega arith };
      works = record { live = live; clear = λ working. working; spares = λ spared. spared };
      reaches = record {
        sink = sink_of old;
        holding = reading_state old;
        leads = record {
          live = live.live;
          within = omega arith;
          placed = omega arith;
          known = λ s p had_read. rw (append-nil p, empty) (had_read.continues live.live);
          amid = λ some. absurd (omega (arith, some, ap (λ (xs : List Placed). length xs) empty));
        };
        acted = as_it_was refl refl;
      };
    }

-- If no byte comes next, no body is being read.
pub comes_rested : (input : Input) (piece : List ℕ) → next_bytes input piece ≡ [] → input.frames.stack.items ≡ []
comes_rested input piece empty =
    nil_from_length input.frames.stack.items (omega (arith, frames-unread input.store.bytes input.frames.stack.items input.framed, ap (λ (xs : List Placed). length xs) empty, length-next (position_of input) piece))

-- the property of a result, if no refusal is kept
pub unrefused : {A E P : Type 0} (r : Result A E) (refusal : Option Refusal) → OnOk r P → ((e : E) → r ≡ Err e → IsSome refusal) → refusal ≡ None → P
unrefused r refusal h k e = grind arith

-- One iteration of the loop.

module _ {S : Type 0} {g : Ghosts S} {from now : Machine S g} {input : Input} {piece : List ℕ} {count place : ℕ} {request : Request} (turn : TakesSlice from now input piece count request place) where
  in_slice : count ≤ length turn.text
  in_slice = omega (arith, turn.takes.within, length-placed_by_step turn.first turn.step turn.text)

  turn_few : count ≤ length (next_bytes input piece)
  turn_few = omega (arith, in_slice, can_few turn.next.passes)

  -- the machine's step, by reading states
  pub turn_takes : TakesBy g from.sink (reading_state_by from input) now.sink (reading_state_by now input) (next_bytes input piece) count now.refusal request
  turn_takes =
      subst (λ (xs : List Placed). TakesBy g from.sink (reading_state_by from input) now.sink (reading_state_by now input) xs count now.refusal request) (sym turn.next.is)
      (turn.takes.by (reading_state_by from input) turn.next.more turn.between refl turn.next.over)

  -- The bytes of the step can be passed.
  pub turn_passes : CanAdvance input count
  turn_passes = (piece, can_less count in_slice turn.next.passes)

  -- They were passed.
  pub turn_counts : {after : Input} {came : List Placed} {store : StoreState} {opened : Option OpenBody} → Moves input after count came store opened → HasReadOn input after piece count
  turn_counts moved = counts_moved moved turn.reads turn_few

  -- The reader has advanced.
  pub turn_goes : {after : Input} {store : StoreState} {opened : Option OpenBody} → Moves input after count [] store opened →
      LeadsOn g from.sink (reading_state_by from input) now.sink (state_after_request (reading_state_by now input) request) (take count (next_bytes input piece)) (bytes_of (drop count (next_bytes input piece))) →
      record (reading_state_by now input) { machine = record (machine_of now input) { names = store.names; stored = store.stored; mode = mode_of opened }; open_body = opened; body = store.body } ≡ state_after_request (reading_state_by now input) request →
      Works from now → Goes piece count from input now after
  turn_goes moved leads same works = goes_by moved turn.reads turn_few works (rw (state_moved moved now (omega (arith, moved.budget, moved.charged)) ∙ same) leads)

  -- The stream is refused at the byte after the consumed ones, or reading breaks there.
  pub turn_stops : {after : Input} {r : Refusal} {store : StoreState} {opened : Option OpenBody} → Lawful g → Moves input after (count + 1) [] store opened → Latches from now → now.refusal ≡ Some r →
      Stops g from.sink (reading_state_by from input) (next_bytes input piece) count now.sink r → StopsFrom piece from input now after
  turn_stops {r = r} laws moved latches is stops =
      let same : latches.why ≡ r = let both : Some latches.why ≡ Some r = sym latches.is ∙ is in cc in
      stops_from laws is (subst (λ (r : Refusal). FaultMatchesSink g from.sink now.sink r.fault) same latches.tells)
      (λ short old by memory. absurd (latches.spares (by.works.spares memory.0) (ap (λ (r : Refusal). r.fault) same ∙ short))) moved stops

  -- the byte at the stop can be passed
  pub stop_passes : {mid : Input} {u : S} {r : Refusal} {store : StoreState} {opened : Option OpenBody} → Moves input mid count [] store opened → Stops g from.sink (reading_state_by from input) (next_bytes input piece) count u r → CanAdvance mid 1
  stop_passes {mid} {u} {r} moved stops =
      (piece, can_next (turn_counts moved).reads (omega (arith, ap (λ (xs : List Placed). length xs) (next_moved moved piece), ap (λ (xs : List Placed). length xs) stops.is)))

-- A macro is called.

-- a body comes next, once other bytes were passed
pub call_moved : {old mid new : Input} {n : ℕ} (name place : ℕ) → Moves old mid n [] old.store old.body → Moves mid new 0 (all_at place (body_of mid.store.names name)) mid.store mid.body → Moves old new n (all_at place (body_of old.store.names name)) old.store old.body
call_moved {old} {mid} {new} {n} name place adv shows = grind arith

-- nothing is pending, whatever the budget left
still_pending : (h : ReadingState) (n : ℕ) → h.open_body ≡ None → h.open_run ≡ None → ArePending [] h → ArePending [] (record h { machine = record h.machine { left = n } })
still_pending h n between closed retained = grind arith

module _ {S : Type 0} {g : Ghosts S} {from now : Machine S g} {input : Input} {piece : List ℕ} {count place : ℕ} {request : Request} (turn : TakesSlice from now input piece count request place)
    {index name : ℕ} (counted : count ≡ index + 1) (calls : Calls g from.sink (reading_state_by from input) now.sink (reading_state_by now input) (next_bytes input piece) index name) where
  abbrev all : List Placed
  all = next_bytes input piece

  abbrev bytes : List ℕ
  bytes = body_of input.store.names name

  abbrev x : Placed
  x = calls.byte

  long : index < length all
  long = omega (arith, ap (λ (xs : List Placed). length xs) calls.is, length-drop index all)

  -- the place of the call is that of its last byte
  place_is : place ≡ x.place
  place_is =
      let slice = placed_by_step turn.first turn.step turn.text in
      turn.last (omega (arith, counted)) ∙ ap (place_at slice) (let e : count - 1 ≡ index = omega (arith, counted) in e)
      ∙ sym (place_at-append slice turn.next.more index (omega (arith, turn.takes.within, counted))) ∙ ap (λ (ys : List Placed). place_at ys index) (sym turn.next.is)
      ∙ ap (place_at all) (let e : index ≡ index + 0 = omega arith in e) ∙ sym (place_at-drop all index 0) ∙ ap (λ (ys : List Placed). place_at ys 0) calls.is

  calls_it : (n : ℕ) (rest pending : List Placed) → ArePending rest calls.holding →
      (stream_front calls.holding.machine (rest ++ x ∷ pending) ≡ shown_front (reading_state_by now input).machine x.place bytes pending) × ArePending [] (record (reading_state_by now input) { machine = record (reading_state_by now input).machine { left = n } })
  calls_it n rest pending pends = (calls.front_is rest pending pends, still_pending (reading_state_by now input) n turn.between calls.rested (calls.still rest pends))

  -- The call leads to its body.
  call_reaches : {old : Reader S g} → ReadsTo old piece from input → length bytes ≤ (reading_state_by now input).machine.left → (h' : ReadingState) →
      h' ≡ record (reading_state_by now input) { machine = after_charge (reading_state_by now input).machine (length bytes) } → Reaches old piece (past (past (position_of input) index []) 1 (all_at x.place bytes)) now.sink h'
  call_reaches by few h' retained =
      let m = (reading_state_by now input).machine in
      let came = all_at x.place bytes in
      let passes : Passes g now.sink calls.holding (x ∷ []) now.sink h' came =
      λ s o pending c.
      let (shows_it, pends) = calls_it (m.left - length bytes) c.rest pending c.retained in
      leads_shown c m x.place bytes pending shows_it few h' (ap (λ (h : ReadingState). h.machine) retained) (subst (ArePending []) (sym retained) pends) in
      let there = reaches_on by.reaches index (omega (arith, long)) calls.leads in
      reaches_called there came (sym (drop_next (unread_of input) input.fed input.at index piece) ∙ calls.is) passes (omega (arith, calls.left, few, ap (λ (h : ReadingState). h.machine.left) retained, length-all_at x.place bytes))
      (All-map (λ (y : Placed). y.place ≡ x.place) (λ (b : ℕ). placed_at b x.place) bytes (λ i d less. refl)) (ap (λ (h : ReadingState). h.open_run) retained ∙ calls.rested)

  -- The body of the call comes next.
  pub call_goes : {after : Input} → Works from now → Moves input after count (all_at place bytes) input.store input.body → Goes piece count from input now after
  call_goes {after} works moved = record {
    counts = turn_counts turn moved;
    on = λ old by.
        let m = (reading_state_by now input).machine in
        let few : length bytes ≤ m.left = omega (arith, after.within, moved.budget, moved.charged, length-all_at place bytes) in
        let retained : reading_state_by now after ≡ record (reading_state_by now input) { machine = after_charge m (length bytes) } = state_moved moved now (omega (arith, moved.budget, moved.charged, length-all_at place bytes)) in
        let here = call_reaches by few (reading_state_by now after) retained in
        reads_at by moved (turn_few turn) works
        (subst (λ (p : Position). Reaches old piece p now.sink (reading_state_by now after)) (past_twice (position_of input) index (all_at x.place bytes) ∙ ap₂ (λ (n m : ℕ). past (position_of input) n (all_at m bytes)) (sym counted) (sym place_is)) here);
  }

  -- The body of the call can't be charged, or memory is lacking for it.
  pub call_refuses : {mid after : Input} {fault : Fault} {m' : Machine S g} → Lawful g → Works from now → Moves input mid count [] input.store input.body → CannotShow mid after (body_of mid.store.names name) fault →
      m'.refusal ≡ Some (refusal fault place) → m'.sink ≡ now.sink → StopsFrom piece from input m' after
  call_refuses {mid} {after} {fault} {m'} laws works adv cannot is sink =
      let m = (reading_state_by now input).machine in
      let reason = subst (λ (store : StoreState). ((fault ≡ Budget) × (mid.budget - mid.charged < length (body_of store.names name))) ⊎ ((fault ≡ Memory) × (0 < length (body_of store.names name)) × (length (body_of store.names name) ≤ mid.budget - mid.charged))) adv.store_is cannot.reason in
      let stops : StopsByte g now.sink [] calls.holding x now.sink (refusal fault place) =
      subst (λ (n : ℕ). StopsByte g now.sink [] calls.holding x now.sink (refusal fault n)) (sym place_is)
      (cannot_stops m bytes (record (reading_state_by now input) { machine = after_charge m (length bytes) }) (omega (arith, adv.budget, adv.charged)) (sym calls.left) (λ _. calls.closed) refl (calls_it (m.left - length bytes)) reason) in
      let stopped : Stops g from.sink (reading_state_by from input) all index now.sink (refusal fault place) =
      subst (λ (n : ℕ). Stops g from.sink (reading_state_by from input) all n now.sink (refusal fault place)) (let e : index + 0 ≡ index = omega arith in e) (stops_after all index calls.leads 0 (stops_now calls.is stops)) in
      let lacks : LacksFrom piece from input fault =
      λ short old by memory.
      let few : length bytes ≤ mid.budget - mid.charged = elim reason [
        | inl budget ↦ absurd (own_is budget.0 short)
        | inr none ↦ none.2
      ] in
      let many = ap (λ (store : StoreState). length (body_of store.names name)) adv.store_is in
      overcharged by (call_reaches by (omega (arith, few, adv.budget, adv.charged)) _ refl) (omega (arith, few, many, input.within, adv.budget, adv.charged)) (rw adv.promise at (cannot.lacks short)) mid.few memory in
      stops_from laws is (λ device. absurd (own_fault cannot device), λ working fails. absurd (false≢true (sym (works.clear working) ∙ ap g.failed (sym sink) ∙ fails))) lacks
      (moves_then (index + 1) (omega (arith, counted)) adv (stores_moves cannot.still refl) refl refl) (rw sink stopped)

-- The loop.

-- the bytes that a machine consumed of the next slice
pub turn_is : {S : Type 0} {g : Ghosts S} {from now : Machine S g} {input : Input} {piece text : List ℕ} {first step place count : ℕ} {ended : Bool} {request : Request} → Reads input piece → (input.body ≡ None) ⊎ (next_bytes input piece ≡ []) → IsNextText input piece first step text ended →
    TakesUnder input.store.names from now (placed_by_step first step text) ended count request → place ≡ first + step * (count - 1) → TakesSlice from now input piece count request place
turn_is {piece = piece} {text = text} {first = first} {step = step} {place = place} {count = count} {ended = ended} reads ends next takes is = record {
  reads = reads;
  between = elim ends [
    | inl none ↦ none
    | inr empty ↦ absurd (omega (arith, next.some, can_few next.passes, ap (λ (xs : List Placed). length xs) empty))
  ];
  first = first;
  step = step;
  text = text;
  ended = ended;
  next = next;
  takes = takes;
  last = λ some. is ∙ sym (place_at-placed_by_step first step text (count - 1) (omega (arith, some, takes.within, length-placed_by_step first step text)));
}

-- some bytes were consumed, or the open run is over
pub turn_less : {S : Type 0} {g : Ghosts S} (from now new : Machine S g) {count : ℕ} {request : Request} → Progresses from now count request → request ≢ Stop → (now.open_run ≡ None → new.open_run ≡ None) → (0 < count) ⊎ ((new.open_run ≡ None) × (from.open_run ≢ None))
turn_less from now new h k e = grind arith
