use Rattle.std.specs.Prelude.{All, Bool, List, None, Some, [], length, slice_index, take, ℕ, ◌++◌, ◌+◌, ◌-◌, ◌<◌, ◌∷◌, ◌≡◌, ◌≤◌}
use Rattle.nap_reader.specs.{Names.ForNone, Names.StatesAgree, declared.machine.Machine.Machine, declared.machine.Request.Request}
use Rattle.nap_reader.specs.Shared.{Continues, Fault, Ghosts, Memory, store_limit, ReadingState, Input, Placed, Reader, Refusal, RunAt, begun, bytes_of, reading_state_by, place_at, placed_at, placed_by_step, Entry, Outcome, Owes}
use Rattle.nap_reader.specs.NextBytes.{HasReadOn, IsNextText, Position, Reads, bytes_from, position_of, promise_after}
use Rattle.nap_reader.specs.ReaderAnswers.{HasRead, StopsAt, budget_of, fed_of, refusal_of, sink_of, turns_of}
use Rattle.nap_reader.specs.Steps.{Acted, FaultMatchesSink, HasRunMemory, IsSpared, TakesUnder, Works}

-- How a piece is read. No caller sees these definitions.

-- Which bytes of a piece were consumed.

-- The byte with this index called or presented a body, which is read in part: the sink and the pending bytes before the
-- byte, and what led on since. All bytes of bodies have the place of the byte, and so has an open run.
pub record AmidCall {S : Type 0} {g : Ghosts S} (old : Reader S g) (piece : List ℕ) (i : ℕ) (t : S) (owed : List Entry) (h : ReadingState) (frames : List Placed) : Type 0 where
  pub sink : S
  pub holding : ReadingState
  pub before : (s : S) (p : List ℕ) → HasRead old s p → Continues g s (begun (budget_of old) (p ++ take i piece)) sink holding []
  pub since : (s : S) (o : Outcome) (pending : List Placed) → Continues g s o sink holding (placed_at (slice_index piece i) (fed_of old + i) ∷ pending) →
      Owes g s o t owed h (frames ++ pending)
  pub less : h.machine.left < holding.machine.left
  pub there : All (λ (x : Placed). x.place ≡ fed_of old + i) frames
  pub run : RunAt (fed_of old + i) h.open_run

-- The bytes of a piece before this position were consumed, the last of them perhaps in part: what is known of them, with
-- the sink, what it is owed, and the pending bytes.
pub record LeadsTo {S : Type 0} {g : Ghosts S} (old : Reader S g) (piece : List ℕ) (p : Position) (t : S) (owed : List Entry) (h : ReadingState) : Type 0 where
  pub live : refusal_of old ≡ None
  pub within : p.at ≤ length piece
  pub placed : p.place ≡ fed_of old + p.at
  pub known : (s : S) (q : List ℕ) → HasRead old s q → Owes g s (begun (budget_of old) (q ++ take p.at piece)) t owed h p.frames
  pub amid : 0 < length p.frames → (i : ℕ) × (p.at ≡ i + 1) × AmidCall old piece i t owed h p.frames

-- The bytes before the position lead to this sink and to these pending bytes; the opcode of the run that they end with
-- may have acted.
pub record Reaches {S : Type 0} {g : Ghosts S} (old : Reader S g) (piece : List ℕ) (p : Position) (t : S) (h : ReadingState) : Type 0 where
  pub sink : S
  pub holding : ReadingState
  pub leads : LeadsTo old piece p sink [] holding
  pub acted : Acted g sink holding t h (bytes_of (bytes_from p piece))

-- The invariant of the loop: a reader has read the piece up to this position.
pub record ReadsTo {S : Type 0} {g : Ghosts S} (old : Reader S g) (piece : List ℕ) (machine : Machine S g) (input : Input) : Type 0 where
  pub counts : HasReadOn (record old.input { at = 0 }) input piece 0
  pub works : Works old.machine machine
  pub reaches : Reaches old piece (position_of input) machine.sink (reading_state_by machine input)

-- A reader that had read the piece up to some position has read it further.
abbrev pub ReadsFurther : {S : Type 0} {g : Ghosts S} → List ℕ → Machine S g → Input → Machine S g → Input → Type 0
ReadsFurther {S} {g} piece machine input machine' input' = (old : Reader S g) → ReadsTo old piece machine input → ReadsTo old piece machine' input'

-- A reader that had read the piece up to some position has read at least `count` bytes more.
pub record Goes {S : Type 0} {g : Ghosts S} (piece : List ℕ) (count : ℕ) (machine : Machine S g) (input : Input) (machine' : Machine S g) (input' : Input) : Type 0 where
  pub counts : HasReadOn input input' piece count
  pub on : ReadsFurther piece machine input machine' input'

-- A reader has memory for any run and for all bodies.
abbrev pub HasMemory : {S : Type 0} {g : Ghosts S} → Reader S g → Type 0
HasMemory reader = IsSpared reader.machine × (store_limit ≤ reader.input.store.promise.stored)

-- More is charged up to the end of the piece than a reader was promised memory for.
abbrev pub Overcharges : {S : Type 0} {g : Ghosts S} → Reader S g → List ℕ → Type 0
Overcharges {S} reader piece = (s : S) (p : List ℕ) → HasRead reader s p →
    reader.input.store.promise.charged + (begun (budget_of reader) (p ++ piece)).machine.left < budget_of reader

-- Memory may be lacking for a piece that a reader had read up to some position, only if it charges more than was promised.
abbrev pub LacksFrom : {S : Type 0} {g : Ghosts S} → List ℕ → Machine S g → Input → Fault → Type 0
LacksFrom {S} {g} piece machine input fault = fault ≡ Memory → (old : Reader S g) → ReadsTo old piece machine input → HasMemory old → Overcharges old piece

-- The stream was refused at a byte of the piece, or reading broke there.
pub record RefusesPiece {S : Type 0} {g : Ghosts S} (old : Reader S g) (piece : List ℕ) (machine : Machine S g) (input : Input) (r : Refusal) : Type 0 where
  pub budget : input.budget ≡ budget_of old
  pub turns : turns_of old ≤ input.turns
  pub tells : FaultMatchesSink g (sink_of old) machine.sink r.fault
  pub lacks : r.fault ≡ Memory → HasMemory old → Overcharges old piece
  pub stops : (rested : ForNone machine.refusal (input.frames.stack.items ≡ [])) (agrees : ForNone machine.refusal (StatesAgree machine.work.state (g.state machine.sink))) →
      (i : ℕ) × StopsAt old (record { machine = machine; input = input; rested = rested; agrees = agrees }) piece r i

-- Reading stopped; if the reader had read the piece up to some position, it stopped at a byte of the piece.
abbrev pub StopsFrom : {S : Type 0} {g : Ghosts S} → List ℕ → Machine S g → Input → Machine S g → Input → Type 0
StopsFrom {S} {g} piece machine input machine' input' =
    (r : Refusal) × (machine'.refusal ≡ Some r) × ((old : Reader S g) → ReadsTo old piece machine input → RefusesPiece old piece machine' input' r)

-- The machine consumed bytes of the next slice, the last of them at this place, while no body was open.
pub record TakesSlice {S : Type 0} {g : Ghosts S} (old now : Machine S g) (input : Input) (piece : List ℕ) (count : ℕ) (request : Request) (place : ℕ) : Type 0 where
  pub reads : Reads input piece
  pub between : input.body ≡ None
  pub first : ℕ
  pub step : ℕ
  pub text : List ℕ
  pub ended : Bool
  pub next : IsNextText input piece first step text ended
  pub takes : TakesUnder input.store.names old now (placed_by_step first step text) ended count request
  pub last : 0 < count → place ≡ place_at (placed_by_step first step text) (count - 1)

-- A reader has memory for another reading of the stream that the first one has read.
pub record HasMemoryOf {S T : Type 0} {g : Ghosts S} {h : Ghosts T} (first : Reader S g) (next : Reader T h) : Type 0 where
  pub machine : HasRunMemory next.machine
  pub promise : next.input.store.promise ≡ promise_after first.input
