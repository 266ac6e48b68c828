use Rattle.std.specs.Prelude.{All, Bool, List, None, Ok, Option, Some, [], drop, false, get_or, if◌then◌else◌, length, slice_index, take, true, vec_capacity, ℕ, ⊤, ◌*◌, ◌++◌, ◌+◌, ◌<◌, ◌∷◌, ◌≡◌, ◌≢◌, ◌≤◌, ◌⊎◌}
use Rattle.nap_reader.specs.{Names.Code, Names.IsShift, Names.State, Names.StatesAgree, declared.machine.Machine.Machine, declared.machine.Request.Request, declared.machine.codes.FrontCode.FrontCode, declared.machine.codes.CodeOutcome.CodeOutcome, Carried.AllCharacters}
use Rattle.nap_reader.specs.Shared.{run_limit, CharSet, CodeSets, Continues, DrawFault, RuleResult, DrawsBy, Entry, Fault, Ghosts, ReadingState, IsDrawn, IsGraphic, ArePending, IsOwn, IsRefused, IsTextByte, LexerState, Memory, NeverWants, Opcode, OpenBody, OpenRun, Outcome, Placed, Refusal, RunAt, Sink, after_drawing, body_of, bytes_of, cause_of, draw_fault, stream_front, in_body, is_operand, is_operand_byte, no_names, place_at, placed_at, placed_by_step, refusal, rule, run_by, shown_front, stream, Cause, Ends, Owes, begun, device, kept_list, memory, with_run}
use Rattle.nap_codes.specs.Front as codes
use Rattle.nap_draw.specs.Draws as draws
use Rattle.nap_list.specs.Putting as put

-- What a reader does with the next bytes. No caller sees these definitions.

-- Bytes were consumed, and then others come next instead. A sink that was t is u then.
abbrev pub Passes : {S : Type 0} → Ghosts S → S → ReadingState → List Placed → S → ReadingState → List Placed → Type 0
Passes {S} g t h xs u h' came = (s : S) (o : Outcome) (pending : List Placed) → Continues g s o t h (xs ++ pending) → Continues g s o u h' (came ++ pending)

-- The opcode of the open run.

-- The opcode of the open run acts on its words.
pub record ActsRun {S : Type 0} (g : Ghosts S) (t : S) (h : ReadingState) (u : S) (h' : ReadingState) : Type 0 where
  pub open_run : OpenRun
  pub between : h.open_body ≡ None
  pub is : h.open_run ≡ Some open_run
  pub drawn : RuleResult
  pub by : rule h.machine.work open_run.op h.run ≡ Ok drawn
  pub took : g.took t drawn.entries u
  pub clear : g.failed t ≡ false → g.failed u ≡ false
  pub holds : h' ≡ record h { machine = after_drawing h.machine drawn; open_run = None; run = [] }

-- The opcode of the open run is refused, or not all of its entries could be put.
pub record StopsRun {S : Type 0} (g : Ghosts S) (t : S) (h : ReadingState) (u : S) (r : Refusal) : Type 0 where
  pub open_run : OpenRun
  pub between : h.open_body ≡ None
  pub is : h.open_run ≡ Some open_run
  pub fault : DrawFault
  pub why : r ≡ refusal (draw_fault fault) open_run.place
  pub drew : DrawsBy g.took g.broke g.failed (rule h.machine.work open_run.op h.run) t u fault (draws.draw_cause fault)

-- How reading breaks.

-- a sink that was t took what it was owed and a part of the entries, or one of them broke; or it took nothing, and was
-- owed nothing
abbrev pub TakesSome : {S : Type 0} → Ghosts S → S → List Entry → List Entry → S → Cause → Type 0
TakesSome g t owed es u stream = ⊥
TakesSome g t owed es u memory = ((u ≡ t) × (owed ≡ [])) ⊎ put.StopsAmid (λ t es u. g.took t (owed ++ es) u) t es u
TakesSome g t owed es u device = ((g.failed t ≡ true) × (u ≡ t) × (owed ≡ [])) ⊎ put.BreaksAmid (λ t es e u. g.broke t (owed ++ es) e u) t es u

-- the byte is a word of the open run, or comes while a body is open
abbrev pub GrowsOpen : ReadingState → Placed → Type 0
GrowsOpen h x = ((open_run : OpenRun) × (h.open_body ≡ None) × (h.open_run ≡ Some open_run) × (is_operand x ≡ true)) ⊎ ((body : OpenBody) × (h.open_body ≡ Some body))

-- The reader itself may lack memory for a byte after which these bytes come next: a body is charged, or what is open
-- grows.
abbrev pub LacksOwn : ReadingState → Placed → ReadingState → List Placed → Type 0
LacksOwn h x after came = (after.machine.left < h.machine.left) ⊎ ((came ≡ []) × GrowsOpen h x)

-- Reading breaks at the place of a byte, where a list would take all entries that it adds, and these bytes would come
-- next: the reader itself lacks memory; or there are such entries, for which the sink may lack it.
pub record BreaksHere {S : Type 0} (g : Ghosts S) (t : S) (owed : List Entry) (h : ReadingState) (x : Placed) (u : S) (r : Refusal) : Type 0 where
  pub place : r.place ≡ x.place
  pub adds : List Entry
  pub after : ReadingState
  pub came : List Placed
  pub passes : (known : List Entry) → Passes kept_list known h (x ∷ []) (known ++ adds) after came
  pub part : TakesSome g t owed adds u (cause_of r.fault)
  pub why : LacksOwn h x after came ⊎ ((came ≡ []) × (adds ≢ []) × (cause_of r.fault ≡ memory → g.wants t (owed ++ adds)))

-- Reading breaks at a byte: in the opcode whose run the byte ends; or at its own place, after such a run or not.
pub data Breaks {S : Type 0} (g : Ghosts S) (t : S) (owed : List Entry) (h : ReadingState) (x : Placed) (u : S) (r : Refusal) : Type 0 where
  in_run : owed ≡ [] → is_operand x ≡ false → StopsRun g t h u r → Breaks g t owed h x u r
  at_byte : (is_operand x ≡ true) ⊎ (h.open_body ≡ None → h.open_run ≡ None) → BreaksHere g t owed h x u r → Breaks g t owed h x u r
  after_run : owed ≡ [] → (v : S) (h' : ReadingState) → is_operand x ≡ false → ActsRun g t h v h' → BreaksHere g v [] h' x u r → Breaks g t owed h x u r

-- The stream is refused at a byte, or reading breaks at it.
pub record StopsByte {S : Type 0} (g : Ghosts S) (t : S) (owed : List Entry) (h : ReadingState) (x : Placed) (u : S) (r : Refusal) : Type 0 where
  pub own : IsOwn r → (s : S) (o : Outcome) (pending : List Placed) → Owes g s o t owed h (x ∷ pending) → IsRefused g s o u h r
  pub broke : cause_of r.fault ≢ stream → Breaks g t owed h x u r

-- The sink and the pending bytes are unchanged; or, before the byte that ends it, the opcode of the open run has acted
-- or the open body is bound. That byte is the first of these, which come next: what is known of it and of the state
-- after this is known of the state before.
pub record Acted {S : Type 0} (g : Ghosts S) (t : S) (h : ReadingState) (u : S) (h' : ReadingState) (next : List ℕ) : Type 0 where
  pub passes : (x : Placed) (bs : List ℕ) → next ≡ x.byte ∷ bs → (s : S) (o : Outcome) (pending : List Placed) → Continues g s o t h (x ∷ pending) → Continues g s o u h' (x ∷ pending)
  pub stops : (x : Placed) (bs : List ℕ) → next ≡ x.byte ∷ bs → (v : S) (r : Refusal) → StopsByte g u [] h' x v r → StopsByte g t [] h x v r
  pub left : h'.machine.left ≡ h.machine.left
  pub run : (n : ℕ) → RunAt n h.open_run → RunAt n h'.open_run
  pub none : next ≡ [] → (u ≡ t) × (h' ≡ h)

-- The bytes are characters, or format effectors among them, and nothing is pending before them.
pub record IsText (h : ReadingState) (set : CharSet) (text : List ℕ) : Type 0 where
  pub between : h.open_body ≡ None
  pub closed : h.open_run ≡ None
  pub rested : h.half ≡ []
  pub chars : AllCharacters h.machine.sets set
  pub typed : All IsTextByte text

-- The next bytes.

-- What consumed bytes lead to: a sink, the entries that it is owed, and pending bytes. A run that is open there has the
-- place of these bytes, or of the run that was open before them.
pub record LeadsThrough {S : Type 0} (g : Ghosts S) (t : S) (h : ReadingState) (owed : List Entry) (xs : List Placed) : Type 0 where
  pub sink : S
  pub holding : ReadingState
  pub left : holding.machine.left ≡ h.machine.left
  pub run : (n : ℕ) → All (λ (x : Placed). x.place ≡ n) xs → RunAt n h.open_run → RunAt n holding.open_run
  pub passes : (s : S) (o : Outcome) (pending : List Placed) → Continues g s o t h (xs ++ pending) → Owes g s o sink owed holding pending
  pub none : xs ≡ [] → (sink ≡ t) × (holding ≡ h) × (owed ≡ [])

-- The bytes were consumed, and others come next. The opcode of a run that they end with may have acted.
pub record LeadsOn {S : Type 0} (g : Ghosts S) (t : S) (h : ReadingState) (u : S) (h' : ReadingState) (xs : List Placed) (next : List ℕ) : Type 0 where
  pub conveys : LeadsThrough g t h [] xs
  pub acted : Acted g conveys.sink conveys.holding u h' next

-- The first byte is no operand byte.
pub record IsOver (bytes : List ℕ) : Type 0 where
  pub byte : ℕ
  pub rest : List ℕ
  pub is : bytes ≡ byte ∷ rest
  pub other : is_operand_byte byte ≡ false

-- The run is all operand bytes of a prefix, and another byte comes after it, which may be the first of those after the
-- slice.
pub record IsWholeRun (bytes bytes_after run : List ℕ) : Type 0 where
  pub within : length run ≤ length bytes
  pub operands : All (λ b. is_operand_byte b ≡ true) run
  pub rest : List ℕ
  pub front : bytes ++ bytes_after ≡ run ++ rest
  pub over : IsOver rest

-- What a machine does with the bytes of a slice and those after it.

-- the reading state with this machine, otherwise unchanged
abbrev pub with_machine : {S : Type 0} {g : Ghosts S} → ReadingState → Machine S g → ReadingState
with_machine h m = record h {
  machine = record h.machine { work = m.work; sets = m.lexer.sets };
  half = m.lexer.half;
  open_run = m.open_run;
  run = run_by m.open_run m.run.items;
}

-- the reading state once the input has done what a code requests
abbrev pub state_after_request : ReadingState → Request → ReadingState
state_after_request h Request.Clear = record h { machine = record h.machine { names = no_names } }
state_after_request h (Request.Define name show) = record h {
  machine = record h.machine { mode = in_body name show };
  open_body = Some (record { name = name; show = show; escape = None });
}
state_after_request h _ = h

-- what an opcode requests: perhaps to unbind all names
abbrev pub clear_request_if : Bool → Request
clear_request_if clears = if clears then Request.Clear else Request.Nothing

-- The bytes before this index lead to a state in which the byte there completes a call of the macro of this name.
pub record Calls {S : Type 0} (g : Ghosts S) (t : S) (h : ReadingState) (u : S) (h' : ReadingState) (all : List Placed) (index name : ℕ) : Type 0 where
  pub byte : Placed
  pub following : List Placed
  pub is : drop index all ≡ byte ∷ following
  pub holding : ReadingState
  pub leads : LeadsOn g t h u holding (take index all) (bytes_of (drop index all))
  pub between : holding.open_body ≡ None
  pub closed : holding.open_run ≡ None
  pub left : holding.machine.left ≡ h'.machine.left
  pub front_is : (rest pending : List Placed) → ArePending rest holding → stream_front holding.machine (rest ++ byte ∷ pending) ≡ shown_front h'.machine byte.place (body_of h'.machine.names name) pending
  pub rested : h'.open_run ≡ None
  pub still : (rest : List Placed) → ArePending rest holding → ArePending [] h'
  pub named : IsGraphic name

-- The bytes before this index lead to a state in which the byte there is refused or breaks.
pub record Stops {S : Type 0} (g : Ghosts S) (t : S) (h : ReadingState) (all : List Placed) (index : ℕ) (u : S) (r : Refusal) : Type 0 where
  pub byte : Placed
  pub following : List Placed
  pub is : drop index all ≡ byte ∷ following
  pub owed : List Entry
  pub leads : LeadsThrough g t h owed (take index all)
  pub stops : StopsByte g leads.sink owed leads.holding byte u r

-- The machine consumed `count` bytes, and their last code makes this request to the input.
abbrev pub TakesBy : {S : Type 0} → Ghosts S → S → ReadingState → S → ReadingState → List Placed → ℕ → Option Refusal → Request → Type 0
TakesBy g t h u h' all count r Request.Stop = (why : Refusal) × (r ≡ Some why) × Stops g t h all count u why
TakesBy g t h u h' all count r (Request.Call name) = (index : ℕ) × (count ≡ index + 1) × Calls g t h u h' all index name
TakesBy g t h u h' all count r (Request.Define name show) = IsGraphic name × LeadsOn g t h u (state_after_request h' (Request.Define name show)) (take count all) (bytes_of (drop count all))
TakesBy g t h u h' all count r request = LeadsOn g t h u (state_after_request h' request) (take count all) (bytes_of (drop count all))

-- A machine isn't refused, and its state of failure agrees with its sink.
pub record IsLiveBy {S : Type 0} (g : Ghosts S) (refusal : Option Refusal) (state : State) (sink : S) : Type 0 where
  pub live : refusal ≡ None
  pub agrees : StatesAgree state (g.state sink)

abbrev pub IsLive : {S : Type 0} {g : Ghosts S} → Machine S g → Type 0
IsLive {S} {g} machine = IsLiveBy g machine.refusal machine.work.state machine.sink

-- A machine has memory for any run and for its points.
abbrev pub HasRunMemory : {S : Type 0} {g : Ghosts S} → Machine S g → Type 0
HasRunMemory machine = (run_limit ≤ vec_capacity machine.run) × (run_limit ≤ vec_capacity machine.scratch)

-- A machine never lacks memory: it has some for any run, and its sink never wants any.
abbrev pub IsSpared : {S : Type 0} {g : Ghosts S} → Machine S g → Type 0
IsSpared {S} {g} machine = HasRunMemory machine × NeverWants g machine.sink

-- No memory was given back.
abbrev pub KeepsMemory : {S : Type 0} {g : Ghosts S} → Machine S g → Machine S g → Type 0
KeepsMemory old new = (vec_capacity old.run ≤ vec_capacity new.run) × (vec_capacity old.scratch ≤ vec_capacity new.scratch)

-- A machine that wasn't refused still isn't, its sink works if it did before, and it never lacks memory if it didn't.
pub record Works {S : Type 0} {g : Ghosts S} (old new : Machine S g) : Type 0 where
  pub live : IsLive new
  pub clear : g.failed old.sink ≡ false → g.failed new.sink ≡ false
  pub spares : IsSpared old → IsSpared new

-- The refusal is kept, and all else is unchanged.
pub record Refuses {S : Type 0} {g : Ghosts S} (old new : Machine S g) (r : Refusal) : Type 0 where
  pub is : new.refusal ≡ Some r
  pub sink : new.sink ≡ old.sink
  pub work : new.work ≡ old.work
  pub lexer : new.lexer ≡ old.lexer
  pub open_run : new.open_run ≡ old.open_run

-- whether a sink that was t, and is u, has failed, by the fault
abbrev pub FaultMatchesSink : {S : Type 0} → Ghosts S → S → S → Fault → Type 0
FaultMatchesSink g t u fault = (fault ≡ Sink → g.failed u ≡ true) × (g.failed t ≡ false → g.failed u ≡ true → fault ≡ Sink)

-- The machine is refused, and tells whether its sink has failed, and where it can't have lacked memory.
pub record Latches {S : Type 0} {g : Ghosts S} (old new : Machine S g) : Type 0 where
  pub why : Refusal
  pub is : new.refusal ≡ Some why
  pub tells : FaultMatchesSink g old.sink new.sink why.fault
  pub spares : IsSpared old → why.fault ≢ Memory

abbrev pub Leaves : {S : Type 0} {g : Ghosts S} → Machine S g → Machine S g → Request → Type 0
Leaves old new Request.Stop = Latches old new
Leaves old new _ = Works old new

-- At least one byte was consumed; or the machine is refused, or the open run has ended.
abbrev pub Progresses : {S : Type 0} {g : Ghosts S} → Machine S g → Machine S g → ℕ → Request → Type 0
Progresses old new count request = (0 < count) ⊎ (request ≡ Request.Stop) ⊎ ((new.open_run ≡ None) × (old.open_run ≢ None))

-- The machine consumed `count` bytes of a slice that has these, after which others come: none of an operand if the run
-- has ended.
pub record Takes {S : Type 0} {g : Ghosts S} (old new : Machine S g) (bytes : List Placed) (ended : Bool) (count : ℕ) (request : Request) : Type 0 where
  pub within : count ≤ length bytes
  pub leaves : Leaves old new request
  pub by : (h : ReadingState) (bytes_after : List Placed) → h.open_body ≡ None → (ended ≡ true → IsOver (bytes_of bytes_after)) →
      TakesBy g old.sink (with_machine h old) new.sink (with_machine h new) (bytes ++ bytes_after) count new.refusal request

-- The same, where these bodies are bound to names. Calls of names without a body may be among the bytes.
pub record TakesUnder {S : Type 0} {g : Ghosts S} (names : List (List ℕ)) (old new : Machine S g) (bytes : List Placed) (ended : Bool) (count : ℕ) (request : Request) : Type 0 where
  pub within : count ≤ length bytes
  pub leaves : Leaves old new request
  pub by : (h : ReadingState) (bytes_after : List Placed) → h.open_body ≡ None → h.machine.names ≡ names → (ended ≡ true → IsOver (bytes_of bytes_after)) →
      TakesBy g old.sink (with_machine h old) new.sink (with_machine h new) (bytes ++ bytes_after) count new.refusal request

-- Only after the last of `many` bytes may a run be open, if the machine requests nothing.
abbrev pub EndsClosed : {S : Type 0} {g : Ghosts S} → Machine S g → ℕ → ℕ → Request → Type 0
EndsClosed new many count request = request ≡ Request.Nothing → count < many → new.open_run ≡ None

-- The machine consumed bytes of a slice, from this index up to `count`.
abbrev pub TakesFrom : {S : Type 0} {g : Ghosts S} → Machine S g → Machine S g → ℕ → ℕ → List ℕ → ℕ → Bool → ℕ → Request → Type 0
TakesFrom old new place step bytes at ended count request = (n : ℕ) × (count ≡ at + n)
    × Takes old new (placed_at (slice_index bytes at) (place + step * at) ∷ placed_by_step (place + step * (at + 1)) step (drop (at + 1) bytes)) ended n request

-- One code at the front.

-- the byte alone is an opcode that has a rule, so the bytes from 20 to 7F aren't characters
pub record IsOpcodeByte (half : List ℕ) (sets : CodeSets) (byte : ℕ) (op : Opcode) : Type 0 where
  pub rested : half ≡ []
  pub drawn : IsDrawn op
  pub alone : (set : CharSet) → AllCharacters sets set → ⊥
  pub names : codes.front sets (byte ∷ []) ≡ codes.complete (Code.Op op) 1 sets

-- no code is half read, and each of the bytes from 20 to 7F alone is a character of this set
pub record AreCharacters (lexer : LexerState) (set : CharSet) : Type 0 where
  pub rested : lexer.half ≡ []
  pub chars : AllCharacters lexer.sets set

-- the kind of the first code, if this byte comes next
abbrev pub IsFrontCode : LexerState → ℕ → FrontCode → Type 0
IsFrontCode lexer byte (FrontCode.Opcode op) = IsOpcodeByte lexer.half lexer.sets byte op
IsFrontCode lexer byte (FrontCode.Characters set) = AreCharacters lexer set
IsFrontCode lexer byte FrontCode.Shift = IsShift lexer byte
IsFrontCode lexer byte (FrontCode.Effector step) = (lexer.half ≡ []) × (codes.front lexer.sets (byte ∷ []) ≡ codes.complete (Code.Step step) 1 lexer.sets)
IsFrontCode lexer byte FrontCode.Bell = (lexer.half ≡ []) × (codes.front lexer.sets (byte ∷ []) ≡ codes.complete Code.Bell 1 lexer.sets)
IsFrontCode lexer byte FrontCode.Call = (lexer.half ≡ []) × ((rest : List ℕ) → codes.front lexer.sets (byte ∷ rest) ≡ codes.complete (Code.Call byte) 1 lexer.sets)
IsFrontCode lexer byte FrontCode.Other = ⊤

-- Nothing was done.
pub record DoesNothing {S : Type 0} {g : Ghosts S} (old new : Machine S g) : Type 0 where
  pub kept : KeepsMemory old new
  pub work : new.work ≡ old.work
  pub lexer : new.lexer ≡ old.lexer
  pub sink : new.sink ≡ old.sink
  pub refusal : new.refusal ≡ old.refusal

-- The number of bytes of the code; or its opcode, whose run these bytes don't end; or nothing was done.
abbrev pub CodeWithin : {S : Type 0} {g : Ghosts S} → Machine S g → Machine S g → List ℕ → CodeOutcome → Type 0
CodeWithin old new bytes (CodeOutcome.Acted count) = (0 < count) × (count ≤ length bytes)
CodeWithin old new bytes (CodeOutcome.Clears count) = (0 < count) × (count ≤ length bytes)
CodeWithin old new bytes (CodeOutcome.Calls count name) = (0 < count) × (count ≤ length bytes) × IsGraphic name
CodeWithin old new bytes (CodeOutcome.Defines count name show) = (0 < count) × (count ≤ length bytes)
CodeWithin old new bytes (CodeOutcome.Stopped count fault index) = (count ≤ length bytes) × (index < length bytes)
CodeWithin old new bytes (CodeOutcome.Opens op) = (new ≡ old) × (0 < length bytes) × IsOpcodeByte old.lexer.half old.lexer.sets (get_or bytes 0 0) op
CodeWithin old new bytes CodeOutcome.Other = DoesNothing old new

-- The machine consumed the code, or kept its refusal, with the place of the byte with this index.
abbrev pub CodeTakes : {S : Type 0} {g : Ghosts S} → Machine S g → Machine S g → List Placed → Bool → CodeOutcome → Type 0
CodeTakes old new xs ended (CodeOutcome.Acted count) = Takes old new xs ended count Request.Nothing
CodeTakes old new xs ended (CodeOutcome.Clears count) = Takes old new xs ended count Request.Clear
CodeTakes old new xs ended (CodeOutcome.Calls count name) = Takes old new xs ended count (Request.Call name)
CodeTakes old new xs ended (CodeOutcome.Defines count name show) = Takes old new xs ended count (Request.Define name show)
CodeTakes {S} {g} old new xs ended (CodeOutcome.Stopped count fault index) =
    (kept : Machine S g) → Refuses new kept (refusal fault (place_at xs index)) → Takes old kept xs ended count Request.Stop
CodeTakes old new xs ended _ = ⊤

-- The machine consumed the code at the front of these bytes, after which others come: none of an operand if the run has
-- ended.
pub record Codes {S : Type 0} {g : Ghosts S} (old new : Machine S g) (bytes : List ℕ) (ended : Bool) (outcome : CodeOutcome) : Type 0 where
  pub within : CodeWithin old new bytes outcome
  pub closed : new.open_run ≡ old.open_run
  pub by : (x : Placed) (ys : List Placed) → bytes ≡ x.byte ∷ bytes_of ys → CodeTakes old new (x ∷ ys) ended outcome

-- The opcode of the open run acted, and may have unbound all names; or it is refused, or breaks.
abbrev pub Executes : {S : Type 0} {g : Ghosts S} → Machine S g → Machine S g → Bool → Type 0
Executes {S} {g} old new clears = Works old new × (new.open_run ≡ None)
    × ((h : ReadingState) → h.open_body ≡ None → ActsRun g old.sink (with_machine h old) new.sink (state_after_request (with_machine h new) (clear_request_if clears)))

abbrev pub FailsRun : {S : Type 0} {g : Ghosts S} → Machine S g → Machine S g → Refusal → Type 0
FailsRun {S} {g} old new r = ((h : ReadingState) → h.open_body ≡ None → StopsRun g old.sink (with_machine h old) new.sink r) × FaultMatchesSink g old.sink new.sink r.fault × (IsSpared old → r.fault ≢ Memory)

-- The open run, if there is one, has acted at the end of a stream.
abbrev pub EndsRun : {S : Type 0} {g : Ghosts S} → Machine S g → Machine S g → Type 0
EndsRun {S} {g} old new = (h : ReadingState) → h.open_body ≡ None → (s : S) (budget : ℕ) (p : List ℕ) → Continues g s (begun budget p) old.sink (with_machine h old) [] → Ends g s (with_run (begun budget p)) new.sink new.work new.lexer.half
