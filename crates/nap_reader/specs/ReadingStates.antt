use Rattle.std.specs.Prelude.{List, None, Option, Some, [], false, length, ℕ, ⊤, ◌++◌, ◌+◌, ◌-◌, ◌∷◌, ◌≡◌, ◌≤◌}
use Rattle.nap_reader.specs.Names.{Code, CodeSets, Entry, Ghosts, Work, operand_words, run_limit, start, stream}
use Rattle.nap_codes.specs.Front as codes
use Rattle.nap_reader.specs.{declared.fault.Refusal.Refusal, declared.body.OpenBody.OpenBody, declared.machine.OpenRun.OpenRun, declared.input.Input.Input, declared.reader.Reader.Reader, Framed.unread, Course.prepend, Breaking.cause_of}
use Rattle.nap_reader.specs.declared.machine.Machine as struct
use Rattle.nap_reader.specs.Bodies as bodies
use Rattle.nap_reader.specs.Bodies.{Mode, between, in_body, BodyFront, store_limit, body_front}
use Rattle.nap_reader.specs.Stream as model
use Rattle.nap_reader.specs.Stream.{Placed, Machine, Outcome, Unfinished, open_body, refusal, bytes_of, carried_words, run_length, half_read, outcome_from}

-- The state of a reader between two bytes, and how it leads to the meaning of the stream. No caller sees these
-- definitions.

-- the machine, the bytes of a half-read code, the open run with its words, and the open body with its bytes
pub record ReadingState : Type 0 where
  pub machine : Machine
  pub half : List ℕ
  pub open_run : Option OpenRun
  pub run : List ℕ
  pub open_body : Option OpenBody
  pub body : List ℕ

-- where the stream is
abbrev pub mode_of : Option OpenBody → Mode
mode_of None = between
mode_of (Some body) = in_body body.name body.show

-- the machine of the model, a part of which is the reader's input
abbrev pub machine_of : {S : Type 0} {g : Ghosts S} → struct.Machine S g → Input → Machine
machine_of machine input = record {
  work = machine.work;
  sets = machine.lexer.sets;
  left = input.budget - input.charged;
  names = input.store.names;
  stored = input.store.stored;
  mode = mode_of input.body;
}

-- the words of the open run, which these bytes carry
abbrev pub run_by : Option OpenRun → List ℕ → List ℕ
run_by None bytes = []
run_by (Some open_run) bytes = operand_words bytes

abbrev pub reading_state_by : {S : Type 0} {g : Ghosts S} → struct.Machine S g → Input → ReadingState
reading_state_by machine input = record {
  machine = machine_of machine input;
  half = machine.lexer.half;
  open_run = machine.open_run;
  run = run_by machine.open_run machine.run.items;
  open_body = input.body;
  body = input.store.body;
}

abbrev pub reading_state : {S : Type 0} {g : Ghosts S} → Reader S g → ReadingState
reading_state reader = reading_state_by reader.machine reader.input

-- what remains to be read of the bodies that are being read
abbrev pub unread_of : Input → List Placed
unread_of input = unread input.store.bytes input.frames.stack.items

abbrev pub unfinished_by : Option OpenBody → Option OpenRun → List ℕ → List ℕ → Unfinished
unfinished_by (Some body) open_run half run = open_body
unfinished_by None None half run = half_read half
unfinished_by None (Some open_run) half run = model.open_run open_run.op open_run.place run

-- what is unfinished in this state of a reader
abbrev pub unfinished_of : ReadingState → Unfinished
unfinished_of h = unfinished_by h.open_body h.open_run h.half h.run

-- these bytes are an opcode and the words of its run
pub record IsOpenRun (rest : List Placed) (open_run : OpenRun) (run : List ℕ) (sets : CodeSets) : Type 0 where
  pub opcode : Placed
  pub operands : List Placed
  pub is : rest ≡ opcode ∷ operands
  pub place : opcode.place ≡ open_run.place
  pub names : codes.front sets (opcode.byte ∷ []) ≡ codes.complete (Code.Op open_run.op) 1 sets
  pub words : carried_words operands ≡ run
  pub all : run_length operands ≡ length operands
  pub short : length run ≤ run_limit

abbrev pub ArePendingBy : List Placed → ReadingState → Option OpenRun → Type 0
ArePendingBy rest h (Some open_run) = IsOpenRun rest open_run h.run h.machine.sets × (h.half ≡ [])
ArePendingBy rest h None = (bytes_of rest ≡ h.half) × (codes.front h.machine.sets h.half ≡ codes.unfinished)

-- ESC, if it is undecided whether a body has it
abbrev pub pending_escape : Option ℕ → List Placed
pending_escape None = []
pending_escape (Some place) = record { byte = 0x1B; place = place } ∷ []

-- what is known of a body with n bytes before
abbrev pub body_front_after : ℕ → BodyFront → BodyFront
body_front_after n bodies.unfinished = bodies.unfinished
body_front_after n (bodies.refused fault i) = bodies.refused fault (n + i)
body_front_after n (bodies.ended k) = bodies.ended (n + k)

-- The bytes are of a body before the next bytes: the body's state at them has the outcome of the state after its name,
-- with less space.
abbrev pub AreOfBody : ℕ → List ℕ → List ℕ → Type 0
AreOfBody space body next = (more : List ℕ) → body_front space (body ++ (next ++ more)) ≡ body_front_after (length body) (body_front (space - length body) (next ++ more))

-- these bytes are those of a body that hasn't ended, and maybe a pending ESC
pub record IsOpenBody (rest : List Placed) (b : OpenBody) (h : ReadingState) : Type 0 where
  pub bytes : List Placed
  pub is : rest ≡ bytes ++ pending_escape b.escape
  pub mode : h.machine.mode ≡ in_body b.name b.show
  pub body : bytes_of bytes ≡ h.body
  pub are_of_body : AreOfBody (store_limit - h.machine.stored) h.body (bytes_of (pending_escape b.escape))
  pub still : h.open_run ≡ None
  pub half : h.half ≡ []

-- between two codes, these bytes are an open run, else those of a half-read code
pub record ArePendingBetweenCodes (rest : List Placed) (h : ReadingState) : Type 0 where
  pub mode : h.machine.mode ≡ between
  pub body : h.body ≡ []
  pub half : ArePendingBy rest h h.open_run

abbrev pub ArePendingIn : List Placed → ReadingState → Option OpenBody → Type 0
ArePendingIn rest h None = ArePendingBetweenCodes rest h
ArePendingIn rest h (Some body) = IsOpenBody rest body h

-- these bytes are pending: those of an open body, an open run, or a half-read code
abbrev pub ArePending : List Placed → ReadingState → Type 0
ArePending rest h = ArePendingIn rest h h.open_body

-- A sink that was s took the first entries of the outcome; next come those that it is owed, and then those of the pending
-- bytes followed by the next bytes.
pub record Owes {S : Type 0} (g : Ghosts S) (s : S) (o : Outcome) (t : S) (owed : List Entry) (h : ReadingState) (pending : List Placed) : Type 0 where
  pub done : List Entry
  pub taken : g.took s done t
  pub clear : g.failed s ≡ false → g.failed t ≡ false
  pub rest : List Placed
  pub retained : ArePending rest h
  pub leads : o ≡ prepend done (prepend owed (outcome_from h.machine (rest ++ pending)))

-- the same, and nothing is owed
abbrev pub Continues : {S : Type 0} → Ghosts S → S → Outcome → S → ReadingState → List Placed → Type 0
Continues g s o t h pending = Owes g s o t [] h pending

-- a sink that keeps the entries as a list, whatever their number
abbrev pub kept_list : Ghosts (List Entry)
kept_list = record { state = λ _. start; wants = λ _ _. ⊤; failed = λ _. false; took = λ s es t. t ≡ s ++ es; broke = λ _ _ _ _. ⊥ }

-- The first entries of the outcome are the known ones; the others are those of the pending bytes followed by the next
-- bytes.
abbrev pub Leads : Outcome → List Entry → ReadingState → List Placed → Type 0
Leads o known h pending = Continues kept_list [] o known h pending

-- the refusal is the stream's own
abbrev pub IsOwn : Refusal → Type 0
IsOwn r = cause_of r.fault ≡ stream

-- the outcome is refused, a sink that was s has its entries, and this much is left to charge
abbrev pub IsRefused : {S : Type 0} → Ghosts S → S → Outcome → S → ReadingState → Refusal → Type 0
IsRefused g s o t h r = (o.refusal ≡ Some r) × g.took s o.entries t × (o.machine.left ≡ h.machine.left)

-- A sink that was s has taken the entries of an outcome that ends with this drawing state, and with these bytes of a
-- half-read code.
pub record Ends {S : Type 0} (g : Ghosts S) (s : S) (o : Outcome) (t : S) (drawn : Work) (bytes : List ℕ) : Type 0 where
  pub refusal : o.refusal ≡ None
  pub taken : g.took s o.entries t
  pub work : o.machine.work ≡ drawn
  pub half : o.unfinished ≡ Some (half_read bytes)

-- the open run, if there is one, is at this place
abbrev pub RunAt : ℕ → Option OpenRun → Type 0
RunAt n None = ⊤
RunAt n (Some open_run) = open_run.place ≡ n
