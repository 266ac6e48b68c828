use Rattle.std.specs.Prelude.{◌≡◌, ◌-◌, ◌+◌, ◌<◌, ◌≤◌, ◌++◌, ℕ, List, [], ◌∷◌, Option, Some, None, length, take, slice_index}
use Rattle.nap_reader.specs.Shared.{Ghosts, Cause, stream, Refusal, Reader, store_limit, Outcome, begun, cause_of, BreaksAt, Continues, reading_state}

-- What a reader shows.

abbrev pub sink_of : {S : Type 0} {g : Ghosts S} → Reader S g → S
sink_of reader = reader.machine.sink

abbrev pub refusal_of : {S : Type 0} {g : Ghosts S} → Reader S g → Option Refusal
refusal_of reader = reader.machine.refusal

abbrev pub budget_of : {S : Type 0} {g : Ghosts S} → Reader S g → ℕ
budget_of reader = reader.input.budget

abbrev pub fed_of : {S : Type 0} {g : Ghosts S} → Reader S g → ℕ
fed_of reader = reader.input.fed

abbrev pub turns_of : {S : Type 0} {g : Ghosts S} → Reader S g → ℕ
turns_of reader = reader.input.turns

abbrev pub charged_of : {S : Type 0} {g : Ghosts S} → Reader S g → ℕ
charged_of reader = reader.input.charged

-- the budget left to be charged
abbrev pub left_of : {S : Type 0} {g : Ghosts S} → Reader S g → ℕ
left_of reader = budget_of reader - charged_of reader

-- the number of bytes of the bodies that a reader keeps
abbrev pub bodies_of : {S : Type 0} {g : Ghosts S} → Reader S g → ℕ
bodies_of reader = reader.input.store.stored + length reader.input.store.body

-- The bodies that are being read, the bytes of bodies, and those that ended the presented ones are no more than the
-- charged bytes, or than all bodies may have.
pub record IsBounded {S : Type 0} {g : Ghosts S} (reader : Reader S g) : Type 0 where
  pub frames : length reader.input.frames.stack.items ≤ charged_of reader
  pub bodies : bodies_of reader ≤ store_limit
  pub pairs : refusal_of reader ≡ None → length reader.input.store.bytes - bodies_of reader ≤ charged_of reader

-- A sink that was s has taken the entries of the outcome, this much is left to charge, and this is the refusal of the
-- outcome.
pub record IsKnown {S : Type 0} (g : Ghosts S) (s : S) (o : Outcome) (t : S) (n : ℕ) (answer : Option Refusal) : Type 0 where
  pub refusal : o.refusal ≡ answer
  pub taken : g.took s o.entries t
  pub left : o.machine.left ≡ n

-- Reading broke at the byte after p, before which nothing was refused. The budget is the one before or after the charge
-- for this byte.
pub record IsBroken {S : Type 0} (g : Ghosts S) (s : S) (budget : ℕ) (p : List ℕ) (b : ℕ) (t : S) (n : ℕ) (r : Refusal) : Type 0 where
  pub before : (begun budget p).refusal ≡ None
  pub breaks : BreaksAt g s budget p b t r
  pub left : n ≤ (begun budget p).machine.left
  pub charged : (begun budget (p ++ b ∷ [])).machine.left ≤ n

-- Reading stopped at the byte after p with this refusal: the stream's own, or it broke.
abbrev pub StopsBy : {S : Type 0} → Ghosts S → S → ℕ → List ℕ → ℕ → S → ℕ → Refusal → Cause → Type 0
StopsBy g s budget p b t left r stream = IsKnown g s (begun budget (p ++ b ∷ [])) t left (Some r)
StopsBy g s budget p b t left r _ = IsBroken g s budget p b t left r

-- what a reader shows that was fed the bytes p, with a refusal of this cause: the stream's own, or reading broke at a
-- byte of p
abbrev pub AnswersBy : {S : Type 0} → Ghosts S → S → ℕ → List ℕ → S → ℕ → Refusal → Cause → Type 0
AnswersBy g s budget p t left r stream = IsKnown g s (begun budget p) t left (Some r)
AnswersBy g s budget p t left r _ = (i : ℕ) × (i < length p) × IsBroken g s budget (take i p) (slice_index p i) t left r

-- what a reader shows that was fed the bytes p: its sink, what is left to charge, and its answer
abbrev pub Answers : {S : Type 0} → Ghosts S → S → ℕ → List ℕ → S → ℕ → Option Refusal → Type 0
Answers g s budget p t left None = IsKnown g s (begun budget p) t left None
Answers g s budget p t left (Some r) = AnswersBy g s budget p t left r (cause_of r.fault)

-- A reader has read these bytes into the sink that it was given: it shows their outcome, and unless that is refused,
-- what it keeps leads to the outcome of these bytes with any others after them.
pub record HasRead {S : Type 0} {g : Ghosts S} (reader : Reader S g) (s : S) (p : List ℕ) : Type 0 where
  pub answers : Answers g s (budget_of reader) p (sink_of reader) (left_of reader) (refusal_of reader)
  pub fed : refusal_of reader ≡ None → fed_of reader ≡ length p
  pub continues : refusal_of reader ≡ None → Continues g s (begun (budget_of reader) p) (sink_of reader) (reading_state reader) []

-- The refusal came at the byte with this index, after which nothing was consumed.
pub record StopsAt {S : Type 0} {g : Ghosts S} (old new : Reader S g) (piece : List ℕ) (r : Refusal) (i : ℕ) : Type 0 where
  pub within : i < length piece
  pub fed : fed_of new ≡ fed_of old + (i + 1)
  pub before : (s : S) (p : List ℕ) → HasRead old s p → (begun (budget_of old) (p ++ take i piece)).refusal ≡ None
  pub there : (s : S) (p : List ℕ) → HasRead old s p →
      StopsBy g s (budget_of old) (p ++ take i piece) (slice_index piece i) (sink_of new) (left_of new) r (cause_of r.fault)

-- The end of a stream.

-- a sink that was s has taken the entries of the outcome, and this is its refusal
abbrev pub IsTaken : {S : Type 0} → Ghosts S → S → Outcome → S → Option Refusal → Type 0
IsTaken g s o t answer = (o.refusal ≡ answer) × g.took s o.entries t
