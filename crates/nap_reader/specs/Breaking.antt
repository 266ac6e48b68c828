use Rattle.std.specs.Prelude.{IsSome, List, None, Option, Some, [], false, if◌then◌else◌, length, slice_index, take, true, ℕ, ◌++◌, ◌<◌, ◌∷◌, ◌≡◌, ◌≢◌, ◌⊎◌}
use Rattle.nap_reader.specs.Names.{BreaksAmid, Cause, Entry, Ghosts, StopsAmid, device, memory, stream}
use Rattle.nap_reader.specs.{declared.fault.Fault.Fault, declared.fault.Refusal.Refusal}
use Rattle.nap_reader.specs.Stream.{Outcome, Unfinished, open_run, open_body, is_operand_byte, begun, with_run}

-- Breaks: the stream itself isn't refused, but memory is lacking, or the sink's device fails.

-- the cause of a refusal, by its fault
abbrev pub cause_of : Fault → Cause
cause_of Fault.Memory = memory
cause_of Fault.Sink = device
cause_of _ = stream

-- the sink never wants memory
abbrev pub NeverWants : {S : Type 0} → Ghosts S → S → Type 0
NeverWants g s = (list : List Entry) → g.wants s list → ⊥

-- the place of the opcode whose run is open
abbrev pub run_place : Option Unfinished → Option ℕ
run_place (Some (open_run op place run)) = Some place
run_place _ = None

abbrev pub open_place : Outcome → Option ℕ
open_place o = run_place o.unfinished

-- the outcome once this byte shows whether an open run is over
abbrev pub closed_by : Outcome → ℕ → Outcome
closed_by o b = if is_operand_byte b then o else with_run o

-- the byte is one more of an open run
abbrev pub JoinsRun : Outcome → ℕ → Type 0
JoinsRun o b = (is_operand_byte b ≡ true) × IsSome (open_place o)

-- the byte is in a body
abbrev pub IsInBody : Outcome → Type 0
IsInBody o = o.unfinished ≡ Some open_body

-- a body that a byte after p calls or presents is charged
abbrev pub IsCharged : ℕ → List ℕ → ℕ → Type 0
IsCharged budget p b = (begun budget (p ++ b ∷ [])).machine.left < (begun budget p).machine.left

-- A byte after p is in a body, or calls or presents one, whose bytes are read next.
abbrev pub UsesBody : ℕ → List ℕ → ℕ → Type 0
UsesBody budget p b = IsInBody (begun budget p) ⊎ IsCharged budget p b

-- A byte after p is one more of an open run, or uses a body: the reader may need memory of its own.
abbrev pub WantsMemory : ℕ → List ℕ → ℕ → Type 0
WantsMemory budget p b = JoinsRun (begun budget p) b ⊎ UsesBody budget p b

-- A byte after p is one more of an open run, or adds entries besides those of the run that it ends, or uses a body.
abbrev pub AddsEntries : ℕ → List ℕ → ℕ → Type 0
AddsEntries budget p b =
    JoinsRun (begun budget p) b ⊎ ((begun budget (p ++ b ∷ [])).entries ≢ (closed_by (begun budget p) b).entries) ⊎ UsesBody budget p b

-- The place of what breaks at a byte after p: that of the opcode whose run the byte ends, or of the byte, if it is one
-- that can break. The stream itself isn't refused there, except in a body that is charged.
abbrev pub PlacedWith : (ℕ → List ℕ → ℕ → Type 0) → ℕ → List ℕ → ℕ → ℕ → Type 0
PlacedWith Can budget p b place =
    ((is_operand_byte b ≡ false) × (open_place (begun budget p) ≡ Some place) × ((with_run (begun budget p)).refusal ≡ None))
    ⊎ ((place ≡ length p) × Can budget p b × (IsCharged budget p b ⊎ ((begun budget (p ++ b ∷ [])).refusal ≡ None)))

-- the place of what breaks within a whole stream: that of one of its bytes, or of the opcode that acts at its end
abbrev pub PlacedWithin : (ℕ → List ℕ → ℕ → Type 0) → ℕ → List ℕ → ℕ → Type 0
PlacedWithin Can budget p place =
    ((i : ℕ) × (i < length p) × PlacedWith Can budget (take i p) (slice_index p i) place)
    ⊎ ((open_place (begun budget p) ≡ Some place) × ((with_run (begun budget p)).refusal ≡ None))

-- reading can break here, at a byte after p
abbrev pub CanBreakAt : ℕ → List ℕ → ℕ → ℕ → Type 0
CanBreakAt budget p b place = PlacedWith AddsEntries budget p b place

-- reading of a whole stream can break here
abbrev pub BreaksWithin : ℕ → List ℕ → ℕ → Type 0
BreaksWithin budget p place = PlacedWithin AddsEntries budget p place

-- a reader can lack memory of its own here, at a byte after p
abbrev pub CanLackAt : ℕ → List ℕ → ℕ → ℕ → Type 0
CanLackAt budget p b place = PlacedWith WantsMemory budget p b place

-- a reader can lack memory of its own here, within a whole stream
abbrev pub LacksWithin : ℕ → List ℕ → ℕ → Type 0
LacksWithin budget p place = PlacedWithin WantsMemory budget p place

-- A sink that was s took the known entries, and none or a prefix of the further ones, of which at least one is left; or
-- one of them broke.
abbrev pub TookPart : {S : Type 0} → Ghosts S → S → List Entry → List Entry → S → Cause → Type 0
TookPart g s known more t stream = ⊥
TookPart g s known more t memory = g.took s known t ⊎ StopsAmid (λ s es t. g.took s (known ++ es) t) s more t
TookPart g s known more t device =
    ((g.failed s ≡ true) × g.took s known t) ⊎ BreaksAmid (λ s es e t. g.broke s (known ++ es) e t) s more t

-- The sink has all entries of the outcome before, and a part of those that the outcome after adds. The outcome after has
-- no refusal.
pub record BreaksBetween {S : Type 0} (g : Ghosts S) (s : S) (before after : Outcome) (t : S) (cause : Cause) : Type 0 where
  pub more : List Entry
  pub adds : after.entries ≡ before.entries ++ more
  pub unrefused : after.refusal ≡ None
  pub part : TookPart g s before.entries more t cause

-- a prefix of a list was taken, or all of it
abbrev pub TakesPart : {S : Type 0} → Ghosts S → S → List Entry → List Entry → S → Type 0
TakesPart g s known more t = (first : List Entry) × (rest : List Entry) × (more ≡ first ++ rest) × g.took s (known ++ first) t

-- A sink that was s took the known entries and a prefix of the further ones, for a body that is charged; or one of them
-- broke.
abbrev pub TookPrefix : {S : Type 0} → Ghosts S → S → List Entry → List Entry → S → Cause → Type 0
TookPrefix g s known more t stream = ⊥
TookPrefix g s known more t memory = TakesPart g s known more t
TookPrefix g s known more t device =
    ((g.failed s ≡ true) × TakesPart g s known more t) ⊎ BreaksAmid (λ s es e t. g.broke s (known ++ es) e t) s more t

-- A sink that was s has the known entries, and a part of those that the outcome has more.
pub record BreaksFrom {S : Type 0} (g : Ghosts S) (s : S) (known : List Entry) (o : Outcome) (t : S) (cause : Cause) : Type 0 where
  pub more : List Entry
  pub adds : o.entries ≡ known ++ more
  pub part : TookPrefix g s known more t cause

-- the opcode whose run is open after p acts, and breaks
pub record BreaksInRun {S : Type 0} (g : Ghosts S) (s : S) (budget : ℕ) (p : List ℕ) (t : S) (r : Refusal) : Type 0 where
  pub place : open_place (begun budget p) ≡ Some r.place
  pub part : BreaksBetween g s (begun budget p) (with_run (begun budget p)) t (cause_of r.fault)

-- The sink has the entries known once the byte after p shows whether a run is over, and a part of those known with the
-- byte, not all; or the entries known before, and some of those of a body that is charged.
abbrev pub BreaksWith : {S : Type 0} → Ghosts S → S → ℕ → List ℕ → ℕ → S → Cause → Type 0
BreaksWith g s budget p b t cause =
    BreaksBetween g s (closed_by (begun budget p) b) (begun budget (p ++ b ∷ [])) t cause
    ⊎ (IsCharged budget p b × BreaksFrom g s (begun budget p).entries (begun budget (p ++ b ∷ [])) t cause)

-- The byte after p breaks at its own place: not all of the entries that it adds are there, but those of the run that it
-- ends are. Memory was lacking to the reader itself, or to its sink for these entries.
pub record BreaksAtByte {S : Type 0} (g : Ghosts S) (s : S) (budget : ℕ) (p : List ℕ) (b : ℕ) (t : S) (r : Refusal) : Type 0 where
  pub place : r.place ≡ length p
  pub adds_entries : AddsEntries budget p b
  pub wants : cause_of r.fault ≡ memory → WantsMemory budget p b ⊎ g.wants s (begun budget (p ++ b ∷ [])).entries
  pub part : BreaksWith g s budget p b t (cause_of r.fault)

-- the entries of the one outcome are a prefix of the other's
abbrev pub Begins : Outcome → Outcome → Type 0
Begins o whole = (more : List Entry) × (whole.entries ≡ o.entries ++ more)

-- The byte after p breaks: either the opcode whose run it ends, whose entries are a prefix of those with the byte; or
-- what the byte adds itself.
abbrev pub BreaksAt : {S : Type 0} → Ghosts S → S → ℕ → List ℕ → ℕ → S → Refusal → Type 0
BreaksAt g s budget p b t r =
    ((is_operand_byte b ≡ false) × Begins (with_run (begun budget p)) (begun budget (p ++ b ∷ [])) × BreaksInRun g s budget p t r)
    ⊎ BreaksAtByte g s budget p b t r
