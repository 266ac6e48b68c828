use Rattle.std.specs.Prelude.{Err, List, None, Ok, Result, Some, [], true, ℕ, ◌≡◌, ◌≢◌, ◌⊎◌}
use Rattle.nap_reader.specs.{Names.Cause, Names.Ghosts, Names.device, Names.memory, Names.stream, declared.fault.Refusal.Refusal, Breaking.cause_of, Breaking.BreaksWithin, Breaking.NeverWants, Breaking.TookPrefix, Collecting.LacksMemoryFor, Collecting.RefusedBy, Stream.means, declared.twice.TwiceFault.TwiceFault}

-- A page is read into a sink and, if it is accepted, again into another.

-- The reading broke: a sink that was s has a part of the entries, or one of them broke.
pub record BreaksOff {S : Type 0} (g : Ghosts S) (s : S) (budget : ℕ) (p : List ℕ) (t : S) (r : Refusal) : Type 0 where
  pub place : BreaksWithin budget p r.place
  pub wants : cause_of r.fault ≡ memory → LacksMemoryFor g s budget p r.place
  pub failed : cause_of r.fault ≡ device → g.failed t ≡ true
  pub part : TookPrefix g s [] (means budget p).entries t (cause_of r.fault)

-- The reading broke at its sink alone: the reader itself lacked no memory, so none was lacking if the sink never wants any.
pub record BreaksAtSink {S : Type 0} (g : Ghosts S) (s : S) (budget : ℕ) (p : List ℕ) (t : S) (r : Refusal) : Type 0 where
  pub broke : BreaksOff g s budget p t r
  pub lacks : NeverWants g s → cause_of r.fault ≢ memory

-- a page is refused by itself, or its reading broke
abbrev pub EndsEarly : {S : Type 0} → Ghosts S → S → ℕ → List ℕ → S → Refusal → Cause → Type 0
EndsEarly g s budget p t r stream = (means budget p).refusal ≡ Some r
EndsEarly g s budget p t r _ = BreaksOff g s budget p t r

-- a page was read into a sink that was s
abbrev pub ReadsPage : {S : Type 0} → Ghosts S → S → ℕ → List ℕ → S → Result (Unit {0}) Refusal → Type 0
ReadsPage g s budget p t (Ok done) = ((means budget p).refusal ≡ None) × g.took s (means budget p).entries t
ReadsPage g s budget p t (Err r) = EndsEarly g s budget p t r (cause_of r.fault)

-- sinks that were s and u: both have all entries of the page; or it is refused, and nothing was put into the second; or it
-- is accepted, and the second reading broke at its sink; or it is accepted, and there was no memory to begin the second reading
abbrev pub ReadsTwice : {S T : Type 0} → Ghosts S → Ghosts T → S → T → ℕ → List ℕ → T → Result S TwiceFault → Type 0
ReadsTwice g h s u budget p v (Ok t) = ((means budget p).refusal ≡ None) × g.took s (means budget p).entries t × h.took u (means budget p).entries v
ReadsTwice g h s u budget p v (Err (TwiceFault.Refused r)) =
    (RefusedBy g s budget p r (cause_of r.fault) × (v ≡ u)) ⊎ (((means budget p).refusal ≡ None) × BreaksAtSink h u budget p v r)
ReadsTwice g h s u budget p v (Err TwiceFault.Memory) = ((means budget p).refusal ≡ None) × (v ≡ u)

-- a page was read into a sink that was s, and into one that was u
pub record IsReadTwice {S T : Type 0} (g : Ghosts S) (h : Ghosts T) (s : S) (u : T) (budget : ℕ) (p : List ℕ) (v : T) (found : Result S TwiceFault) : Type 0 where
  pub reads : ReadsTwice g h s u budget p v found
