use Rattle.std.specs.Prelude.{Err, List, None, Ok, Option, Result, Some, [], length, true, ℕ, ◌^◌, ◌≡◌, ◌≤◌, ◌⊎◌}
use Rattle.nap_reader.specs.{Names.IsCutOff, Names.IsReadWhole, Names.NoneFailed, Names.ReadFailed, Names.Reading, Laws.WantsSome, declared.feeding.ReadFault.ReadFault}
use Rattle.nap_reader.specs.Shared.{Cause, stream, memory, device, Ghosts, Refusal, cause_of, BreaksWithin, LacksWithin, TookPrefix, means}

-- Reading of a page into a sink, without keeping its bytes.

-- memory was lacking to the reader itself, if it can be; or to the sink, for some of the first entries
abbrev pub LacksMemoryFor : {S : Type 0} → Ghosts S → S → ℕ → List ℕ → ℕ → Type 0
LacksMemoryFor g s budget p place = LacksWithin budget p place ⊎ WantsSome g s (means budget p).entries

-- the cause of a refusal: the stream; or lack of memory, or a failure of the device of the sink that was s, where that
-- can be
abbrev pub RefusedBy : {S : Type 0} → Ghosts S → S → ℕ → List ℕ → Refusal → Cause → Type 0
RefusedBy g s budget p r stream = (means budget p).refusal ≡ Some r
RefusedBy g s budget p r memory = BreaksWithin budget p r.place × LacksMemoryFor g s budget p r.place
RefusedBy {S = S} g s budget p r device = BreaksWithin budget p r.place × ((t : S) × (g.failed t ≡ true) × TookPrefix g s [] (means budget p).entries t device)

-- a sink that was s has all entries of the page; or the page is refused
abbrev pub Collects : {S : Type 0} → Ghosts S → S → ℕ → List ℕ → Result S Refusal → Type 0
Collects g s budget p (Ok t) = ((means budget p).refusal ≡ None) × g.took s (means budget p).entries t
Collects g s budget p (Err r) = RefusedBy g s budget p r (cause_of r.fault)

-- a page was read into a sink that was s
pub record IsRead {S : Type 0} (g : Ghosts S) (s : S) (budget : ℕ) (p : List ℕ) (found : Result S Refusal) : Type 0 where
  pub collects : Collects g s budget p found

-- all of the bytes p were read into the sink; or the input was cut off
abbrev pub IsCollected : {S : Type 0} → Ghosts S → S → ℕ → List ℕ → Reading → Result (Result S Refusal) ReadFault → Type 0
IsCollected g s budget p seen (Ok found) = IsReadWhole seen p × IsRead g s budget p found
IsCollected g s budget p seen (Err fault) = IsCutOff seen p

-- an input was read to its end; or a read failed, or the greatest number of reads was made
abbrev pub IsDrained : ℕ → List ℕ → Reading → Result (Unit {0}) ReadFault → Type 0
IsDrained most p seen (Ok done) = IsReadWhole seen p
IsDrained most p seen (Err fault) = ReadFailed seen p ⊎ (NoneFailed seen × (seen.reads ≡ most) × (most ≤ length p))

-- A page is read into a sink that counts.

-- the number of entries is n, if 64 bits can hold it
abbrev pub IsCount : Option ℕ → ℕ → Type 0
IsCount None n = 2 ^ 64 ≤ n
IsCount (Some k) n = k ≡ n

-- a sink that was s has all entries of the page, and this is their number; or the page is refused
abbrev pub CountsAll : {S : Type 0} → Ghosts S → S → ℕ → List ℕ → Result (S × Option ℕ) Refusal → Type 0
CountsAll g s budget p (Ok found) = ((means budget p).refusal ≡ None) × g.took s (means budget p).entries found.0 × IsCount found.1 (length (means budget p).entries)
CountsAll g s budget p (Err r) = RefusedBy g s budget p r (cause_of r.fault)

pub record IsCounted {S : Type 0} (g : Ghosts S) (s : S) (budget : ℕ) (p : List ℕ) (found : Result (S × Option ℕ) Refusal) : Type 0 where
  pub counts : CountsAll g s budget p found
