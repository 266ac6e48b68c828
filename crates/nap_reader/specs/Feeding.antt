use Rattle.std.specs.Prelude.{Bool, Err, List, None, Ok, Option, Result, Some, false, length, slice_index, take, true, ℕ, ⊤, ◌++◌, ◌+◌, ◌<◌, ◌≡◌, ◌≢◌, ◌≤◌}
use Rattle.nap_reader.specs.Names.{Consumes, IsCutOff, IsReadWhole, NoneFailed, Reading, reading}
use Rattle.nap_reader.specs.{Shared.Ghosts, Shared.Refusal, Shared.Reader, Shared.cause_of, Shared.begun, declared.fault.Fault.Fault, declared.feeding.FeedFault.FeedFault}
use Rattle.nap_list.specs.declared.device.Inlet as inlet
use Rattle.nap_reader.specs.ReaderAnswers.{HasRead, StopsBy, budget_of, left_of, refusal_of, sink_of}

-- Feeding a reader what an input gives.

-- The last read of an input that gave the bytes p: how the input was before the read, and the bytes that it had given
-- by then, which show no refusal. Each read up to there gave at least one byte.
pub record LastRead {I : Type 0} (i : inlet.Ghosts I) (budget : ℕ) (p : List ℕ) (start end : I) : Type 0 where
  pub mid : I
  pub before : List ℕ
  pub last : List ℕ
  pub parts : p ≡ before ++ last
  pub gave : Consumes (i.left start) (i.left mid) before
  pub gives : Consumes (i.left mid) (i.left end) last
  pub reads : i.calls mid ≤ i.calls start + length before
  pub once : i.calls end ≤ i.calls mid + 1
  pub unrefused : (begun budget before).refusal ≡ None

-- the input was read to its end; or it failed, or was read too often, before its end; or the stream was refused
abbrev pub EndsBy : List ℕ → Reading → Option Refusal → Result (Unit {0}) FeedFault → Type 0
EndsBy p seen refusal (Ok done) = IsReadWhole seen p × (refusal ≡ None)
EndsBy p seen refusal (Err FeedFault.Read) = IsCutOff seen p × (refusal ≡ None)
EndsBy p seen refusal (Err (FeedFault.Refused r)) = NoneFailed seen × (refusal ≡ Some r)

-- a refusal came at a byte of the last read
abbrev pub StopsInLast : {S : Type 0} → Ghosts S → S → ℕ → List ℕ → List ℕ → S → ℕ → Result (Unit {0}) FeedFault → Type 0
StopsInLast g s budget before last t left (Err (FeedFault.Refused r)) =
    (i : ℕ) × (i < length last) × StopsBy g s budget (before ++ take i last) (slice_index last i) t left r (cause_of r.fault)
StopsInLast g s budget before last t left _ = ⊤

-- A reader that had read no bytes was fed the bytes p.
pub record Feeds {I S : Type 0} (i : inlet.Ghosts I) {g : Ghosts S} (old new : Reader S g) (s : S) (p : List ℕ) (start end : I) (answer : Result (Unit {0}) FeedFault) : Type 0 where
  pub has_read : HasRead new s p
  pub last : LastRead i (budget_of old) p start end
  pub ends : EndsBy p (reading i start end) (refusal_of new) answer
  pub stops : StopsInLast g s (budget_of old) last.before last.last (sink_of new) (left_of new) answer

-- whether the sink has failed, which is so only if that is the refusal
abbrev pub FailsBy : Bool → Result (Unit {0}) FeedFault → Type 0
FailsBy failed (Err (FeedFault.Refused r)) = (r.fault ≡ Fault.Sink → failed ≡ true) × (r.fault ≢ Fault.Sink → failed ≡ false)
FailsBy failed _ = failed ≡ false
