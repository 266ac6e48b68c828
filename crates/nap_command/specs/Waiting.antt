use Rattle.nap_list.specs.declared.device.Inlet as inlet
use Rattle.nap_list.specs.declared.device.DeviceFault.{DeviceFault}
use Rattle.std.specs.Prelude.{Err, List, Ok, Result, [], length, true, ℕ, ◌++◌, ◌+◌, ◌<◌, ◌∷◌, ◌≡◌, ◌≢◌, ◌≤◌, ◌⊎◌}
use Rattle.nap_command.specs.Types.{Consumes, Ended, FoundRequest, IsAtEnd, Keeps, NoneFailed, Question, ReadStep, Reading, Stop, read_limit, reading, reads_limit}
use Rattle.nap_command.specs.Buffering.{Buffered, KeepsWithin}
use Rattle.nap_command.specs.Requests.{IsBegun, IsRequest, IsWhole, NeverStarts}

-- Reading of the bytes of requests.

-- one read appended a number of bytes, or none, and no byte was lost
abbrev pub ReadsOn : {I : Type 0} → inlet.Ghosts I → List ℕ → List ℕ → I → I → Result ℕ Stop → Type 0
ReadsOn i old new before after (Ok n) =
    (piece : List ℕ) × Consumes (i.left before) (i.left after) piece × (new ≡ old ++ piece) × (length piece ≡ n)
    × (n ≡ 0 → IsAtEnd (i.left after)) × (i.failed after ≡ i.failed before)
ReadsOn i old new before after (Err Stop.Memory) = (new ≡ old) × (after ≡ before)
ReadsOn i old new before after (Err Stop.Read) = (new ≡ old) × Keeps (i.left before) (i.left after) × (i.failed after ≡ true)

pub record IsReadOn {I : Type 0} (i : inlet.Ghosts I) (old new : List ℕ) (before after : I) (result : Result ℕ Stop) : Type 0 where
  pub reads : ReadsOn i old new before after result

-- one read gave a number of bytes up to this one; none only at the end
abbrev pub ReadsSome : {I : Type 0} → inlet.Ghosts I → ℕ → I → I → Result ℕ DeviceFault → Type 0
ReadsSome i most before after (Ok n) =
    (piece : List ℕ) × Consumes (i.left before) (i.left after) piece × (length piece ≡ n) × (n ≤ most) × (n ≡ 0 → IsAtEnd (i.left after)) × (i.failed after ≡ i.failed before)
ReadsSome i most before after (Err f) = Keeps (i.left before) (i.left after) × (i.failed after ≡ true)

-- the bytes p were read and dropped: all that were missing; or the input ended before, or was cut off
abbrev pub Skips : ℕ → ℕ → Reading → List ℕ → Result (Unit {0}) Ended → Type 0
Skips missing most seen p (Ok done) = (length p ≡ missing) × NoneFailed seen
Skips missing most seen p (Err Ended.Request) = (length p < missing) × IsAtEnd seen.left × NoneFailed seen
Skips missing most seen p (Err Ended.Read) = (length p < missing) × ((seen.failed ≡ true) ⊎ ((most ≤ length p) × NoneFailed seen))
Skips missing most seen p (Err _) = ⊥

pub record IsSkipped {I : Type 0} (i : inlet.Ghosts I) (missing most : ℕ) (before after : I) (result : Result (Unit {0}) Ended) : Type 0 where
  pub bytes : List ℕ
  pub read : Consumes (i.left before) (i.left after) bytes
  pub skips : Skips missing most (reading i before after) bytes result

-- how the input ends after these bytes
abbrev pub end_of : List ℕ → Ended
end_of [] = Ended.Done
end_of (b ∷ bytes) = Ended.Request

-- How reading ends, with these bytes after the last request: the input ended between two requests, the bytes are no
-- request or an incomplete one at the end, or the input was cut off. Memory never runs out for a line.
abbrev pub ReadingEnds : Reading → List ℕ → Ended → Type 0
ReadingEnds seen rest Ended.Done = (rest ≡ []) × IsAtEnd seen.left × NoneFailed seen
ReadingEnds seen rest Ended.Request = (NeverStarts rest ⊎ ((rest ≢ []) × IsBegun rest × IsAtEnd seen.left)) × NoneFailed seen
ReadingEnds seen rest Ended.Read = IsBegun rest × ((seen.failed ≡ true) ⊎ ((reads_limit ≤ length rest) × NoneFailed seen))
ReadingEnds seen rest _ = ⊥

-- the bytes are a request
abbrev pub IsAsked : List ℕ → Type 0
IsAsked bytes = (q : Question) × (budget : ℕ) × (page : List ℕ) × IsRequest bytes q budget page

-- these bytes are a request that was dropped, for which the buffer had too little memory
pub record IsDropped (new : Buffered) (all : List ℕ) : Type 0 where
  pub empty : new.bytes ≡ []
  pub asked : IsAsked all
  pub lacked : new.memory < length all + read_limit

-- one read appended bytes, or read all of a request, which was dropped, or was the end
abbrev pub TakesStep : Reading → Buffered → Buffered → List ℕ → Result ReadStep Ended → Type 0
TakesStep seen old new bytes (Ok ReadStep.Longer) = (new.bytes ≡ old.bytes ++ bytes) × (0 < length bytes) × NoneFailed seen
TakesStep seen old new bytes (Ok ReadStep.Dropped) = IsDropped new (old.bytes ++ bytes) × NoneFailed seen
TakesStep seen old new bytes (Err end) = ReadingEnds seen (old.bytes ++ bytes) end

pub record IsStep {I : Type 0} (i : inlet.Ghosts I) (old new : Buffered) (before after : I) (result : Result ReadStep Ended) : Type 0 where
  pub bytes : List ℕ
  pub read : Consumes (i.left before) (i.left after) bytes
  pub steps : TakesStep (reading i before after) old new bytes result
  pub keeps : KeepsWithin (old.bytes ++ bytes) old.memory new.memory

-- what the bytes begin with after the last allowed read
abbrev pub IsLast : List ℕ → Result FoundRequest Ended → Type 0
IsLast bytes (Ok (FoundRequest.Whole line start)) = IsWhole bytes line start
IsLast bytes (Ok FoundRequest.Dropped) = ⊥
IsLast bytes (Err Ended.Request) = NeverStarts bytes
IsLast bytes (Err Ended.Read) = IsBegun bytes
IsLast bytes (Err _) = ⊥

-- of all bytes read, these are in the buffer: they begin with a complete request, or the request was dropped
abbrev pub FindsRequest : Reading → List ℕ → Buffered → Result FoundRequest Ended → Type 0
FindsRequest seen all buffered (Ok (FoundRequest.Whole line start)) = (buffered.bytes ≡ all) × IsWhole all line start × NoneFailed seen
FindsRequest seen all buffered (Ok FoundRequest.Dropped) = IsDropped buffered all × NoneFailed seen
FindsRequest seen all buffered (Err end) = ReadingEnds seen all end

pub record IsFound {I : Type 0} (i : inlet.Ghosts I) (old new : Buffered) (before after : I) (result : Result FoundRequest Ended) : Type 0 where
  pub bytes : List ℕ
  pub read : Consumes (i.left before) (i.left after) bytes
  pub finds : FindsRequest (reading i before after) (old.bytes ++ bytes) new result
  pub keeps : KeepsWithin (old.bytes ++ bytes) old.memory new.memory
