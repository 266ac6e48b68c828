use Rattle.nap_list.specs.declared.device.Outlet as outlet
use Rattle.nap_list.specs.Flushing as flushing
use Rattle.nap_command.specs.{Commands.Reported, Devices.Devices, Devices.Pipes, Devices.reading_between, Failures.failure_text, Answers.IsAnswer, Answers.answer_text, Buffering.Buffered, Limits.requests_limit, Requests.IsRequest, Waiting.ReadingEnds}
use Rattle.std.specs.Prelude.{All, Bool, Err, List, Ok, Result, [], codes, false, flat_map, length, max, min, take, true, ℕ, ◌++◌, ◌+◌, ◌-◌, ◌^◌, ◌∷◌, ◌≡◌, ◌≢◌, ◌≤◌, ◌⊎◌}
use Rattle.nap_command.specs.Types.{Appends, Consumes, Ended, Failure, Question, read_limit}

-- a question, with its bytes, and its answer
pub record Exchange : Type 0 where
  pub asked : List ℕ
  pub question : Question
  pub budget : ℕ
  pub page : List ℕ
  pub answered : List ℕ

-- the answer if memory ran out for one
abbrev pub no_memory : List ℕ
no_memory = codes "no memory" ++ 10 ∷ (codes "0" ++ 10 ∷ [])

-- the answer to a request: a line and a body, or lack of memory
abbrev pub IsAnswered : Question → ℕ → List ℕ → List ℕ → Type 0
IsAnswered q budget page out =
    ((line : List ℕ) × (body : List ℕ) × IsAnswer q budget page line body × (out ≡ answer_text line body)) ⊎ (out ≡ no_memory)

pub record IsExchange (x : Exchange) : Type 0 where
  pub request : IsRequest x.asked x.question x.budget x.page
  pub answer : IsAnswered x.question x.budget x.page x.answered

-- a sum that saturates at 2^64 - 1
abbrev pub count_on : ℕ → ℕ → ℕ
count_on count more = min (count + more) (2 ^ 64 - 1)

-- the number of flushes after one more, saturating at 2^64 - 1
abbrev pub flushed_once : ℕ → ℕ
flushed_once n = flushing.flush_count false n

-- an output took all of a text after a number of bytes, and was flushed; or it failed during the text
abbrev pub SendsText : {O : Type 0} → outlet.Ghosts O → ℕ → List ℕ → O → O → Result ℕ Ended → Type 0
SendsText o written text before after (Ok n) =
    Appends (o.taken before) (o.taken after) text × (n ≡ count_on written (length text)) × (o.failed after ≡ o.failed before) × (o.sent after ≡ true)
    × (o.failed before ≡ false → o.flushes after ≡ flushed_once (o.flushes before))
SendsText o written text before after (Err (Ended.Write n)) =
    (part : List ℕ) × Appends (o.taken before) (o.taken after) part × (take (length part) text ≡ part) × (n ≡ count_on written (length part)) × (o.failed after ≡ true)
    × (o.failed before ≡ false → flushing.FlushedOnce o before after)
SendsText o written text before after (Err _) = ⊥

pub record IsSent {O : Type 0} (o : outlet.Ghosts O) (written : ℕ) (text : List ℕ) (before after : O) (result : Result ℕ Ended) : Type 0 where
  pub sends : SendsText o written text before after result

-- a request was answered like this after a number of bytes, or the output failed during the answer
abbrev pub Replies : {O : Type 0} → outlet.Ghosts O → ℕ → Question → ℕ → List ℕ → O → O → Result ℕ Ended → Type 0
Replies o written q budget page before after result = (text : List ℕ) × IsAnswered q budget page text × IsSent o written text before after result

-- How a run ends, with these bytes after the last answered request, and these after its answer: reading ended, there
-- were as many requests as allowed, a write failed during an answer, or there was no memory before anything was read or
-- written.
abbrev pub RunEnds : Pipes → Pipes → List Exchange → List ℕ → List ℕ → Ended → Type 0
RunEnds before after xs rest part (Ended.Write n) =
    (x : Exchange) × (following : List ℕ) × IsExchange x × (rest ≡ x.asked ++ following) × (take (length part) x.answered ≡ part)
    × (n ≡ min (length (flat_map (λ x. x.answered) xs ++ part)) (2 ^ 64 - 1)) × (after.output_failed ≡ true) × (after.input_failed ≡ before.input_failed)
RunEnds before after xs rest part Ended.Request =
    (part ≡ []) × (ReadingEnds (reading_between before after) rest Ended.Request ⊎ ((length xs ≡ requests_limit) × (after.input_failed ≡ before.input_failed)))
    × (after.output_failed ≡ before.output_failed)
RunEnds before after xs rest part Ended.Memory = (xs ≡ []) × (rest ≡ []) × (part ≡ []) × (after ≡ before)
RunEnds before after xs rest part end = (part ≡ []) × ReadingEnds (reading_between before after) rest end × (after.output_failed ≡ before.output_failed)

-- an output was flushed n times more, saturating at 2^64 - 1
abbrev pub FlushedTimes : ℕ → ℕ → ℕ → Type 0
FlushedTimes n before after = (n ≡ 0 → after ≡ before) × (n ≢ 0 → after ≡ min (before + n) (2 ^ 64 - 1))

-- The number of flushes for a number of answers: one for each. If a write of the next answer failed there is no more;
-- if its flush failed there is one more.
abbrev pub flushes_of : Ended → Bool → ℕ → ℕ
flushes_of (Ended.Write n) false answers = answers + 1
flushes_of end write_failed answers = answers

-- Requests were answered, one after another, from the devices before to those after, and the run ended like this.
pub record Session (before after : Pipes) (end : Ended) : Type 0 where
  pub exchanges : List Exchange
  pub each : All IsExchange exchanges
  pub rest : List ℕ
  pub part : List ℕ
  pub read : Consumes before.left after.left (flat_map (λ x. x.asked) exchanges ++ rest)
  pub sent : Appends before.taken after.taken (flat_map (λ x. x.answered) exchanges ++ part)
  pub ends : RunEnds before after exchanges rest part end
  pub flushed : exchanges ≢ [] → after.output_failed ≡ false → after.sent ≡ true
  pub each_flushed : before.output_failed ≡ false → FlushedTimes (flushes_of end after.write_failed (length exchanges)) before.flushes after.flushes

-- One request was answered: the buffer was old before and is new now, and the output took n bytes in all. The buffer has
-- memory for the request and one read, and for more only if it had it before.
pub record AnswersRequest (written : ℕ) (old new : Buffered) (before after : Pipes) (n : ℕ) : Type 0 where
  pub exchange : Exchange
  pub is_exchange : IsExchange exchange
  pub bytes : List ℕ
  pub read : Consumes before.left after.left bytes
  pub parts : old.bytes ++ bytes ≡ exchange.asked ++ new.bytes
  pub keeps : new.memory ≤ max old.memory (length exchange.asked + read_limit)
  pub sent : Appends before.taken after.taken exchange.answered
  pub count : n ≡ count_on written (length exchange.answered)
  pub input_works : after.input_failed ≡ before.input_failed
  pub output_works : after.output_failed ≡ before.output_failed
  pub flushed : after.sent ≡ true
  pub once : before.output_failed ≡ false → after.flushes ≡ flushed_once before.flushes

-- how a run ends where no request is answered
abbrev pub StopsIn : ℕ → List ℕ → List ℕ → Pipes → Pipes → Ended → Type 0
StopsIn written rest part before after (Ended.Write n) =
    (x : Exchange) × (following : List ℕ) × IsExchange x × (rest ≡ x.asked ++ following) × (take (length part) x.answered ≡ part)
    × (n ≡ count_on written (length part)) × (after.output_failed ≡ true) × (after.input_failed ≡ before.input_failed)
    × (before.output_failed ≡ false → after.flushes ≡ flushing.flush_count after.write_failed before.flushes)
StopsIn written rest part before after end = (part ≡ []) × ReadingEnds (reading_between before after) rest end × (after.output_failed ≡ before.output_failed)

-- No request was answered, and the run ends.
pub record StopsServing (written : ℕ) (old : List ℕ) (before after : Pipes) (end : Ended) : Type 0 where
  pub bytes : List ℕ
  pub part : List ℕ
  pub read : Consumes before.left after.left bytes
  pub sent : Appends before.taken after.taken part
  pub stops : StopsIn written (old ++ bytes) part before after end
  pub flushed : before.sent ≡ true → after.output_failed ≡ false → after.sent ≡ true
  pub none_more : after.output_failed ≡ false → after.flushes ≡ before.flushes

abbrev pub IsExchanged : ℕ → Buffered → Buffered → Pipes → Pipes → Result ℕ Ended → Type 0
IsExchanged written old new before after (Ok n) = AnswersRequest written old new before after n
IsExchanged written old new before after (Err end) = StopsServing written old.bytes before after end

-- what standard error reports of how a run ended
abbrev pub ended_text : Ended → List ℕ
ended_text Ended.Done = []
ended_text Ended.Request = codes "request fault" ++ 10 ∷ []
ended_text Ended.Read = failure_text Failure.Read ++ 10 ∷ []
ended_text (Ended.Write n) = failure_text (Failure.Write n) ++ 10 ∷ []
ended_text Ended.Memory = failure_text Failure.Memory ++ 10 ∷ []

abbrev pub ended_status : Ended → ℕ
ended_status Ended.Done = 0
ended_status _ = 3

-- The command ran from the devices before to those after, with this exit status.
pub record Served (before after : Devices) (status : ℕ) : Type 0 where
  pub end : Ended
  pub session : Session before.pipes after.pipes end
  pub e : List ℕ
  pub reported : Appends before.reported after.reported e
  pub tells : Reported (ended_text end) e after.errors_failed
  pub status_is : status ≡ ended_status end
