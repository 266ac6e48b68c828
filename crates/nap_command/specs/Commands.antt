use Rattle.hex.specs.Hex.{decode_of, encode_lower}
use Rattle.std.specs.Prelude.{Bool, Err, IsErr, List, Ok, Result, Some, [], codes, decimal, false, filter, length, not, take, true, ℕ, ◌++◌, ◌+◌, ◌==◌, ◌^◌, ◌||◌, ◌∷◌, ◌≡◌, ◌≢◌, ◌≤◌, ◌⊎◌}
use Rattle.nap_command.specs.Types.{Action, Appends, BreaksWithin, Command, Consumes, CountSink, Failure, Fault, IsAccepted, IsCanonicalOf, IsCutOff, IsReadWhole, LacksWithin, NoneFailed, Reading, Refusal, Verdict, flush_count, lines, list_of, means, reads_limit}
use Rattle.nap_reader.specs.declared.twice.TwiceFault.{TwiceFault}
use Rattle.nap_canon.specs.{declared.conversion.ConvertFault.ConvertFault, Converting.Converts, Converting.StopsAtOnce, Converting.count_of}
use Rattle.nap_list.specs.declared.device.Inlet as inlet
use Rattle.nap_command.specs.{Failures.exit_status, Failures.refusal_text, Failures.reported_text, Devices.Devices, Devices.reading_between}

-- The stream that a command reads.

-- a space, a tab, CR or LF
abbrev pub is_blank : ℕ → Bool
is_blank b = (b == 32) || (b == 9) || (b == 13) || (b == 10)

-- hexadecimal text without its blanks
abbrev pub hex_digits_of : List ℕ → List ℕ
hex_digits_of text = filter (λ b. not (is_blank b)) text

-- the stream of an input: its bytes, or those that its hexadecimal digits spell
abbrev pub IsStream : Bool → List ℕ → List ℕ → Type 0
IsStream false p stream = stream ≡ p
IsStream true p stream = decode_of (hex_digits_of p) ≡ Ok stream

-- What a command prints.

abbrev pub count_line : ℕ → List ℕ
count_line n = codes "accepted " ++ decimal n ++ codes " entries" ++ 10 ∷ []

-- the canonical stream; with hexadecimal text as lower-case digits and LF
abbrev pub canon_text : Bool → List ℕ → List ℕ
canon_text false text = text
canon_text true text = encode_lower text ++ 10 ∷ []

-- what is printed of a page whose entries were counted
abbrev pub PrintsCount : Result CountSink Refusal → List ℕ → Verdict → Type 0
PrintsCount (Ok s) q Verdict.Accepted = q ≡ count_line s.count
PrintsCount (Err r) q Verdict.Refused = q ≡ refusal_text r ++ 10 ∷ []
PrintsCount found q v = ⊥

-- The refusal is that of the stream. One for lack of memory has a place where the reader or an act of the stream can
-- lack it.
pub record IsStreamRefusal (c : Command) (stream : List ℕ) (r : Refusal) : Type 0 where
  pub refused : r.fault ≢ Fault.Memory → (means c.budget stream).refusal ≡ Some r
  pub memory : r.fault ≡ Fault.Memory → BreaksWithin c.budget stream r.place

-- A count lacks memory if the reader itself does, or if the number of entries exceeds 64 bits.
abbrev pub CountLacksMemory : Command → List ℕ → Refusal → Type 0
CountLacksMemory c stream r = r.fault ≡ Fault.Memory → LacksWithin c.budget stream r.place ⊎ (2 ^ 64 ≤ length (means c.budget stream).entries)

-- what an action prints of a stream, with its verdict; only `check` prints a refusal
abbrev pub PrintsBy : Action → Command → List ℕ → List ℕ → Verdict → Type 0
PrintsBy Action.List c stream q Verdict.Accepted = IsAccepted c.budget stream × (q ≡ lines (list_of c.budget stream))
PrintsBy Action.Check c stream q Verdict.Accepted = IsAccepted c.budget stream × (q ≡ count_line (length (list_of c.budget stream)))
PrintsBy Action.Check c stream q Verdict.Refused = (r : Refusal) × IsStreamRefusal c stream r × CountLacksMemory c stream r × (q ≡ refusal_text r ++ 10 ∷ [])
PrintsBy Action.Canon c stream q Verdict.Accepted = (text : List ℕ) × IsCanonicalOf c.budget text stream × (q ≡ canon_text c.hex text)
PrintsBy _ c stream q Verdict.Refused = ⊥

-- what a command prints of the bytes p, with its verdict
abbrev pub Prints : Command → List ℕ → List ℕ → Verdict → Type 0
Prints c p q v = (stream : List ℕ) × IsStream c.hex p stream × PrintsBy c.action c stream q v

-- why text isn't accepted as hexadecimal: it isn't, or memory ran out
abbrev pub FailsToSpell : List ℕ → Failure → Type 0
FailsToSpell text Failure.Hex = IsErr (decode_of (hex_digits_of text))
FailsToSpell text Failure.Memory = Unit {0}
FailsToSpell text _ = ⊥

-- why a command prints nothing of a stream: `list` and `canon` refuse it, or memory ran out
abbrev pub Denies : Command → List ℕ → Failure → Type 0
Denies c stream (Failure.Refused r) = (c.action ≢ Action.Check) × IsStreamRefusal c stream r
Denies c stream Failure.Memory = Unit {0}
Denies c stream _ = ⊥

-- why a command prints nothing of the bytes p
abbrev pub FailsOn : Command → List ℕ → Failure → Type 0
FailsOn c p Failure.Hex = (c.hex ≡ true) × IsErr (decode_of (hex_digits_of p))
FailsOn c p (Failure.Refused r) = (stream : List ℕ) × IsStream c.hex p stream × Denies c stream (Failure.Refused r)
FailsOn c p Failure.Memory = Unit {0}
FailsOn c p _ = ⊥

-- How a command ends.

-- why a command that read the bytes p prints nothing
abbrev pub Fails : Command → List ℕ → Reading → Failure → Type 0
Fails c p input Failure.Read = IsCutOff input p
Fails c p input Failure.Memory = NoneFailed input
Fails c p input f = IsReadWhole input p × FailsOn c p f

-- a command answers this for the bytes p
abbrev pub Finds : Command → List ℕ → Reading → List ℕ → Verdict → Type 0
Finds c p input q v = IsReadWhole input p × Prints c p q v

-- q is a prefix of what is found, and nothing after a failure
abbrev pub IsPartly : (List ℕ → Verdict → Type 0) → (Failure → Type 0) → List ℕ → Type 0
IsPartly finds fails q = ((whole : List ℕ) × (v : Verdict) × finds whole v × (take (length q) whole ≡ q)) ⊎ ((f : Failure) × fails f × (q ≡ []))

-- What is found was printed: q, which has this length, and a command ended like this. The output failed exactly if that
-- is how it ended.
abbrev pub EndsPrinting : (List ℕ → Verdict → Type 0) → (Failure → Type 0) → ℕ → List ℕ → Bool → Result Verdict Failure → Type 0
EndsPrinting finds fails size q false (Ok v) = finds q v
EndsPrinting finds fails size q true (Ok v) = ⊥
EndsPrinting finds fails size q false (Err f) = (q ≡ []) × fails f
EndsPrinting finds fails size q true (Err (Failure.Write taken)) = (taken ≡ size) × IsPartly finds fails q
EndsPrinting finds fails size q true (Err _) = ⊥

-- `check` or `canon` read the bytes p, printed q, and ended like this
abbrev pub EndsWhole : Command → List ℕ → Reading → List ℕ → Bool → Result Verdict Failure → Type 0
EndsWhole c p input q failed ended = EndsPrinting (Finds c p input) (Fails c p input) (length q) q failed ended

-- `list` read the bytes p, and printed q once all of the page was accepted. If it fails it prints nothing, unless a write
-- fails.
abbrev pub EndsListed : Command → List ℕ → Reading → List ℕ → Bool → Result Verdict Failure → Type 0
EndsListed c p input q failed ended = EndsPrinting (Finds c p input) (Fails c p input) (count_of q) q failed ended

-- an output took q of a text, and failed; or it took all of the text, and a command ended like this
abbrev pub IsPrinted : List ℕ → Result Verdict Failure → List ℕ → Bool → Result Verdict Failure → Type 0
IsPrinted text ended q false outcome = (q ≡ text) × (outcome ≡ ended)
IsPrinted text ended q true outcome = (outcome ≡ Err (Failure.Write (length q))) × (take (length q) text ≡ q)

-- how a command ends after reading with this result, where the output took a number of bytes and has failed or hasn't
abbrev pub ended_so : {S : Type 0} → Result S TwiceFault → Result Verdict Failure
ended_so (Ok s) = Ok Verdict.Accepted
ended_so (Err (TwiceFault.Refused r)) = Err (Failure.Refused r)
ended_so (Err TwiceFault.Memory) = Err Failure.Memory

abbrev pub EndsSo : {S : Type 0} → Result S TwiceFault → ℕ → Bool → Result Verdict Failure → Type 0
EndsSo found n true ended = ended ≡ Err (Failure.Write n)
EndsSo found n false ended = ended ≡ ended_so found

-- a command that prints once all of its input is read
abbrev pub EndsByAction : Action → Command → List ℕ → Reading → List ℕ → Bool → Result Verdict Failure → Type 0
EndsByAction Action.List c p input q failed ended = EndsListed c p input q failed ended
EndsByAction _ c p input q failed ended = EndsWhole c p input q failed ended

-- how a command ends that converts a page
abbrev pub verdict_of_conversion : Result ℕ ConvertFault → Result Verdict Failure
verdict_of_conversion (Ok n) = Ok Verdict.Accepted
verdict_of_conversion (Err (ConvertFault.Refused r n)) = Err (Failure.Refused r)
verdict_of_conversion (Err (ConvertFault.Read n)) = Err Failure.Read
verdict_of_conversion (Err (ConvertFault.Write n)) = Err (Failure.Write n)

-- A command that prints as it reads converted the bytes p to q, and ended like this.
pub record EndsStreamed (c : Command) (p : List ℕ) (input : Reading) (q : List ℕ) (failed : Bool) (ended : Result Verdict Failure) : Type 0 where
  pub converted : Result ℕ ConvertFault
  pub converts : Converts c.budget p input q failed converted
  pub ended_is : ended ≡ verdict_of_conversion converted

-- Hexadecimal text isn't converted: nothing was read and nothing printed.
pub record EndsExcluded (p : List ℕ) (input : Reading) (q : List ℕ) (failed : Bool) (ended : Result Verdict Failure) : Type 0 where
  pub nothing : p ≡ []
  pub unread : input.reads ≡ 0
  pub none_failed : NoneFailed input
  pub unprinted : q ≡ []
  pub works : failed ≡ false
  pub ended_is : ended ≡ Err Failure.Excluded

-- a command with or without `--stream`, and with or without `--hex`
abbrev pub EndsByOptions : Bool → Bool → Command → List ℕ → Reading → List ℕ → Bool → Result Verdict Failure → Type 0
EndsByOptions false hex c p input q failed ended = EndsByAction c.action c p input q failed ended
EndsByOptions true false c p input q failed ended = EndsStreamed c p input q failed ended
EndsByOptions true true c p input q failed ended = EndsExcluded p input q failed ended

-- a command read the bytes p, printed q, and ended like this
abbrev pub CommandEnds : Command → List ℕ → Reading → List ℕ → Bool → Result Verdict Failure → Type 0
CommandEnds c p input q failed ended = EndsByOptions c.stream c.hex c p input q failed ended

-- A command that prints as it reads reads nothing after a failed write or a refusal.
abbrev pub StreamsAtOnce : {I : Type 0} → inlet.Ghosts I → Command → List ℕ → I → I → List ℕ → Type 0
StreamsAtOnce i c p start end q = c.stream ≡ true → c.hex ≡ false → StopsAtOnce i c.budget p start end q

-- the number of flushes of an output after a command with or without `--stream` and `--hex`: one more if no write
-- failed; none more if both options exclude each other
abbrev pub flushed_by : Bool → Bool → Bool → ℕ → ℕ
flushed_by false hex write_failed n = flush_count write_failed n
flushed_by true false write_failed n = flush_count write_failed n
flushed_by true true write_failed n = n

-- Standard error took e of a line: all of it, unless it failed.
pub record Reported (line e : List ℕ) (failed : Bool) : Type 0 where
  pub prefix : take (length e) line ≡ e
  pub all : failed ≡ false → e ≡ line

-- standard error took e when a command ended like this, and the exit status says the same
abbrev pub Reports : List ℕ → Bool → Result Verdict Failure → ℕ → Type 0
Reports e failed ended status = Reported (reported_text ended) e failed × (status ≡ exit_status ended)

-- all that was printed was flushed, unless the output failed or the command isn't executed
abbrev pub SendsOn : Result Verdict Failure → Bool → Bool → Type 0
SendsOn ended failed sent = failed ≡ false → (sent ≡ true) ⊎ (ended ≡ Err Failure.Excluded)

-- A command ran on an input, from the devices before to those after, with this exit status: it read the bytes p,
-- printed q and reported e.
pub record Ran {I : Type 0} (i : inlet.Ghosts I) (c : Command) (start end : I) (before after : Devices) (status : ℕ) : Type 0 where
  pub p : List ℕ
  pub q : List ℕ
  pub e : List ℕ
  pub ended : Result Verdict Failure
  pub read : Consumes before.pipes.left after.pipes.left p
  pub printed : Appends before.pipes.taken after.pipes.taken q
  pub reported : Appends before.reported after.reported e
  pub few : after.pipes.reads ≤ before.pipes.reads + reads_limit
  pub ends : CommandEnds c p (reading_between before.pipes after.pipes) q after.pipes.output_failed ended
  pub stops : StreamsAtOnce i c p start end q
  pub sends : SendsOn ended after.pipes.output_failed after.pipes.sent
  pub flushes : after.pipes.flushes ≡ flushed_by c.stream c.hex after.pipes.write_failed before.pipes.flushes
  pub tells : Reports e after.errors_failed ended status
