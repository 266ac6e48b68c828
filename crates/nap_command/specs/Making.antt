use Rattle.std.specs.Prelude.{Bool, Err, List, Ok, Result, false, length, true, ℕ, ◌+◌, ◌≡◌, ◌≤◌}
use Rattle.nap_command.specs.Types.{Appends, Consumes, Failure, IsCutOff, IsMadeOf, IsReadWhole, MakeFault, NoneFailed, Reading, Verdict, flush_count, reads_limit}
use Rattle.nap_make.specs.{declared.page.PageFault.PageFault, Pages.MakesPage, Pages.RefusesLinesBy, Pages.ReadsNoMore}
use Rattle.nap_command.specs.{Commands.EndsPrinting, Commands.Reports, Devices.Devices, Devices.reading_between}

-- `make` prints the page that lines make.

-- the failure of lines that make no page; a failed write to memory is lack of memory
abbrev pub failure_of : MakeFault → Failure
failure_of (MakeFault.Line number column) = Failure.Line number column
failure_of (MakeFault.Misfit number) = Failure.Misfit number
failure_of (MakeFault.Open number opening) = Failure.Open number opening
failure_of MakeFault.Memory = Failure.Memory
failure_of MakeFault.Write = Failure.Memory

-- all of the lines p were read, and they make the page q
abbrev pub FindsPage : List ℕ → Reading → List ℕ → Verdict → Type 0
FindsPage p seen q v = (v ≡ Verdict.Accepted) × IsReadWhole seen p × IsMadeOf q p

-- The lines p make no page.
pub record FindsNoPage (p : List ℕ) (seen : Reading) (f : Failure) : Type 0 where
  pub fault : MakeFault
  pub before : List ℕ
  pub refuses : RefusesLinesBy p seen before fault
  pub fails : f ≡ failure_of fault

-- why nothing is printed of the lines p: the input failed or was read too often; memory ran out, and no read failed; or
-- they make no page
abbrev pub FailsToMake : List ℕ → Reading → Failure → Type 0
FailsToMake p seen Failure.Read = IsCutOff seen p
FailsToMake p seen Failure.Memory = NoneFailed seen
FailsToMake p seen f = FindsNoPage p seen f

-- `make` read the lines p, printed q at the end, and ended like this
abbrev pub EndsMadeWhole : List ℕ → Reading → List ℕ → Bool → Result Verdict Failure → Type 0
EndsMadeWhole p seen q failed ended = EndsPrinting (FindsPage p seen) (FailsToMake p seen) (length q) q failed ended

-- how `make` ends that prints as it reads
abbrev pub verdict_of_page : Result ℕ PageFault → Result Verdict Failure
verdict_of_page (Ok n) = Ok Verdict.Accepted
verdict_of_page (Err (PageFault.Lines fault n)) = Err (failure_of fault)
verdict_of_page (Err (PageFault.Read n)) = Err Failure.Read
verdict_of_page (Err (PageFault.Write n)) = Err (Failure.Write n)

-- `make` printed as it read, and read nothing after a failed write.
pub record EndsMadeStreamed (p : List ℕ) (seen : Reading) (q : List ℕ) (failed broke : Bool) (ended : Result Verdict Failure) : Type 0 where
  pub made : Result ℕ PageFault
  pub makes : MakesPage p seen q failed made
  pub stops : ReadsNoMore broke p seen
  pub ended_is : ended ≡ verdict_of_page made

-- `make` with or without `--stream`, by whether its output has failed, and whether by a write
abbrev pub EndsMade : Bool → List ℕ → Reading → List ℕ → Bool → Bool → Result Verdict Failure → Type 0
EndsMade true p seen q failed broke ended = EndsMadeStreamed p seen q failed broke ended
EndsMade false p seen q failed broke ended = EndsMadeWhole p seen q failed ended

-- `make` ran from the devices before to those after, with this exit status: it read the bytes p, printed q and reported
-- e.
pub record Made (stream : Bool) (before after : Devices) (status : ℕ) : Type 0 where
  pub p : List ℕ
  pub q : List ℕ
  pub e : List ℕ
  pub ended : Result Verdict Failure
  pub read : Consumes before.pipes.left after.pipes.left p
  pub printed : Appends before.pipes.taken after.pipes.taken q
  pub reported : Appends before.reported after.reported e
  pub few : after.pipes.reads ≤ before.pipes.reads + reads_limit
  pub ends : EndsMade stream p (reading_between before.pipes after.pipes) q after.pipes.output_failed after.pipes.write_failed ended
  pub sends : after.pipes.output_failed ≡ false → after.pipes.sent ≡ true
  pub flushes : after.pipes.flushes ≡ flush_count after.pipes.write_failed before.pipes.flushes
  pub tells : Reports e after.errors_failed ended status
