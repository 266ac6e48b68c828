use Rattle.std.specs.Prelude.{Bool, Err, List, Ok, Option, Result, false, length, take, ℕ, ◌-◌, ◌<◌, ◌^◌, ◌≡◌, ◌≤◌}
use Rattle.nap_command.specs.Types.{Appends, Failure, IsCutOff, NoneFailed, Reading}
use Rattle.nap_list.specs.declared.device.Inlet as inlet
use Rattle.nap_list.specs.declared.device.Outlet as outlet

-- The input and the output of a command: the bytes left and the bytes taken, if they tell them; the number of reads;
-- whether the output was flushed after its last write, and the number of flushes; which of them have failed, and whether
-- a write of the output has.
pub record Pipes : Type 0 where
  pub left : Option (List ℕ)
  pub reads : ℕ
  pub input_failed : Bool
  pub taken : Option (List ℕ)
  pub sent : Bool
  pub flushes : ℕ
  pub output_failed : Bool
  pub write_failed : Bool

abbrev pub pipes : {I O : Type 0} → inlet.Ghosts I → outlet.Ghosts O → I → O → Pipes
pipes i o input output = record {
  left = i.left input;
  reads = i.calls input;
  input_failed = i.failed input;
  taken = o.taken output;
  sent = o.sent output;
  flushes = o.flushes output;
  output_failed = o.failed output;
  write_failed = o.write_failed output;
}

abbrev pub reading_between : Pipes → Pipes → Reading
reading_between before after = record { left = after.left; failed_before = before.input_failed; failed = after.input_failed; reads = after.reads - before.reads }

-- The three devices of a command: its input and output, the bytes that standard error took, if it tells them, and
-- whether that has failed.
pub record Devices : Type 0 where
  pub pipes : Pipes
  pub reported : Option (List ℕ)
  pub errors_failed : Bool

abbrev pub devices : {I O E : Type 0} → inlet.Ghosts I → outlet.Ghosts O → outlet.Ghosts E → I → O → E → Devices
devices i o e input output errors = record { pipes = pipes i o input output; reported = e.taken errors; errors_failed = e.failed errors }

-- A command may run: its input was read less than 2^63 times, and its output hasn't failed.
pub record Ready {I O : Type 0} (i : inlet.Ghosts I) (o : outlet.Ghosts O) (input : I) (output : O) : Type 0 where
  pub calls : i.calls input < 2 ^ 63
  pub works : o.failed output ≡ false

-- why reading the bytes p gave no answer: the input was cut off, or memory ran out
abbrev pub FailsReading : Reading → List ℕ → Failure → Type 0
FailsReading r p Failure.Read = IsCutOff r p
FailsReading r p Failure.Memory = NoneFailed r
FailsReading r p _ = ⊥

-- an output that had these bytes took all of the text, or failed after a number of bytes of it
abbrev pub TakesText : Option (List ℕ) → Option (List ℕ) → List ℕ → Result (Unit {0}) Failure → Type 0
TakesText old new text (Ok done) = Appends old new text
TakesText old new text (Err (Failure.Write taken)) = (taken ≤ length text) × Appends old new (take taken text)
TakesText old new text (Err _) = ⊥
