use Rattle.std.specs.Prelude.{ℕ, ◌≡◌, Bool, true, false, List, [], length, take, Option, Some, Err}
use Rattle.std.specs.Io.KnownBytes.{Appends, append_known}
use Rattle.nap_list.specs.declared.device.Inlet as inlet
use Rattle.nap_command.specs.{declared.failure.Failure.Failure, Commands.Reports, Devices.Devices}
use Rattle.nap_cli.specs.CommandLine.{AnswersWords}

-- Standard error took e of what is reported, and the program ends with this status: that the output failed, with the
-- number of bytes that its writer took; that memory ran out for the notes; or the notes, with the status that went with
-- them.
abbrev pub Tells : Bool → Bool → ℕ → List ℕ → ℕ → List ℕ → Bool → ℕ → Type 0
Tells true lacks count notes ended e errors_failed status = Reports e errors_failed (Err (Failure.Write count)) status
Tells false true count notes ended e errors_failed status = Reports e errors_failed (Err Failure.Memory) status
Tells false false count notes ended e errors_failed status = (take (length e) notes ≡ e) × (errors_failed ≡ false → e ≡ notes) × (status ≡ ended)

-- the devices at the start: an output that took these bytes, and notes that are empty
abbrev pub devices_at_start : {I : Type 0} → inlet.Ghosts I → I → Option (List ℕ) → Devices
devices_at_start i start taken = record {
  pipes = record {
    left = i.left start;
    reads = i.calls start;
    input_failed = i.failed start;
    taken = taken;
    sent = false;
    flushes = 0;
    output_failed = false;
    write_failed = false;
  };
  reported = Some [];
  errors_failed = false;
}

-- The program ran over a writer that is buffered, which has taken the bytes of `sent`, if it tells them: the output of
-- the program took these and the rest. Standard error took a report, which for a write fault has the number of those that
-- the writer took.
pub record AnswersBuffered {I : Type 0} (i : inlet.Ghosts I) (words : List (List ℕ)) (start end : I) (before : Devices) (sent : Option (List ℕ)) (count : ℕ)
    (reported reported_after : Option (List ℕ)) (errors_failed : Bool) (status : ℕ) : Type 0 where
  pub after : Devices
  pub ended : ℕ
  pub answers : AnswersWords i words start end before after ended
  pub rest : List ℕ
  pub taken : after.pipes.taken ≡ append_known sent rest
  pub notes : List ℕ
  pub noted : after.reported ≡ Some notes
  pub e : List ℕ
  pub appended : Appends reported reported_after e
  pub tells : Tells after.pipes.output_failed after.errors_failed count notes ended e errors_failed status
