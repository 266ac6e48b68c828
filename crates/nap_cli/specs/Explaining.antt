use Rattle.std.specs.Prelude.{Bool, Err, List, Ok, Option, Result, [], false, flat_map, if◌then◌else◌, map, nat_le, true, ℕ, ◌%◌, ◌&&◌, ◌/◌, ◌==◌, ◌||◌, ◌∷◌, ◌≡◌, ◌⊎◌}
use Rattle.std.specs.{Char.digit_char, List.list_all, Io.KnownBytes.Appends}
use Rattle.clap.specs.declared.error.kind.ErrorKind.{ErrorKind}
use Rattle.nap_list.specs.declared.device.Outlet as outlet
use Rattle.nap_list.specs.Flushing.{flush_count}
use Rattle.nap_command.specs.{declared.answer.Verdict.Verdict, declared.failure.Failure.Failure, Devices.Devices, Devices.TakesText, Commands.Reports}

-- a printable character of ASCII, from the space to `~`
abbrev pub is_printable : ℕ → Bool
is_printable b = nat_le 32 b && nat_le b 126

-- the escape of a byte, as `\x1b`: a backslash, an x, and two lower-case hexadecimal digits
abbrev pub byte_escape : ℕ → List ℕ
byte_escape b = 92 ∷ 120 ∷ digit_char (b / 16) ∷ digit_char (b % 16) ∷ []

-- whether a byte is shown as itself: a printable character of ASCII, and LF where line ends stay
abbrev pub stays : Bool → ℕ → Bool
stays lines b = is_printable b || (lines && (b == 10))

-- how a byte is shown: as itself, or as its escape
abbrev pub shown : Bool → ℕ → List ℕ
shown lines b = if stays lines b then b ∷ [] else byte_escape b

-- how a text is shown: each of its bytes in turn
abbrev pub shown_text : Bool → List ℕ → List ℕ
shown_text lines text = flat_map (shown lines) text

-- how words are shown, in which no line end stays
abbrev pub shown_words : List (List ℕ) → List (List ℕ)
shown_words words = map (shown_text false) words

-- a printable character of ASCII, or LF
abbrev pub is_plain : ℕ → Bool
is_plain b = (b == 10) || is_printable b

-- text that a terminal shows: each byte is plain
abbrev pub IsPlainText : List ℕ → Type 0
IsPlainText text = list_all is_plain text ≡ true

-- The two outputs of a command: the bytes that they took, if they tell them; whether the first was flushed after its
-- last write, and the number of flushes; which have failed, and whether a write of the first has.
pub record Outputs : Type 0 where
  pub taken : Option (List ℕ)
  pub sent : Bool
  pub failed : Bool
  pub write_failed : Bool
  pub flushes : ℕ
  pub reported : Option (List ℕ)
  pub errors_failed : Bool

abbrev pub outputs : {O E : Type 0} → outlet.Ghosts O → outlet.Ghosts E → O → E → Outputs
outputs o e output errors = record {
  taken = o.taken output;
  sent = o.sent output;
  failed = o.failed output;
  write_failed = o.write_failed output;
  flushes = o.flushes output;
  reported = e.taken errors;
  errors_failed = e.failed errors;
}

abbrev pub outputs_of : Devices → Outputs
outputs_of d = record {
  taken = d.pipes.taken;
  sent = d.pipes.sent;
  failed = d.pipes.output_failed;
  write_failed = d.pipes.write_failed;
  flushes = d.pipes.flushes;
  reported = d.reported;
  errors_failed = d.errors_failed;
}

-- the input is unchanged
pub record Unread (before after : Devices) : Type 0 where
  pub left : after.pipes.left ≡ before.pipes.left
  pub reads : after.pipes.reads ≡ before.pipes.reads
  pub failed : after.pipes.input_failed ≡ before.pipes.input_failed

-- the output is unchanged
pub record Unprinted (before after : Outputs) : Type 0 where
  pub taken : after.taken ≡ before.taken
  pub sent : after.sent ≡ before.sent
  pub failed : after.failed ≡ before.failed
  pub write_failed : after.write_failed ≡ before.write_failed
  pub flushes : after.flushes ≡ before.flushes

-- the output was flushed once, if no write failed
abbrev pub FlushesOnce : Outputs → Outputs → Type 0
FlushesOnce before after = before.write_failed ≡ false → after.flushes ≡ flush_count after.write_failed before.flushes

-- The output took help, which has this text, and the command ended like this: the output took all of it and was
-- flushed, or it failed after a prefix, or memory ran out for the text.
abbrev pub PrintsHelp : Outputs → Outputs → List ℕ → Result Verdict Failure → Type 0
PrintsHelp before after text (Ok Verdict.Accepted) = TakesText before.taken after.taken text (Ok tt) × (after.failed ≡ before.failed) × (after.sent ≡ true) × FlushesOnce before after
PrintsHelp before after text (Err (Failure.Write taken)) = TakesText before.taken after.taken text (Err (Failure.Write taken)) × (after.failed ≡ true) × FlushesOnce before after
PrintsHelp before after text (Err Failure.Memory) = Unprinted before after
PrintsHelp before after text _ = ⊥

-- help was printed, or failed to be
pub record ShowsHelp (before after : Outputs) (status : ℕ) : Type 0 where
  pub text : List ℕ
  pub e : List ℕ
  pub ended : Result Verdict Failure
  pub shown : PrintsHelp before after text ended
  pub reported : Appends before.reported after.reported e
  pub tells : Reports e after.errors_failed ended status

-- Memory ran out, as standard error reports; nothing was printed.
pub record ReportsNoMemory (before after : Outputs) (status : ℕ) : Type 0 where
  pub unprinted : Unprinted before after
  pub e : List ℕ
  pub reported : Appends before.reported after.reported e
  pub tells : Reports e after.errors_failed (Err Failure.Memory) status

-- Standard error took clap's report of the words, on which no terminal acts, and nothing was printed.
pub record ReportsWrong (before after : Outputs) (status : ℕ) : Type 0 where
  pub unprinted : Unprinted before after
  pub e : List ℕ
  pub reported : Appends before.reported after.reported e
  pub plain : IsPlainText e
  pub status_is : status ≡ 2

-- the answer to words that ask for no command, by what clap finds: help, lack of memory, or what is wrong
abbrev pub Explains : ErrorKind → Outputs → Outputs → ℕ → Type 0
Explains ErrorKind.DisplayHelp before after status = ShowsHelp before after status
Explains ErrorKind.DisplayVersion before after status = ShowsHelp before after status
Explains ErrorKind.OutOfMemory before after status = ReportsNoMemory before after status
Explains _ before after status = ReportsWrong before after status ⊎ ReportsNoMemory before after status
