use Rattle.nap_codes.specs.declared.opcode.Left.{Left}
use Rattle.std.specs.Prelude.{Err, List, Ok, Result, [], codes, decimal, ℕ, ◌++◌, ◌∷◌}
use Rattle.nap_command.specs.Types.{Failure, Fault, Refusal, Verdict}
use Rattle.nap_reader.specs.Faults.{number_of, name_of}

-- the name of a code that the profile leaves out
abbrev pub left_text : Left → List ℕ
left_text Left.Can = codes "CAN"
left_text Left.Sdc = codes "SDC"
left_text Left.Nsr = codes "NSR"
left_text Left.Deft = codes "DEFT"
left_text Left.Unprotect = codes "UNPROTECT"
left_text Left.Edc1 = codes "EDC1"
left_text Left.Edc2 = codes "EDC2"
left_text Left.Edc3 = codes "EDC3"
left_text Left.Edc4 = codes "EDC4"
left_text Left.IncrementalPoint = codes "INCREMENTAL-POINT"
left_text Left.IncrementalLine = codes "INCREMENTAL-LINE"
left_text Left.IncrementalPoly = codes "INCREMENTAL-POLY"

-- the name of a fault, with the name of a code that is left out
abbrev pub fault_text : Fault → List ℕ
fault_text (Fault.LeftOut left) = codes "LeftOut " ++ left_text left
fault_text fault = name_of fault

-- the number, name and place of a refusal
abbrev pub refusal_text : Refusal → List ℕ
refusal_text r = codes "refused " ++ decimal (number_of r.fault) ++ codes " " ++ fault_text r.fault ++ codes " at " ++ decimal r.place

-- what standard error reports of a failure, without LF
abbrev pub failure_text : Failure → List ℕ
failure_text Failure.Excluded = codes "--hex and --stream exclude each other"
failure_text Failure.Read = codes "read fault"
failure_text Failure.Hex = codes "hex fault"
failure_text (Failure.Refused r) = refusal_text r
failure_text (Failure.Line number column) = codes "line " ++ decimal number ++ codes ": no line of a list, at column " ++ decimal column
failure_text (Failure.Misfit number) = codes "line " ++ decimal number ++ codes ": can't come here"
failure_text (Failure.Open number opening) = codes "line " ++ decimal number ++ codes ": the definition of line " ++ decimal opening ++ codes " isn't ended"
failure_text (Failure.Write taken) = codes "write fault after " ++ decimal taken ++ codes " bytes"
failure_text Failure.Memory = codes "no memory"

-- the exit status of a failure
abbrev pub status_of : Failure → ℕ
status_of (Failure.Refused r) = 1
status_of (Failure.Line number column) = 1
status_of (Failure.Misfit number) = 1
status_of (Failure.Open number opening) = 1
status_of Failure.Excluded = 2
status_of _ = 3

-- the exit status of an answer that was printed in full
abbrev pub verdict_status : Verdict → ℕ
verdict_status Verdict.Accepted = 0
verdict_status Verdict.Refused = 1

-- what standard error reports of how a command ended
abbrev pub reported_text : Result Verdict Failure → List ℕ
reported_text (Ok v) = []
reported_text (Err f) = failure_text f ++ 10 ∷ []

abbrev pub exit_status : Result Verdict Failure → ℕ
exit_status (Ok v) = verdict_status v
exit_status (Err f) = status_of f
