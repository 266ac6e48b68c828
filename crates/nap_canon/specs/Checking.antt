use Rattle.std.specs.Prelude.{Bool, None, Option, Some, false, if◌then◌else◌, true, ℕ, ◌%◌, ◌==◌}
use Rattle.nap_canon.specs.{Names.Code, Names.CodeSet, Names.Opcode, declared.plain.CodesSeen.CodesSeen, declared.plain.Expected.Expected, declared.plain.PlainCheck.PlainCheck}

-- The check of a plain stream, code after code.

abbrev pub is_plain_code : Code → Bool
is_plain_code (Code.DefMacro name show) = false
is_plain_code (Code.Designated number CodeSet.Macros) = false
is_plain_code (Code.Op Opcode.PointSetRel) = false
is_plain_code (Code.Op Opcode.PointRel) = false
is_plain_code (Code.Op Opcode.LineRel) = false
is_plain_code (Code.Op Opcode.SetLineRel) = false
is_plain_code _ = true

-- the codes seen with this one, or none if it may not come
abbrev pub seen_after : CodesSeen → Code → Option CodesSeen
seen_after CodesSeen.Nothing (Code.Op Opcode.Domain) = Some CodesSeen.Drawing
seen_after CodesSeen.Nothing (Code.Op op) = None
seen_after CodesSeen.Nothing (Code.DefGlyph byte) = Some CodesSeen.Definition
seen_after CodesSeen.Nothing (Code.DefMask mask) = Some CodesSeen.Definition
seen_after CodesSeen.Nothing _ = Some CodesSeen.Nothing
seen_after CodesSeen.Definition (Code.Op op) = None
seen_after CodesSeen.Definition _ = Some CodesSeen.Definition
seen_after CodesSeen.Drawing _ = Some CodesSeen.Drawing

-- what has to come after a code, if any code may come at its place
abbrev pub expected_after_any : Code → Expected
expected_after_any (Code.Op Opcode.Domain) = Expected.Lengths
expected_after_any (Code.Op Opcode.Reset) = Expected.ResetWord
expected_after_any _ = Expected.Any

abbrev pub lengths_word : ℕ → Option Expected
lengths_word word = if word == 31 then Some Expected.Any else None

abbrev pub reset_word : ℕ → Expected
reset_word word = if word % 2 == 1 then Expected.Domain else Expected.Any

-- what has to come after this code, or none if it may not come
abbrev pub expected_after : Expected → Code → Option Expected
expected_after Expected.Any code = Some (expected_after_any code)
expected_after Expected.Lengths (Code.Operand word) = lengths_word word
expected_after Expected.Lengths _ = None
expected_after Expected.ResetWord (Code.Operand word) = Some (reset_word word)
expected_after Expected.ResetWord code = Some (expected_after_any code)
expected_after Expected.Domain (Code.Operand word) = Some Expected.Domain
expected_after Expected.Domain (Code.Op Opcode.Domain) = Some Expected.Lengths
expected_after Expected.Domain _ = None

abbrev pub check_of_parts : Bool → Option CodesSeen → Option Expected → Option PlainCheck
check_of_parts true (Some b) (Some n) = Some (record { begun = b; next = n })
check_of_parts _ _ _ = None

-- the check after this code, or none if it may not come
abbrev pub check_after : PlainCheck → Code → Option PlainCheck
check_after check code = check_of_parts (is_plain_code code) (seen_after check.begun code) (expected_after check.next code)

abbrev pub may_end_at : Expected → Bool
may_end_at Expected.Any = true
may_end_at Expected.ResetWord = true
may_end_at _ = false

-- whether the stream may end here
abbrev pub may_end : PlainCheck → Bool
may_end check = may_end_at check.next
