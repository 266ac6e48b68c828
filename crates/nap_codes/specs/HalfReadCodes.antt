use Rattle.std.specs.Prelude.{ℕ, ◌==◌, if◌then◌else◌, ◌≡◌, ◌≤◌, List, [], ◌∷◌, ◌++◌}
use Rattle.nap_codes.specs.{Types.Argument, Types.ByteOutcome, Types.CodeSets, Types.HalfRead, Laws.IsGraphic}
use Rattle.nap_codes.specs.declared.lexer.HalfRead.TheVariants.{Nothing, Escape, Control, Designation, SpacedDesignation, SingleShift2, SingleShift3, Position, PositionRow}
use Rattle.nap_codes.specs.Front.{Front, unfinished, complete, refused, front, escape_front, argument_front, designation_front, final_front, single_shift_front, position_front, column_front}

-- the control of the C1 set that takes this argument
abbrev pub control_of : Argument → ℕ
control_of Argument.Macro = 0x40
control_of Argument.ShownMacro = 0x41
control_of Argument.Glyph = 0x43
control_of Argument.Mask = 0x44
control_of Argument.Count = 0x46

-- the bytes read so far of an incomplete code
abbrev pub half_read_bytes : HalfRead → List ℕ
half_read_bytes Nothing = []
half_read_bytes Escape = 0x1B ∷ []
half_read_bytes (Control argument) = 0x1B ∷ control_of argument ∷ []
half_read_bytes (Designation intermediate) = 0x1B ∷ intermediate ∷ []
half_read_bytes (SpacedDesignation intermediate) = 0x1B ∷ intermediate ∷ 0x20 ∷ []
half_read_bytes SingleShift2 = 0x19 ∷ []
half_read_bytes SingleShift3 = 0x1D ∷ []
half_read_bytes Position = 0x1C ∷ []
half_read_bytes (PositionRow row) = 0x1C ∷ row ∷ []

-- the incomplete code that begins with this control of the C0 set
unfoldable pub half_read_after : ℕ → HalfRead
half_read_after byte =
    if byte == 0x19 then SingleShift2
    else if byte == 0x1B then Escape
    else if byte == 0x1C then Position
    else SingleShift3

-- the parameters of an incomplete code are in range
abbrev pub IsHalfRead : HalfRead → Type 0
IsHalfRead (Designation intermediate) = (0x28 ≤ intermediate) × (intermediate ≤ 0x2F)
IsHalfRead (SpacedDesignation intermediate) = (0x28 ≤ intermediate) × (intermediate ≤ 0x2F)
IsHalfRead (PositionRow row) = IsGraphic row
IsHalfRead _ = Unit {0}

-- the front of the bytes after those of an incomplete code
abbrev pub rest_front : CodeSets → HalfRead → List ℕ → Front
rest_front sets Nothing bytes = front sets bytes
rest_front sets Escape bytes = escape_front sets bytes
rest_front sets (Control argument) bytes = argument_front sets argument bytes
rest_front sets (Designation intermediate) bytes = designation_front sets intermediate bytes
rest_front sets (SpacedDesignation intermediate) bytes = final_front sets intermediate bytes
rest_front sets SingleShift2 bytes = single_shift_front sets sets.g2 bytes
rest_front sets SingleShift3 bytes = single_shift_front sets sets.g3 bytes
rest_front sets Position bytes = position_front sets bytes
rest_front sets (PositionRow row) bytes = column_front sets row bytes

-- the outcome of a byte that completes a code or is refused
abbrev pub IsLastOutcome : Front → ByteOutcome → Type 0
IsLastOutcome unfinished turn = ⊥
IsLastOutcome (complete code n after) turn = (n ≡ 1) × (turn ≡ ByteOutcome.Code code after)
IsLastOutcome (refused fault i) turn = (i ≡ 0) × (turn ≡ ByteOutcome.Fault fault)

-- the outcome of a byte after an incomplete code, given the front of that byte
abbrev pub IsOutcomeBy : Front → HalfRead → ℕ → ByteOutcome → Type 0
IsOutcomeBy unfinished half byte turn =
    (more : HalfRead) × (turn ≡ ByteOutcome.More more) × (half_read_bytes more ≡ half_read_bytes half ++ byte ∷ []) × IsHalfRead more
IsOutcomeBy (complete code n after) half byte turn = IsLastOutcome (complete code n after) turn
IsOutcomeBy (refused fault i) half byte turn = IsLastOutcome (refused fault i) turn

-- the outcome of a byte after an incomplete code
abbrev pub IsOutcomeOf : CodeSets → HalfRead → ℕ → ByteOutcome → Type 0
IsOutcomeOf sets half byte turn = IsOutcomeBy (rest_front sets half (byte ∷ [])) half byte turn
