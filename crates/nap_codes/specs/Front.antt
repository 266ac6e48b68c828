use Rattle.std.specs.Prelude.{ℕ, suc, ◌-◌, ◌==◌, nat_le, nat_lt, Bool, true, false, ◌&&◌, if◌then◌else◌, List, [], ◌∷◌, Option, Some, None}
use Rattle.std.specs.Option.{option_map}
use Rattle.nap_codes.specs.Types.{Argument, Code, CodeFault, CodeSet, CodeSets, Left, Opcode, Row}
use Rattle.nap_codes.specs.declared.code.Code.TheVariants.{Step, Shifted, Designated, Char, Call, Op, Operand, DefMacro, DefGlyph, DefMask, Repeat}
use Rattle.nap_codes.specs.declared.code.CodeFault.TheVariants.{EighthBit, BadEscape, ShiftAlone, ShiftedCode, BadArgument, LeftOut}
use Rattle.nap_codes.specs.{declared.code_set.CharSet.CharSet, declared.control.TextStep.TheVariants.Aps, CodeSets.set_at, CodeSets.with_set, CodeSets.after_control0}
use Rattle.nap_codes.specs.declared.code_set.GSet.TheVariants.{G2, G3}
use Rattle.nap_codes.specs.declared.control.Row.TheVariants.{Whole, More, Out}
use Rattle.nap_codes.specs.Tables.{row_of, designation, control0_rows, control1_rows, mask_rows, opcode_rows, left_out_opcode}

-- The front of a list of bytes: unfinished; or a code, with the number of its bytes and the code sets after it; or a
-- fault, with the index of the refused byte.
pub data Front : Type 0 where
  unfinished : Front
  complete : Code → ℕ → CodeSets → Front
  refused : CodeFault → ℕ → Front

-- the front of a list, given the front of its rest, if the first byte belongs to it
unfoldable pub one_byte_later : Front → Front
one_byte_later unfinished = unfinished
one_byte_later (complete code n sets) = complete code (suc n) sets
one_byte_later (refused fault i) = refused fault (suc i)

-- whether a byte is from 20 to 7F: a code of a set, the name of a macro, or a byte of a position
abbrev pub is_graphic : ℕ → Bool
is_graphic byte = nat_le 0x20 byte && nat_lt byte 0x80

-- the fault of a byte that continues no code: EighthBit from 80 on, else this one
abbrev pub byte_fault : CodeFault → ℕ → CodeFault
byte_fault fault byte = if nat_le 0x80 byte then EighthBit else fault

-- the front at a byte that continues no code
unfoldable pub bad_byte : CodeFault → ℕ → Front
bad_byte fault byte = refused (byte_fault fault byte) 0

-- the front at the last byte of a code, or at a byte that continues none
unfoldable pub last_byte : CodeSets → CodeFault → ℕ → Option Code → Front
last_byte sets fault byte (Some code) = complete code 1 sets
last_byte sets fault byte None = bad_byte fault byte

-- the character or macro call that a byte is in this set, or none for the PDI set
unfoldable pub non_pdi_code : CodeSet → ℕ → Option Code
non_pdi_code CodeSet.Primary byte = Some (Char CharSet.Primary byte)
non_pdi_code CodeSet.Supplementary byte = Some (Char CharSet.Supplementary byte)
non_pdi_code CodeSet.Mosaic byte = Some (Char CharSet.Mosaic byte)
non_pdi_code CodeSet.Drcs byte = Some (Char CharSet.Drcs byte)
non_pdi_code CodeSet.Macros byte = Some (Call byte)
non_pdi_code CodeSet.Pdi byte = None

-- the front at an opcode, which may be left out
unfoldable pub opcode_front : CodeSets → Opcode → Option Left → Front
opcode_front sets op None = complete (Op op) 1 sets
opcode_front sets op (Some name) = refused (LeftOut name) 0

-- the front at a code of the PDI set: an opcode or an operand word
unfoldable pub pdi_front : CodeSets → ℕ → Option Opcode → Front
pdi_front sets byte (Some op) = opcode_front sets op (left_out_opcode op)
pdi_front sets byte None = complete (Operand (byte - 0x40)) 1 sets

-- the front at a code of the set in GL
unfoldable pub gl_front : CodeSets → ℕ → Option Code → Front
gl_front sets byte (Some code) = complete code 1 sets
gl_front sets byte None = pdi_front sets byte (row_of opcode_rows byte)

-- the front at the code after a single shift, which may not be of the PDI set
unfoldable pub shifted_front : CodeSets → Option Code → Front
shifted_front sets (Some code) = complete code 1 sets
shifted_front sets None = refused ShiftedCode 0

-- the front after SS2 or SS3 of this set
unfoldable pub single_shift_front : CodeSets → CodeSet → List ℕ → Front
single_shift_front sets set [] = unfinished
single_shift_front sets set (byte ∷ bytes) =
    if is_graphic byte then shifted_front sets (non_pdi_code set byte) else bad_byte ShiftAlone byte

-- the front at the second byte of the position of APS
unfoldable pub column_front : CodeSets → ℕ → List ℕ → Front
column_front sets row [] = unfinished
column_front sets row (byte ∷ bytes) =
    last_byte sets BadArgument byte (if is_graphic byte then Some (Step (Aps row byte)) else None)

-- the front after APS
unfoldable pub position_front : CodeSets → List ℕ → Front
position_front sets [] = unfinished
position_front sets (byte ∷ bytes) =
    if is_graphic byte then one_byte_later (column_front sets byte bytes) else bad_byte BadArgument byte

-- the meaning of the argument of a control of the C1 set that takes one
unfoldable pub argument_of : ℕ → Argument
argument_of byte =
    if byte == 0x40 then Argument.Macro
    else if byte == 0x41 then Argument.ShownMacro
    else if byte == 0x43 then Argument.Glyph
    else if byte == 0x44 then Argument.Mask
    else Argument.Count

-- the code of a control with this argument byte, or none outside its range
unfoldable pub with_argument : Argument → ℕ → Option Code
with_argument Argument.Macro byte = if is_graphic byte then Some (DefMacro byte false) else None
with_argument Argument.ShownMacro byte = if is_graphic byte then Some (DefMacro byte true) else None
with_argument Argument.Glyph byte = if is_graphic byte then Some (DefGlyph byte) else None
with_argument Argument.Mask byte = option_map DefMask (row_of mask_rows byte)
with_argument Argument.Count byte =
    if nat_le 0x40 byte && nat_lt byte 0x80 then Some (Repeat (byte - 0x40)) else None

-- the front at the argument of a control
unfoldable pub argument_front : CodeSets → Argument → List ℕ → Front
argument_front sets argument [] = unfinished
argument_front sets argument (byte ∷ bytes) = last_byte sets BadArgument byte (with_argument argument byte)

-- the front at the final byte of a designation, given what it designates
unfoldable pub designated_front : CodeSets → ℕ → Option (ℕ × CodeSet) → Front
designated_front sets byte (Some named) = complete (Designated named.0 named.1) 1 (with_set sets named.0 named.1)
designated_front sets byte None = bad_byte BadEscape byte

-- the front at the final byte of a designation
unfoldable pub final_front : CodeSets → ℕ → List ℕ → Front
final_front sets intermediate [] = unfinished
final_front sets intermediate (byte ∷ bytes) = designated_front sets byte (designation intermediate byte)

-- the front after the intermediate byte of a designation: at most one byte 20, then the final byte
unfoldable pub designation_front : CodeSets → ℕ → List ℕ → Front
designation_front sets intermediate [] = unfinished
designation_front sets intermediate (byte ∷ bytes) =
    if byte == 0x20 then one_byte_later (final_front sets intermediate bytes) else final_front sets intermediate (byte ∷ bytes)

-- the front after ESC of a locking shift or a designation
unfoldable pub sequence_front : CodeSets → ℕ → List ℕ → Front
sequence_front sets byte bytes =
    if byte == 0x6E then complete Shifted 1 (record sets { gl = G2 })
    else if byte == 0x6F then complete Shifted 1 (record sets { gl = G3 })
    else if nat_le 0x28 byte && nat_le byte 0x2F then one_byte_later (designation_front sets byte bytes)
    else bad_byte BadEscape byte

-- the front after ESC, given the row of the C1 set
unfoldable pub control1_front : CodeSets → ℕ → List ℕ → Option Row → Front
control1_front sets byte bytes (Some (Whole code)) = complete code 1 sets
control1_front sets byte bytes (Some (Out name)) = refused (LeftOut name) 0
control1_front sets byte bytes (Some More) = one_byte_later (argument_front sets (argument_of byte) bytes)
control1_front sets byte bytes None = sequence_front sets byte bytes

-- the front after ESC
unfoldable pub escape_front : CodeSets → List ℕ → Front
escape_front sets [] = unfinished
escape_front sets (byte ∷ bytes) = control1_front sets byte bytes (row_of control1_rows byte)

-- the front after a control of the C0 set that has further bytes: ESC, APS, SS2 or SS3
unfoldable pub more_front : CodeSets → ℕ → List ℕ → Front
more_front sets byte bytes =
    if byte == 0x1B then escape_front sets bytes
    else if byte == 0x1C then position_front sets bytes
    else if byte == 0x19 then single_shift_front sets sets.g2 bytes
    else single_shift_front sets sets.g3 bytes

-- the front of a list, given the row of the C0 set for its first byte
unfoldable pub control0_front : CodeSets → ℕ → List ℕ → Option Row → Front
control0_front sets byte bytes (Some (Whole code)) = complete code 1 (after_control0 sets byte)
control0_front sets byte bytes (Some (Out name)) = refused (LeftOut name) 0
control0_front sets byte bytes (Some More) = one_byte_later (more_front sets byte bytes)
control0_front sets byte bytes None =
    if is_graphic byte then gl_front sets byte (non_pdi_code (set_at sets sets.gl) byte) else refused EighthBit 0

-- the front of a list of bytes under these code sets
unfoldable pub front : CodeSets → List ℕ → Front
front sets [] = unfinished
front sets (byte ∷ bytes) = control0_front sets byte bytes (row_of control0_rows byte)
