use Rattle.std.specs.Prelude.{ℕ, ◌-◌, ◌==◌, ◌≡◌, ◌≢◌, ◌<◌, ◌≤◌, nat_le, ◌||◌, true, false, if◌then◌else◌, List, [], ◌∷◌, ◌++◌, Option, Some, None}
use Rattle.nap_codes.specs.Types.{Code, CodeFault, CodeSet, CodeSets, Left, Mask, Opcode, Row}
use Rattle.nap_codes.specs.declared.code.CodeFault.TheVariants.{EighthBit, BadEscape, ShiftAlone, ShiftedCode, BadArgument, LeftOut}
use Rattle.nap_codes.specs.{declared.code_set.CodeSet.TheVariants.Pdi, declared.control.TextStep.TheVariants.Aps, CodeSets.set_at, CodeSets.with_set, Front.non_pdi_code, Laws.IsGraphic}
use Rattle.nap_codes.specs.declared.code_set.GSet.TheVariants.{G0, G1, G2, G3}
use Rattle.nap_codes.specs.declared.control.Row.TheVariants.{Whole, Out}
use Rattle.nap_codes.specs.Tables.{row_of, number_rows, set_rows, control0_rows, control1_rows, mask_rows, opcode_rows, left_out_opcode}

-- Under these code sets, the bytes spell this code, and these are the code sets after it.
pub data Spells (sets : CodeSets) : List ℕ → Code → CodeSets → Type 0 where
  -- a control of the C0 set that isn't a shift
  control0 : {byte : ℕ} {code : Code} → row_of control0_rows byte ≡ Some (Whole code) → code ≢ Code.Shifted →
      Spells sets (byte ∷ []) code sets
  -- SO, SI, LS2 and LS3
  shift_out : Spells sets (0x0E ∷ []) Code.Shifted (record sets { gl = G1 })
  shift_in : Spells sets (0x0F ∷ []) Code.Shifted (record sets { gl = G0 })
  locking_shift2 : Spells sets (0x1B ∷ 0x6E ∷ []) Code.Shifted (record sets { gl = G2 })
  locking_shift3 : Spells sets (0x1B ∷ 0x6F ∷ []) Code.Shifted (record sets { gl = G3 })
  -- APS
  position : {row column : ℕ} → IsGraphic row → IsGraphic column →
      Spells sets (0x1C ∷ row ∷ column ∷ []) (Code.Step (Aps row column)) sets
  -- a control of the C1 set without an argument
  control1 : {byte : ℕ} {code : Code} → row_of control1_rows byte ≡ Some (Whole code) → Spells sets (0x1B ∷ byte ∷ []) code sets
  -- DEF MACRO, DEFP MACRO, DEF DRCS, DEF TEXTURE and REPEAT
  def_macro : {name : ℕ} → IsGraphic name → Spells sets (0x1B ∷ 0x40 ∷ name ∷ []) (Code.DefMacro name false) sets
  defp_macro : {name : ℕ} → IsGraphic name → Spells sets (0x1B ∷ 0x41 ∷ name ∷ []) (Code.DefMacro name true) sets
  def_drcs : {byte : ℕ} → IsGraphic byte → Spells sets (0x1B ∷ 0x43 ∷ byte ∷ []) (Code.DefGlyph byte) sets
  def_texture : {byte : ℕ} {mask : Mask} → row_of mask_rows byte ≡ Some mask →
      Spells sets (0x1B ∷ 0x44 ∷ byte ∷ []) (Code.DefMask mask) sets
  repeat : {byte : ℕ} → 0x40 ≤ byte → byte < 0x80 → Spells sets (0x1B ∷ 0x46 ∷ byte ∷ []) (Code.Repeat (byte - 0x40)) sets
  -- a designation, with or without one byte 20 before its final byte
  designation : {intermediate final number : ℕ} {set : CodeSet} →
      row_of number_rows intermediate ≡ Some number → row_of set_rows final ≡ Some set →
      Spells sets (0x1B ∷ intermediate ∷ final ∷ []) (Code.Designated number set) (with_set sets number set)
  spaced_designation : {intermediate final number : ℕ} {set : CodeSet} →
      row_of number_rows intermediate ≡ Some number → row_of set_rows final ≡ Some set →
      Spells sets (0x1B ∷ intermediate ∷ 0x20 ∷ final ∷ []) (Code.Designated number set) (with_set sets number set)
  -- a code of the set in GL
  in_gl : {byte : ℕ} {code : Code} → IsGraphic byte → non_pdi_code (set_at sets sets.gl) byte ≡ Some code →
      Spells sets (byte ∷ []) code sets
  opcode : {byte : ℕ} {op : Opcode} → set_at sets sets.gl ≡ Pdi → row_of opcode_rows byte ≡ Some op →
      left_out_opcode op ≡ None → Spells sets (byte ∷ []) (Code.Op op) sets
  operand : {byte : ℕ} → set_at sets sets.gl ≡ Pdi → 0x40 ≤ byte → byte < 0x80 →
      Spells sets (byte ∷ []) (Code.Operand (byte - 0x40)) sets
  -- a code after SS2 or SS3
  single_shift2 : {byte : ℕ} {code : Code} → IsGraphic byte → non_pdi_code sets.g2 byte ≡ Some code →
      Spells sets (0x19 ∷ byte ∷ []) code sets
  single_shift3 : {byte : ℕ} {code : Code} → IsGraphic byte → non_pdi_code sets.g3 byte ≡ Some code →
      Spells sets (0x1D ∷ byte ∷ []) code sets

-- Under these code sets, the bytes spell a code that is refused with this fault at its last byte: ShiftedCode or
-- LeftOut.
pub data SpellsRefused (sets : CodeSets) : List ℕ → CodeFault → Type 0 where
  left_out_control0 : {byte : ℕ} {name : Left} → row_of control0_rows byte ≡ Some (Out name) →
      SpellsRefused sets (byte ∷ []) (LeftOut name)
  left_out_control1 : {byte : ℕ} {name : Left} → row_of control1_rows byte ≡ Some (Out name) →
      SpellsRefused sets (0x1B ∷ byte ∷ []) (LeftOut name)
  left_out_of_pdi : {byte : ℕ} {op : Opcode} {name : Left} → set_at sets sets.gl ≡ Pdi → row_of opcode_rows byte ≡ Some op →
      left_out_opcode op ≡ Some name → SpellsRefused sets (byte ∷ []) (LeftOut name)
  shifted2 : {byte : ℕ} → IsGraphic byte → sets.g2 ≡ Pdi → SpellsRefused sets (0x19 ∷ byte ∷ []) ShiftedCode
  shifted3 : {byte : ℕ} → IsGraphic byte → sets.g3 ≡ Pdi → SpellsRefused sets (0x1D ∷ byte ∷ []) ShiftedCode

-- a spelling of a code, accepted or refused
pub data IsSpelling (sets : CodeSets) (bytes : List ℕ) : Type 0 where
  accepted : {code : Code} {after : CodeSets} → Spells sets bytes code after → IsSpelling sets bytes
  refusal : {fault : CodeFault} → SpellsRefused sets bytes fault → IsSpelling sets bytes

-- The list is a prefix of a spelling, or a spelling.
abbrev pub IsPrefix : CodeSets → List ℕ → Type 0
IsPrefix sets bytes = (more : List ℕ) × IsSpelling sets (bytes ++ more)

-- The list is a proper prefix of a spelling.
abbrev pub IsProperPrefix : CodeSets → List ℕ → Type 0
IsProperPrefix sets bytes = (byte : ℕ) × (more : List ℕ) × IsSpelling sets (bytes ++ byte ∷ more)

-- the fault of a byte after ESC and another: BadArgument if the other is a control that takes an argument, else
-- BadEscape
unfoldable pub escape_fault : Option Row → CodeFault
escape_fault (Some row) = BadArgument
escape_fault None = BadEscape

-- the fault of a byte that can't follow ESC and these bytes
unfoldable pub escaped_fault : List ℕ → CodeFault
escaped_fault [] = BadEscape
escaped_fault (byte ∷ bytes) = escape_fault (row_of control1_rows byte)

-- the fault of a byte that can't follow these bytes: ShiftAlone after SS2 or SS3, BadArgument in the place of an
-- argument, else BadEscape
unfoldable pub place_fault : List ℕ → CodeFault
place_fault [] = BadEscape
place_fault (opening ∷ bytes) =
    if opening == 0x19 || opening == 0x1D then ShiftAlone
    else if opening == 0x1C then BadArgument
    else escaped_fault bytes

-- the fault of a byte that can't follow these bytes, with EighthBit from 80 on
unfoldable pub bad_byte_fault : List ℕ → ℕ → CodeFault
bad_byte_fault before byte = if nat_le 0x80 byte then EighthBit else place_fault before
