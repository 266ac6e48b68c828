use Rattle.std.specs.Prelude.{ℕ, Bool, ◌==◌, if◌then◌else◌, List, [], ◌∷◌, Option, Some, None, true, false}
use Rattle.nap_codes.specs.{declared.code.Code.Code, declared.control.CursorKind.CursorKind, declared.control.Size.Size}
use Rattle.nap_codes.specs.Types.{CodeSet, Left, Mask, Opcode, Row, TextStep}
use Rattle.nap_codes.specs.declared.control.Row.TheVariants.{Whole, More, Out}

-- the row of a table for a byte, or none
unfoldable pub row_of : {Entry : Type 0} → List (ℕ × Entry) → ℕ → Option Entry
row_of [] byte = None
row_of (row ∷ rows) byte = if byte == row.0 then Some row.1 else row_of rows byte

-- the sets, by the final byte of their designation
unfoldable pub set_rows : List (ℕ × CodeSet)
set_rows =
    (0x42, CodeSet.Primary)
    ∷ (0x7C, CodeSet.Supplementary)
    ∷ (0x57, CodeSet.Pdi)
    ∷ (0x7D, CodeSet.Mosaic)
    ∷ (0x7A, CodeSet.Macros)
    ∷ (0x7B, CodeSet.Drcs)
    ∷ []

-- the numbers of the registers, by the intermediate byte of a designation
unfoldable pub number_rows : List (ℕ × ℕ)
number_rows =
    (0x28, 0) ∷ (0x29, 1) ∷ (0x2A, 2) ∷ (0x2B, 3)
    ∷ (0x2C, 0) ∷ (0x2D, 1) ∷ (0x2E, 2) ∷ (0x2F, 3)
    ∷ []

abbrev pub option_pair : {A B : Type 0} → Option A → Option B → Option (A × B)
option_pair (Some x) (Some y) = Some (x, y)
option_pair (Some x) None = None
option_pair None y = None

-- the register and the set that an escape sequence with these bytes designates, or none
unfoldable pub designation : ℕ → ℕ → Option (ℕ × CodeSet)
designation intermediate final = option_pair (row_of number_rows intermediate) (row_of set_rows final)

-- the C0 set (PROFILE.md, The C0 set)
unfoldable pub control0_rows : List (ℕ × Row)
control0_rows =
    (0x00, Whole Code.Fill)
    ∷ (0x01, Whole Code.Fill)
    ∷ (0x02, Whole Code.Fill)
    ∷ (0x03, Whole Code.Fill)
    ∷ (0x04, Whole Code.Fill)
    ∷ (0x05, Whole Code.Fill)
    ∷ (0x06, Whole Code.Fill)
    ∷ (0x07, Whole Code.Bell)
    ∷ (0x08, Whole (Code.Step TextStep.Apb))
    ∷ (0x09, Whole (Code.Step TextStep.Apf))
    ∷ (0x0A, Whole (Code.Step TextStep.Apd))
    ∷ (0x0B, Whole (Code.Step TextStep.Apu))
    ∷ (0x0C, Whole Code.Clear)
    ∷ (0x0D, Whole (Code.Step TextStep.Apr))
    ∷ (0x0E, Whole Code.Shifted)
    ∷ (0x0F, Whole Code.Shifted)
    ∷ (0x10, Whole Code.Fill)
    ∷ (0x11, Whole Code.Fill)
    ∷ (0x12, Whole Code.Fill)
    ∷ (0x13, Whole Code.Fill)
    ∷ (0x14, Whole Code.Fill)
    ∷ (0x15, Whole Code.Fill)
    ∷ (0x16, Whole Code.Fill)
    ∷ (0x17, Whole Code.Fill)
    ∷ (0x18, Out Left.Can)
    ∷ (0x19, More)
    ∷ (0x1A, Out Left.Sdc)
    ∷ (0x1B, More)
    ∷ (0x1C, More)
    ∷ (0x1D, More)
    ∷ (0x1E, Whole (Code.Step TextStep.Aph))
    ∷ (0x1F, Out Left.Nsr)
    ∷ []

-- the format effector of a row, or none
abbrev pub text_step_of_row : Option Row → Option TextStep
text_step_of_row (Some (Whole (Code.Step step))) = Some step
text_step_of_row _ = None

-- the format effector that a single byte is, or none; APS isn't one, since it has two further bytes
abbrev pub format_effector : ℕ → Option TextStep
format_effector byte = text_step_of_row (row_of control0_rows byte)

-- whether a row is a complete code without effect
abbrev pub fills : Option Row → Bool
fills (Some (Whole Code.Fill)) = true
fills _ = false

-- whether a byte is a control of the C0 set that is a complete code without effect
abbrev pub is_fill : ℕ → Bool
is_fill byte = fills (row_of control0_rows byte)

-- the C1 set, by the byte after ESC (PROFILE.md, The C1 set)
unfoldable pub control1_rows : List (ℕ × Row)
control1_rows =
    (0x40, More)
    ∷ (0x41, More)
    ∷ (0x42, Out Left.Deft)
    ∷ (0x43, More)
    ∷ (0x44, More)
    ∷ (0x45, Whole Code.End)
    ∷ (0x46, More)
    ∷ (0x47, Whole Code.ToEol)
    ∷ (0x48, Whole (Code.Reverse true))
    ∷ (0x49, Whole (Code.Reverse false))
    ∷ (0x4A, Whole (Code.Named Size.Small))
    ∷ (0x4B, Whole (Code.Named Size.Medium))
    ∷ (0x4C, Whole (Code.Named Size.Normal))
    ∷ (0x4D, Whole (Code.Named Size.Tall))
    ∷ (0x4E, Whole (Code.BlinkMark true))
    ∷ (0x4F, Whole (Code.Named Size.Double))
    ∷ (0x50, Whole Code.Fill)
    ∷ (0x51, Out Left.Edc1)
    ∷ (0x52, Out Left.Edc2)
    ∷ (0x53, Out Left.Edc3)
    ∷ (0x54, Out Left.Edc4)
    ∷ (0x55, Whole (Code.Wrap true))
    ∷ (0x56, Whole (Code.Wrap false))
    ∷ (0x57, Whole (Code.Scroll true))
    ∷ (0x58, Whole (Code.Scroll false))
    ∷ (0x59, Whole (Code.Underline true))
    ∷ (0x5A, Whole (Code.Underline false))
    ∷ (0x5B, Whole (Code.Cursor CursorKind.Flash))
    ∷ (0x5C, Whole (Code.Cursor CursorKind.Steady))
    ∷ (0x5D, Whole (Code.Cursor CursorKind.Off))
    ∷ (0x5E, Whole (Code.BlinkMark false))
    ∷ (0x5F, Out Left.Unprotect)
    ∷ []

-- the masks, by the argument of DEF TEXTURE
unfoldable pub mask_rows : List (ℕ × Mask)
mask_rows = (0x41, Mask.A) ∷ (0x42, Mask.B) ∷ (0x43, Mask.C) ∷ (0x44, Mask.D) ∷ []

-- the opcodes of the PDI set (PROFILE.md, Opcodes)
unfoldable pub opcode_rows : List (ℕ × Opcode)
opcode_rows =
    (0x20, Opcode.Reset)
    ∷ (0x21, Opcode.Domain)
    ∷ (0x22, Opcode.Text)
    ∷ (0x23, Opcode.Texture)
    ∷ (0x24, Opcode.PointSetAbs)
    ∷ (0x25, Opcode.PointSetRel)
    ∷ (0x26, Opcode.PointAbs)
    ∷ (0x27, Opcode.PointRel)
    ∷ (0x28, Opcode.LineAbs)
    ∷ (0x29, Opcode.LineRel)
    ∷ (0x2A, Opcode.SetLineAbs)
    ∷ (0x2B, Opcode.SetLineRel)
    ∷ (0x2C, Opcode.ArcOutlined)
    ∷ (0x2D, Opcode.ArcFilled)
    ∷ (0x2E, Opcode.SetArcOutlined)
    ∷ (0x2F, Opcode.SetArcFilled)
    ∷ (0x30, Opcode.RectOutlined)
    ∷ (0x31, Opcode.RectFilled)
    ∷ (0x32, Opcode.SetRectOutlined)
    ∷ (0x33, Opcode.SetRectFilled)
    ∷ (0x34, Opcode.PolyOutlined)
    ∷ (0x35, Opcode.PolyFilled)
    ∷ (0x36, Opcode.SetPolyOutlined)
    ∷ (0x37, Opcode.SetPolyFilled)
    ∷ (0x38, Opcode.Field)
    ∷ (0x39, Opcode.IncrementalPoint)
    ∷ (0x3A, Opcode.IncrementalLine)
    ∷ (0x3B, Opcode.IncrementalPolyFilled)
    ∷ (0x3C, Opcode.SetColor)
    ∷ (0x3D, Opcode.Wait)
    ∷ (0x3E, Opcode.SelectColor)
    ∷ (0x3F, Opcode.Blink)
    ∷ []

-- the opcodes that the profile leaves out, with their names
unfoldable pub left_out_opcode : Opcode → Option Left
left_out_opcode Opcode.IncrementalPoint = Some Left.IncrementalPoint
left_out_opcode Opcode.IncrementalLine = Some Left.IncrementalLine
left_out_opcode Opcode.IncrementalPolyFilled = Some Left.IncrementalPoly
left_out_opcode _ = None
