use Rattle.std.specs.Prelude.{Bool, List, None, Option, Some, [], if◌then◌else◌, map, ℕ, ◌%◌, ◌++◌, ◌+◌, ◌==◌, ◌∷◌}
use Rattle.nap_canon.specs.Names.{Area, CharSet, Colour, Components, Coordinates, CursorKind, Drawing, Entry, Mask, Pen, Size, TextStep, addr_bytes, displacement_to, format_effector, grb_bytes, move_bytes, point_bytes}
use Rattle.nap_canon.specs.{Commands.Command, declared.pending.prelude.Flag.Flag, declared.text.Form.Form, Preludes.colour_prelude, Equality.same_pen}

-- a piece of canonical text
pub data Piece : Type 0 where
  -- an opcode, and the bytes of its operands
  opcode : ℕ → List ℕ → Piece
  -- an opcode and a group of operands, which can join a run of that opcode
  group : ℕ → List ℕ → Piece
  -- a code of the primary characters
  primary : ℕ → Piece
  -- controls with their arguments, which mean the same whatever is in GL
  control : List ℕ → Piece

-- the byte that carries a word
abbrev pub word_byte : ℕ → ℕ
word_byte word = 64 + word

-- a control of the C1 set
abbrev pub escape : ℕ → Piece
escape byte = control (0x1B ∷ byte ∷ [])

-- DOMAIN with operands of eight words and of four
abbrev pub domain : List ℕ → Piece
domain pel = opcode 0x21 (0x5F ∷ pel)

-- SELECT COLOR
abbrev pub select : List ℕ → Piece
select addresses = opcode 0x3E addresses

-- the control of a named size
abbrev pub size_byte : Size → ℕ
size_byte Size.Small = 0x4A
size_byte Size.Medium = 0x4B
size_byte Size.Normal = 0x4C
size_byte Size.Tall = 0x4D
size_byte Size.Double = 0x4F

-- the control that sets a flag on or off
abbrev pub flag_byte : Flag → Bool → ℕ
flag_byte Flag.Reverse on = if on then 0x48 else 0x49
flag_byte Flag.Underline on = if on then 0x59 else 0x5A
flag_byte Flag.Wrap on = if on then 0x55 else 0x56
flag_byte Flag.Scroll on = if on then 0x57 else 0x58

-- how a command is spelled
abbrev pub command_piece : Command → Piece
command_piece (Command.point_set p) = opcode 0x24 (point_bytes p)
command_piece (Command.pel m) = domain (move_bytes m)
command_piece Command.select_base = select []
command_piece (Command.select_front a) = select (addr_bytes a)
command_piece (Command.select_pair a b) = select (addr_bytes a ++ addr_bytes b)
command_piece (Command.set_color grb) = opcode 0x3C (grb_bytes grb)
command_piece (Command.texture word) = opcode 0x23 (word_byte word ∷ [])
command_piece (Command.texture_mask word m) = opcode 0x23 (word_byte word ∷ move_bytes m)
command_piece (Command.text first second) = opcode 0x22 (word_byte first ∷ word_byte second ∷ [])
command_piece (Command.text_size first second m) = opcode 0x22 (word_byte first ∷ word_byte second ∷ move_bytes m)
command_piece (Command.named size) = escape (size_byte size)
command_piece (Command.flag f on) = escape (flag_byte f on)

-- the displacements from each point to the next
unfoldable pub displacement_bytes : Coordinates → List Coordinates → List ℕ
displacement_bytes p [] = []
displacement_bytes p (q ∷ qs) = move_bytes (displacement_to p q) ++ displacement_bytes q qs

-- a point, and the displacements to each of the others in turn
abbrev pub shape_bytes : List Coordinates → List ℕ
shape_bytes [] = []
shape_bytes (p ∷ ps) = point_bytes p ++ displacement_bytes p ps

-- a shape by the opcode of the outlined one, which that of the filled one follows
abbrev pub shape : ℕ → Bool → List Coordinates → Piece
shape outlined filled points = opcode (if filled then (outlined + 1) else outlined) (shape_bytes points)

-- a character: after SS2 one of G2, after SS3 one of G3, which holds the DRCS only for that time
abbrev pub char_piece : CharSet → ℕ → Piece
char_piece CharSet.Primary code = primary code
char_piece CharSet.Supplementary code = control (0x19 ∷ code ∷ [])
char_piece CharSet.Mosaic code = control (0x1D ∷ code ∷ [])
char_piece CharSet.Drcs code = control (0x1B ∷ 0x2B ∷ 0x7B ∷ 0x1D ∷ code ∷ 0x1B ∷ 0x2B ∷ 0x7D ∷ [])

-- a format effector
abbrev pub step_bytes : TextStep → List ℕ
step_bytes TextStep.Apb = 0x08 ∷ []
step_bytes TextStep.Apf = 0x09 ∷ []
step_bytes TextStep.Apd = 0x0A ∷ []
step_bytes TextStep.Apu = 0x0B ∷ []
step_bytes TextStep.Apr = 0x0D ∷ []
step_bytes TextStep.Aph = 0x1E ∷ []
step_bytes (TextStep.Aps a b) = 0x1C ∷ a ∷ b ∷ []

-- a byte of a text: a format effector, else a character of the set
abbrev pub text_byte_piece_as : Option TextStep → CharSet → ℕ → Piece
text_byte_piece_as (Some step) set code = control (step_bytes step)
text_byte_piece_as None set code = char_piece set code

abbrev pub text_byte_piece : CharSet → ℕ → Piece
text_byte_piece set code = text_byte_piece_as (format_effector code) set code

abbrev pub area_bytes : Area → List ℕ
area_bytes Area.Whole = []
area_bytes (Area.Part from to) = shape_bytes (from ∷ to ∷ [])

abbrev pub mask_byte : Mask → ℕ
mask_byte Mask.A = 0x41
mask_byte Mask.B = 0x42
mask_byte Mask.C = 0x43
mask_byte Mask.D = 0x44

abbrev pub cursor_byte : CursorKind → ℕ
cursor_byte CursorKind.Flash = 0x5B
cursor_byte CursorKind.Steady = 0x5C
cursor_byte CursorKind.Off = 0x5D

-- DOMAIN again after a RESET that resets the operand lengths
abbrev pub domain_again : ℕ → List Piece
domain_again first = if first % 2 == 1 then domain [] ∷ [] else []

-- SET COLOR at an address, after the selection of that address if it isn't the colour
abbrev pub map_pieces : Drawing → ℕ → Components → List Piece
map_pieces d a grb = map command_piece (colour_prelude d.base d.colour (Some (Colour.Front a))) ++ opcode 0x3C (grb_bytes grb) ∷ []

-- points, lines and rectangles, which can join a run only in form 2
abbrev pub joinable_piece : Form → ℕ → List ℕ → Piece
joinable_piece Form.One byte operands = opcode byte operands
joinable_piece Form.Two byte operands = group byte operands

-- a line between two points
abbrev pub line_between : Form → Coordinates → Coordinates → Piece
line_between form from to = joinable_piece form 0x2A (point_bytes from ++ point_bytes to)

-- a line; in form 2 one that starts at the pen has only its end
abbrev pub line_piece : Form → Pen → Coordinates → Coordinates → Piece
line_piece Form.One pen from to = line_between Form.One from to
line_piece Form.Two pen from to = if same_pen pen (Pen.At from) then group 0x28 (point_bytes to) else line_between Form.Two from to

-- a rectangle by the opcode of the outlined one, which that of the filled one follows
abbrev pub rect_piece : Form → Bool → Coordinates → Coordinates → Piece
rect_piece form filled from to = joinable_piece form (if filled then 0x33 else 0x32) (shape_bytes (from ∷ to ∷ []))

-- the spelling of an entry whose attributes are current
abbrev pub spelling_pieces : Form → Drawing → Entry → List Piece
spelling_pieces form d (Entry.Point at pel colour) = joinable_piece form 0x26 (point_bytes at) ∷ []
spelling_pieces form d (Entry.Line from to ink) = line_piece form d.pen from to ∷ []
spelling_pieces form d (Entry.Arc filled points ink) = shape 0x2E filled points ∷ []
spelling_pieces form d (Entry.Rect filled from to ink) = rect_piece form filled from to ∷ []
spelling_pieces form d (Entry.Poly filled points ink) = shape 0x36 filled points ∷ []
spelling_pieces form d (Entry.Char set code hand) = char_piece set code ∷ []
spelling_pieces form d (Entry.TextMove step hand) = control (step_bytes step) ∷ []
spelling_pieces form d (Entry.ToEol hand) = escape 0x47 ∷ []
spelling_pieces form d (Entry.Map a grb) = map_pieces d a grb
spelling_pieces form d (Entry.Blink a on off delay colour) =
    opcode 0x3F (addr_bytes a ++ word_byte on ∷ word_byte off ∷ word_byte delay ∷ []) ∷ []
spelling_pieces form d (Entry.BlinkEnd colour) = opcode 0x3F [] ∷ []
spelling_pieces form d (Entry.BlinkMark on colour) = escape (if on then 0x4E else 0x5E) ∷ []
spelling_pieces form d (Entry.Wait word) = opcode 0x3D (word_byte word ∷ []) ∷ []
spelling_pieces form d Entry.Bell = control (0x07 ∷ []) ∷ []
spelling_pieces form d (Entry.Cursor kind) = escape (cursor_byte kind) ∷ []
spelling_pieces form d (Entry.Field area pen) = opcode 0x38 (area_bytes area) ∷ []
spelling_pieces form d (Entry.Reset first second pen) = opcode 0x20 (word_byte first ∷ word_byte second ∷ []) ∷ domain_again first
spelling_pieces form d (Entry.Clear pen) = control (0x0C ∷ []) ∷ []
spelling_pieces form d (Entry.GlyphStart code) = control (0x1B ∷ 0x43 ∷ code ∷ []) ∷ []
spelling_pieces form d (Entry.MaskStart mask) = control (0x1B ∷ 0x44 ∷ mask_byte mask ∷ []) ∷ []
spelling_pieces form d Entry.DefEnd = escape 0x45 ∷ []
