use Rattle.std.specs.Prelude.{Bool, List, [], false, if◌then◌else◌, length, map, nat_le, ℕ, ◌&&◌, ◌++◌, ◌+◌, ◌==◌, ◌∷◌}
use Rattle.nap_canon.specs.Names.{Entry, GSet, State, after, attributes, run_limit, start, with_attributes}
use Rattle.nap_codes.specs.declared.code_set.GSet.TheVariants.{G0, G1}
use Rattle.nap_canon.specs.{declared.text.Form.Form, declared.text_end.Run.Run, declared.text_end.TextEnd.TextEnd, Preludes.prelude}
use Rattle.nap_canon.specs.declared.text_end.TextEnd.TheVariants.{NoRun, InRun}
use Rattle.nap_canon.specs.Spelling.{Piece, opcode, group, primary, control, command_piece, spelling_pieces}

-- The end of the text so far: the set in GL, and the run that operands can join.

-- the register in GL; in a run it is that of the opcodes
abbrev pub gl_of : TextEnd → GSet
gl_of (NoRun gl) = gl
gl_of (InRun run) = G1

-- the length of the last run
abbrev pub run_length_of : TextEnd → ℕ
run_length_of (NoRun gl) = 0
run_length_of (InRun run) = run.length

-- whether count operand bytes join the last run: it has the same opcode, and space for them
abbrev pub joins_open_run : TextEnd → ℕ → ℕ → Bool
joins_open_run (NoRun gl) byte count = false
joins_open_run (InRun run) byte count = run.opcode == byte && nat_le (run.length + count) run_limit

-- SO, unless G1, the set of the opcodes, is in GL
abbrev pub shift_to_opcodes : GSet → List ℕ
shift_to_opcodes G1 = []
shift_to_opcodes _ = 0x0E ∷ []

-- SI, unless G0, the set of the primary characters, is in GL
abbrev pub shift_to_primary : GSet → List ℕ
shift_to_primary G0 = []
shift_to_primary _ = 0x0F ∷ []

-- the bytes of a piece after this end of the text; operands that join a run have no opcode
abbrev pub piece_bytes : TextEnd → Piece → List ℕ
piece_bytes t (opcode byte operands) = shift_to_opcodes (gl_of t) ++ byte ∷ operands
piece_bytes t (group byte operands) = if joins_open_run t byte (length operands) then operands else (shift_to_opcodes (gl_of t) ++ byte ∷ operands)
piece_bytes t (primary code) = shift_to_primary (gl_of t) ++ code ∷ []
piece_bytes t (control bytes) = bytes

-- the run after count operand bytes joined or opened it
abbrev pub run_after : TextEnd → ℕ → ℕ → Run
run_after t byte count = record { opcode = byte; length = if joins_open_run t byte count then (run_length_of t + count) else count }

-- the end of the text after a piece
abbrev pub text_end_after_piece : TextEnd → Piece → TextEnd
text_end_after_piece t (opcode byte operands) = NoRun G1
text_end_after_piece t (group byte operands) = InRun (run_after t byte (length operands))
text_end_after_piece t (primary code) = NoRun G0
text_end_after_piece t (control bytes) = NoRun (gl_of t)

-- the bytes of pieces, one after another
unfoldable pub pieces_bytes : TextEnd → List Piece → List ℕ
pieces_bytes t [] = []
pieces_bytes t (p ∷ ps) = piece_bytes t p ++ pieces_bytes (text_end_after_piece t p) ps

-- the end of the text after pieces
unfoldable pub text_end_after : TextEnd → List Piece → TextEnd
text_end_after t [] = t
text_end_after t (p ∷ ps) = text_end_after (text_end_after_piece t p) ps

-- an entry: its prelude, and its spelling
abbrev pub entry_pieces : Form → State → Entry → List Piece
entry_pieces form s e = map command_piece (prelude s.drawing (attributes e)) ++ spelling_pieces form (with_attributes s.drawing (attributes e)) e

-- the entries of a list, one after another from a state on
unfoldable pub pieces : Form → State → List Entry → List Piece
pieces form s [] = []
pieces form s (e ∷ es) = entry_pieces form s e ++ pieces form (after s e) es

-- SO puts the PDI set into GL, and DOMAIN sets the operand lengths to eight and four
abbrev pub header : List ℕ
header = 0x0E ∷ 0x21 ∷ 0x5F ∷ []

-- the end of the text after the header
abbrev pub text_end_after_header : TextEnd
text_end_after_header = NoRun G1

-- the text of a list in this form
abbrev pub text_in : Form → List Entry → List ℕ
text_in form es = header ++ pieces_bytes text_end_after_header (pieces form start es)

-- the canonical text of a list
abbrev pub text : List Entry → List ℕ
text = text_in Form.Two

-- the text of a list in form 1, which canonical streams had before
abbrev pub text1 : List Entry → List ℕ
text1 = text_in Form.One
