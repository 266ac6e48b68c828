use Rattle.std.specs.Prelude.{Bool, Err, List, None, Ok, OnErr, OnOk, Option, Result, Some, [], false, is_err, length, map, take, true, ℕ, ◌++◌, ◌<◌, ◌∷◌, ◌≡◌, ◌≤◌}
use Rattle.nap_canon.specs.Names.{Drawing, EachIsCurrent, Entry, Pen, State, after, attributes, walk, with_attributes, with_pen}
use Rattle.nap_canon.specs.{Commands.Command, declared.text.Form.Form, declared.pending.Pending.Pending, declared.pending.spelling.Path.Path, declared.text_end.TextEnd.TextEnd, declared.writer.Writer.Writer, Batches.CutAfter, Batches.Parted, Batches.SentWhole, Text.piece_bytes, Text.text_end_after_piece, Text.pieces_bytes, Text.text_end_after, Text.entry_pieces, Text.pieces}
use Rattle.nap_canon.specs.Spelling.{Piece, command_piece, opcode, shape_bytes, spelling_pieces}

-- The pending text after appending.

-- these bytes were appended, and this is the end of the text
pub record AppendsBytes (bytes : List ℕ) (end : TextEnd) (w t : Pending) : Type 0 where
  pub appended : t.bytes ≡ w.bytes ++ bytes
  pub text_end : t.text_end ≡ end

-- a piece was appended
abbrev pub AppendsPiece : Piece → Pending → Pending → Type 0
AppendsPiece p w t = AppendsBytes (piece_bytes w.text_end p) (text_end_after_piece w.text_end p) w t

-- pieces were appended
abbrev pub AppendsPieces : List Piece → Pending → Pending → Type 0
AppendsPieces ps w t = AppendsBytes (pieces_bytes w.text_end ps) (text_end_after w.text_end ps) w t

-- commands were appended
abbrev pub AppendsCommands : List Command → Pending → Pending → Type 0
AppendsCommands commands w t = AppendsPieces (map command_piece commands) w t

-- the first entry of a list was appended
abbrev pub AppendsNext : Form → State → List Entry → Pending → Pending → Type 0
AppendsNext form s list w t = (e : Entry) (es : List Entry) → list ≡ e ∷ es → AppendsPieces (entry_pieces form s e) w t

-- the spelling of the first entry of a list was appended, without its prelude
abbrev pub SpellsNext : Form → Drawing → List Entry → Pending → Pending → Type 0
SpellsNext form d list w t = (e : Entry) (es : List Entry) → list ≡ e ∷ es → AppendsPieces (spelling_pieces form (with_attributes d (attributes e)) e) w t

-- the attributes of the entries after the first are current once it was put
abbrev pub RestIsCurrent : State → List Entry → Type 0
RestIsCurrent s list = (e : Entry) (es : List Entry) → list ≡ e ∷ es → EachIsCurrent (after s e) es

-- whether an entry isn't an arc or polygon, so that its bytes are few
abbrev pub is_short : Entry → Bool
is_short (Entry.Arc filled points ink) = false
is_short (Entry.Poly filled points ink) = false
is_short _ = true

-- the shape of an entry, if it is an arc or polygon
abbrev pub PathOf : Option Path → Entry → Type 0
PathOf None e = is_short e ≡ true
PathOf (Some path) e = (form : Form) (d : Drawing) → spelling_pieces form d e ≡ opcode path.opcode (shape_bytes path.points.now) ∷ []

-- the pen moves there, and nothing else changes
abbrev pub MovesPen : Pen → State → State → Type 0
MovesPen pen s t = (t.drawing ≡ with_pen pen s.drawing) × (t.definition ≡ s.definition)

-- What a writer of a text sends.

-- the form and the state are unchanged
abbrev pub Stays : {T F : Type 0} → Writer T F → Writer T F → Type 0
Stays w t = (t.form ≡ w.form) × (t.state ≡ w.state)

-- these bytes were sent, and this is the end of the text
pub record WritesBytes {T F E : Type 0} (sends : T → List ℕ → Bool → T → Type 0) (bytes : List ℕ) (end : TextEnd) (w t : Writer T F) (r : Result (Unit {0}) E) : Type 0 where
  pub sent : sends w.target bytes (is_err r) t.target
  pub text_end : t.pending.text_end ≡ end
  pub kept : Stays w t

-- the pending text was sent, and then a piece
abbrev pub WritesPendingAnd : {T F E : Type 0} → (T → List ℕ → Bool → T → Type 0) → Piece → Writer T F → Writer T F → Result (Unit {0}) E → Type 0
WritesPendingAnd sends p w t r = WritesBytes sends (w.pending.bytes ++ piece_bytes w.pending.text_end p) (text_end_after_piece w.pending.text_end p) w t r

-- the pending text was sent, and then pieces
abbrev pub WritesPieces : {T F E : Type 0} → (T → List ℕ → Bool → T → Type 0) → List Piece → Writer T F → Writer T F → Result (Unit {0}) E → Type 0
WritesPieces sends ps w t r = WritesBytes sends (w.pending.bytes ++ pieces_bytes w.pending.text_end ps) (text_end_after w.pending.text_end ps) w t r

-- the opening and all entries of this size were sent, with this end of the text, or as many of them as the error says
pub record WritesWhole {T F : Type 0} (sends : T → List ℕ → Bool → T → Type 0) (opening : List ℕ) (size : ℕ) (bytes : List ℕ) (end : TextEnd) (w t : Writer T F) (r : Result (Unit {0}) ℕ) : Type 0 where
  pub sent : SentWhole sends w.target opening size bytes t.target r
  pub text_end : OnOk r (t.pending.text_end ≡ end)
  pub kept : Stays w t

-- an entry was put: its pieces were sent, and the state is that after it; or a write failed, and the state is unchanged
pub record Puts {T F E : Type 0} (sends : T → List ℕ → Bool → T → Type 0) (e : Entry) (w t : Writer T F) (r : Result (Unit {0}) E) : Type 0 where
  pub sent : sends w.target (pieces_bytes w.pending.text_end (entry_pieces w.form w.state e)) (is_err r) t.target
  pub text_end : OnOk r (t.pending.text_end ≡ text_end_after w.pending.text_end (entry_pieces w.form w.state e))
  pub form : t.form ≡ w.form
  pub state : OnOk r (t.state ≡ after w.state e)
  pub still : OnErr r (t.state ≡ w.state)

-- the first entries of a list, count of them, were sent in one write
pub record SendsWholly {T : Type 0} (sends : T → List ℕ → Bool → T → Type 0) (form : Form) (s : State) (list : List Entry) (begin : TextEnd) (from : T) (end : TextEnd) (to : T) (count : ℕ) : Type 0 where
  pub some : 0 < count
  pub few : count ≤ length list
  pub sent : sends from (pieces_bytes begin (pieces form s (take count list))) false to
  pub ends : end ≡ text_end_after begin (pieces form s (take count list))

-- of the first entries of a list, sent in one write, a number was taken completely
pub record SendsPartly {T : Type 0} (sends : T → List ℕ → Bool → T → Type 0) (form : Form) (s : State) (list : List Entry) (begin : TextEnd) (from to : T) (whole : ℕ) : Type 0 where
  pub count : ℕ
  pub few : count ≤ length list
  pub less : whole < count
  pub far : ℕ
  pub cut : CutAfter sends from (pieces_bytes begin (pieces form s (take count list))) far to
  pub parted : Parted form begin s (take count list) whole far

-- a prefix of a list was sent in one write, or as many of its entries as the error says
abbrev pub SendsPrefix : {T : Type 0} → (T → List ℕ → Bool → T → Type 0) → Form → State → List Entry → TextEnd → T → TextEnd → T → Result ℕ ℕ → Type 0
SendsPrefix sends form s list begin from end to (Ok count) = SendsWholly sends form s list begin from end to count
SendsPrefix sends form s list begin from end to (Err whole) = SendsPartly sends form s list begin from to whole

-- how many entries were put, be it all or those up to a failure
abbrev pub put_count : Result ℕ ℕ → ℕ
put_count (Ok count) = count
put_count (Err count) = count

-- a prefix of a list was put in one write, and the state is that after as many entries as the answer says
pub record PutsPrefix {T F : Type 0} (sends : T → List ℕ → Bool → T → Type 0) (list : List Entry) (w t : Writer T F) (r : Result ℕ ℕ) : Type 0 where
  pub sent : SendsPrefix sends w.form w.state list w.pending.text_end w.target t.pending.text_end t.target r
  pub form : t.form ≡ w.form
  pub state : t.state ≡ walk w.state (take (put_count r) list)
