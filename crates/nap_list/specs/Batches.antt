use Rattle.std.specs.Prelude.{List, None, Option, Some, [], map, ℕ, ⊤, ◌∷◌, ◌≡◌}
use Rattle.nap_list.specs.{Names.CharSet, Names.Coordinates, Names.TextStep, Names.format_effector, declared.attribute.Pen.TheVariants.After, Agreement.AreCurrent, Entry.IsCode, Entry.attributes, Entry.point_attributes, Entry.ink_attributes, Entry.hand_attributes}
use Rattle.nap_list.specs.Types.{Batch, Drawing, Entry, Hand, LastChar, Pen, State}
use Rattle.nap_list.specs.State.{after, start, start_drawing, last_after, with_pen, ink_of, hand_of}

-- The entries of a batch.

-- a point with the current attributes
abbrev pub point_entry : Drawing → Coordinates → Entry
point_entry d at = Entry.Point at d.pel d.colour

-- a line with the current attributes
abbrev pub line_entry : Drawing → Coordinates → Coordinates → Entry
line_entry d from to = Entry.Line from to (ink_of d)

-- the entry of a byte of a text with these attributes: a move for a format effector, else a character of the set
abbrev pub text_entry_as : Option TextStep → CharSet → Hand → ℕ → Entry
text_entry_as (Some step) set hand code = Entry.TextMove step hand
text_entry_as None set hand code = Entry.Char set code hand

abbrev pub text_entry : CharSet → Hand → ℕ → Entry
text_entry set hand code = text_entry_as (format_effector code) set hand code

-- the entry of a byte of a text at this pen, with the current attributes
abbrev pub text_entry_on : Drawing → Pen → CharSet → ℕ → Entry
text_entry_on d pen set code = text_entry set (record (hand_of d) { pen = pen }) code

-- a byte of a text: a format effector of one byte, or from 20 to 7F
abbrev pub IsTextByte : ℕ → Type 0
IsTextByte code = format_effector code ≡ None → IsCode code

-- the character that a byte of a text leaves as the last one, or none for a format effector
abbrev pub last_char_of_text : CharSet → ℕ → Option LastChar
last_char_of_text set code = last_after (text_entry set (hand_of start_drawing) code)

-- lines with the current attributes, from the first point to the next, and from each point to the next
unfoldable pub polyline_entries : Drawing → Coordinates → List Coordinates → List Entry
polyline_entries d p [] = []
polyline_entries d p (q ∷ qs) = Entry.Line p q (ink_of d) ∷ polyline_entries d q qs

-- the entries of a text: the first with these attributes, each further one with the pen that the one before it leaves
unfoldable pub text_entries_in : CharSet → Hand → List ℕ → List Entry
text_entries_in set hand [] = []
text_entries_in set hand (code ∷ codes) = text_entry set hand code ∷ text_entries_in set (record hand { pen = After }) codes

-- the entries of a text that begins at this pen, with the current attributes
abbrev pub text_entries : Drawing → Pen → CharSet → List ℕ → List Entry
text_entries d pen set codes = text_entries_in set (record (hand_of d) { pen = pen }) codes

-- the entries of a batch, in order
abbrev pub batch_entries : Batch → List Entry
batch_entries (Batch.Points points drawing) = map (point_entry drawing.now) points.now
batch_entries (Batch.Lines from points drawing) = polyline_entries drawing.now from points.now
batch_entries (Batch.Text set codes pen drawing) = text_entries drawing.now pen set codes.now

-- the last of these points, or the first argument if there are none
unfoldable pub last_point : Coordinates → List Coordinates → Coordinates
last_point p [] = p
last_point p (q ∷ qs) = last_point q qs

-- the attributes of the first entry of a batch are current
abbrev pub FirstIsCurrent : Batch → Drawing → Type 0
FirstIsCurrent (Batch.Points points drawing) d = AreCurrent (point_attributes drawing.now.pel drawing.now.colour) d
FirstIsCurrent (Batch.Lines from points drawing) d = AreCurrent (ink_attributes (ink_of drawing.now)) d
FirstIsCurrent (Batch.Text set codes pen drawing) d = AreCurrent (hand_attributes (record (hand_of drawing.now) { pen = pen })) d

-- the attributes of each entry are current when it comes
unfoldable pub EachIsCurrent : State → List Entry → Type 0
EachIsCurrent s [] = ⊤
EachIsCurrent s (e ∷ es) = AreCurrent (attributes e) s.drawing × EachIsCurrent (after s e) es

-- the state with these attributes, and with the pen and the last character that an entry leaves
abbrev pub with_pen_and_last : State → Entry → Drawing → State
with_pen_and_last s e d = record s { drawing = with_pen (after start e).drawing.pen d; last = last_after e }
