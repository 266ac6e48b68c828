use Rattle.std.specs.Prelude.{Bool, Err, List, None, Ok, Result, [], drop, false, if◌then◌else◌, length, slice_index, suc, take, true, zero, ℕ, ◌*◌, ◌++◌, ◌+◌, ◌-◌, ◌/◌, ◌<◌, ◌∷◌, ◌≡◌, ◌≤◌, ◌⊎◌}
use Rattle.nap_canon.specs.Names.{Attributes, Batch, Coordinates, Entry, Put, SinkModel, State, TakesAll, batch_entries, format_effector, hand_attributes, hand_of, ink_attributes, ink_of, last_point, point_attributes, point_bytes, sink_model, walk}
use Rattle.nap_codes.specs.{declared.code_set.CharSet.TheVariants.Primary, declared.code_set.GSet.TheVariants.G0}
use Rattle.nap_list.specs.{declared.attribute.Pen.TheVariants.At, declared.sink.SinkFault.TheVariants.Write}
use Rattle.nap_list.specs.declared.device.Outlet as outlet
use Rattle.nap_canon.specs.{declared.text.Form.Form, declared.text.Form.TheVariants.Two, declared.text_end.TextEnd.TextEnd, Sinking.Canonical, Sinking.Took, Sinking.Broke}
use Rattle.nap_canon.specs.declared.text_end.TextEnd.TheVariants.{NoRun, InRun}
use Rattle.nap_canon.specs.Text.{gl_of, shift_to_opcodes, shift_to_primary, joins_open_run, run_after, pieces_bytes, text_end_after, entry_pieces, pieces}

-- Batches in a sink of canonical text.

-- a canonical sink as a model of any sink
abbrev pub canon_sink_model : {O : Type 0} → outlet.Ghosts O → SinkModel (Canonical O)
canon_sink_model o = sink_model (λ s. s.state) (λ s d. ⊥) (λ s. o.failed s.outlet) (Took o) (Broke o)

-- the attributes of a batch's first entry
abbrev pub batch_attributes : Batch → Attributes
batch_attributes (Batch.Points points drawing) = point_attributes drawing.now.pel drawing.now.colour
batch_attributes (Batch.Lines from points drawing) = ink_attributes (ink_of drawing.now)
batch_attributes (Batch.Text set codes pen drawing) = hand_attributes (record (hand_of drawing.now) { pen = pen })

-- n bytes were taken, and the write of the next one failed
pub record CutAfter {S : Type 0} (sent : S → List ℕ → Bool → S → Type 0) (s : S) (bytes : List ℕ) (n : ℕ) (t : S) : Type 0 where
  pub less : n < length bytes
  pub mid : S
  pub prefix : sent s (take n bytes) false mid
  pub next : sent mid (slice_index bytes n ∷ []) true t

-- all bytes were taken, or a prefix of them
abbrev pub SentUpTo : {S : Type 0} → (S → List ℕ → Bool → S → Type 0) → S → List ℕ → S → Result (Unit {0}) ℕ → Type 0
SentUpTo sent s bytes t (Ok _) = sent s bytes false t
SentUpTo sent s bytes t (Err n) = CutAfter sent s bytes n t

-- the opening and all entries of this size were sent, or a prefix with as many complete entries as the error says
abbrev pub SentWhole : {S : Type 0} → (S → List ℕ → Bool → S → Type 0) → S → List ℕ → ℕ → List ℕ → S → Result (Unit {0}) ℕ → Type 0
SentWhole sent s opening size bytes t (Ok _) = sent s (opening ++ bytes) false t
SentWhole sent s opening size bytes t (Err whole) = (n : ℕ) × (whole ≡ (n - length opening) / size) × CutAfter sent s (opening ++ bytes) n t

-- the operands of points, one after another
unfoldable pub points_bytes : List Coordinates → List ℕ
points_bytes [] = []
points_bytes (p ∷ ps) = point_bytes p ++ points_bytes ps

-- count points join the run of this opcode, or open one if not even the first joins
abbrev pub PointsJoin : Form → TextEnd → ℕ → ℕ → Type 0
PointsJoin form text_end byte count = (count ≤ 126) × (form ≡ Two) × (joins_open_run text_end byte (8 * count) ≡ joins_open_run text_end byte 8)

-- count of these codes join the last text, or open one if the first is a character and they are few
abbrev pub TextJoins : TextEnd → List ℕ → ℕ → Type 0
TextJoins text_end codes count = (text_end ≡ NoRun G0) ⊎ ((count ≤ 1023) × ((code : ℕ) (rest : List ℕ) → codes ≡ code ∷ rest → format_effector code ≡ None))

-- count entries of a batch, from this index on, join the last run or text, or open one
abbrev pub Joins : Form → TextEnd → State → Batch → ℕ → ℕ → Type 0
Joins form text_end s (Batch.Points points drawing) first count = PointsJoin form text_end 0x26 count
Joins form text_end s (Batch.Lines from points drawing) first count = PointsJoin form text_end 0x28 count × (s.drawing.pen ≡ At (last_point from (take first points.now)))
Joins form text_end s (Batch.Text set codes pen drawing) first count = (set ≡ Primary) × TextJoins text_end (drop first codes.now) count

-- count entries after this one join the last run or text, or open one, once this one was put
abbrev pub JoinsAfter : Form → TextEnd → Batch → ℕ → ℕ → Type 0
JoinsAfter form text_end batch index count = (s : State) → Joins form text_end (walk s (take 1 (drop index (batch_entries batch)))) batch (index + 1) count

-- what comes before count operand bytes: nothing if they join the run, else their opcode
abbrev pub run_opening : TextEnd → ℕ → ℕ → List ℕ
run_opening text_end byte count = if joins_open_run text_end byte count then [] else (shift_to_opcodes (gl_of text_end) ++ byte ∷ [])

-- what comes before count entries: nothing if they join, else an opcode or a shift
abbrev pub opening : TextEnd → Batch → ℕ → List ℕ
opening text_end (Batch.Points points drawing) count = run_opening text_end 0x26 (8 * count)
opening text_end (Batch.Lines from points drawing) count = run_opening text_end 0x28 (8 * count)
opening text_end (Batch.Text set codes pen drawing) count = shift_to_primary (gl_of text_end)

-- the number of bytes of each of these entries
abbrev pub entry_size : Batch → ℕ
entry_size (Batch.Points points drawing) = 8
entry_size (Batch.Lines from points drawing) = 8
entry_size (Batch.Text set codes pen drawing) = 1

-- the bytes of count entries, from this index on
abbrev pub joined_bytes : Batch → ℕ → ℕ → List ℕ
joined_bytes (Batch.Points points drawing) first count = points_bytes (take count (drop first points.now))
joined_bytes (Batch.Lines from points drawing) first count = points_bytes (take count (drop first points.now))
joined_bytes (Batch.Text set codes pen drawing) first count = take count (drop first codes.now)

-- the end of the text after count entries
abbrev pub text_end_after_joined : TextEnd → Batch → ℕ → TextEnd
text_end_after_joined text_end (Batch.Points points drawing) count = InRun (run_after text_end 0x26 (8 * count))
text_end_after_joined text_end (Batch.Lines from points drawing) count = InRun (run_after text_end 0x28 (8 * count))
text_end_after_joined text_end (Batch.Text set codes pen drawing) count = NoRun G0

-- the bytes that are appended for a number of entries, from this index on: none for no entry
abbrev pub bytes_of_rest : TextEnd → Batch → ℕ → ℕ → List ℕ
bytes_of_rest text_end batch first zero = []
bytes_of_rest text_end batch first (suc n) = opening text_end batch (suc n) ++ joined_bytes batch first (suc n)

-- the end of the text after these entries
abbrev pub text_end_after_rest : TextEnd → Batch → ℕ → TextEnd
text_end_after_rest text_end batch zero = text_end
text_end_after_rest text_end batch (suc n) = text_end_after_joined text_end batch (suc n)

-- a list of which n bytes were written: k complete entries, and part of the next one
pub record Parted (form : Form) (text_end : TextEnd) (s : State) (list : List Entry) (k n : ℕ) : Type 0 where
  pub next : Entry
  pub rest : List Entry
  pub parts : list ≡ take k list ++ next ∷ rest
  pub part : ℕ
  pub less : part < length (pieces_bytes (text_end_after text_end (pieces form s (take k list))) (entry_pieces form (walk s (take k list)) next))
  pub cut : take n (pieces_bytes text_end (pieces form s list))
      ≡ pieces_bytes text_end (pieces form s (take k list)) ++ take part (pieces_bytes (text_end_after text_end (pieces form s (take k list))) (entry_pieces form (walk s (take k list)) next))

-- a prefix of the list was put, of at least one entry, or the list was put up to an entry during which the device
-- failed
abbrev pub PutsSome : {O : Type 0} → outlet.Ghosts O → List Entry → Canonical O → Canonical O → Result ℕ ℕ → Type 0
PutsSome o list s t (Ok count) = (0 < count) × (count ≤ length list) × TakesAll (canon_sink_model o) (take count list) s t
PutsSome o list s t (Err taken) = Put (canon_sink_model o) list s t (Err (record { taken = taken; fault = Write }))

-- a list was put from this entry on, and the error counts the entries before it too
abbrev pub PutsAfter : {O : Type 0} → outlet.Ghosts O → ℕ → List Entry → Canonical O → Canonical O → Result (Unit {0}) ℕ → Type 0
PutsAfter o first list s t (Ok _) = TakesAll (canon_sink_model o) (drop first list) s t
PutsAfter o first list s t (Err taken) = (n : ℕ) × (taken ≡ first + n) × Put (canon_sink_model o) (drop first list) s t (Err (record { taken = n; fault = Write }))
