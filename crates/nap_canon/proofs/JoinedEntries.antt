-- Entries that join the end of the text: all are written as equally many bytes, but for the opening before the first.

use Rattle.nap_canon.proofs.{After, AppendsNext, AppendsPieces, AreCurrent, At, Batch, Bool, CharSet, Command, Coordinates, CutAfter, Drawing, EachIsCurrent, Entry, Err, Form, FormatEffector, G0, Hand, InRun, Joins, JoinsAfter, List, NoRun, None, Ok, Option, Parted, Pen, Pending, Piece, PointsJoin, Preludes.nothing_to_set, Primary, PutsPrefix, ReadingBack.same_opcode, ReadingBack.space_for, RestIsCurrent, Result, SendsPartly, SendsWholly, SentUpTo, SentWhole, Some, SpellsNext, State, TextEnd, TextJoins, TextStep, Texts.point_size, Texts.points_size, Two, Writer, WritesWhole, [], after, ap, append-nil, append_assoc, arith, attributes, batch_entries, bytes_of_rest, command_piece, drop, drop-drop, entry_pieces, entry_size, false, false≢true, format_effector, format_effector_known, gl_of, group, hand_of, ink_of, inl, inr, joinable_piece, joined_bytes, joins_open_run, last_point, length, length-append, length-drop, length-map, length-take-le, line_entry, line_piece, lines_count, lines_prefix, lines_rest, map, nat_tests, opening, piece_bytes, pieces, pieces_bytes, pieces_bytes-append, point_bytes, point_entry, points_bytes, points_prefix, points_rest, polyline_entries, refl, run_after, run_limit, run_opening, same_pen, shift_to_opcodes, shift_to_primary, spelling_pieces, step_bytes, subst, suc, sym, take, take-append-add, take-append-le, text_byte_piece, text_byte_piece_as, text_count, text_end_after, text_end_after-append, text_end_after_joined, text_end_after_piece, text_end_after_rest, text_entries_in, text_entry, text_prefix, true, walk, with_attributes, zero, ℕ, ⊤, ◌*◌, ◌++◌, ◌+◌, ◌-◌, ◌/◌, ◌<◌, ◌∙◌, ◌∷◌, ◌≡◌, ◌≤◌}

-- an entry whose attributes are current is written by its spelling alone
alone : (form : Form) (s : State) (e : Entry) → AreCurrent (attributes e) s.drawing → entry_pieces form s e ≡ spelling_pieces form (with_attributes s.drawing (attributes e)) e
alone form s e is = ap (λ (commands : List Command). map command_piece commands ++ spelling_pieces form (with_attributes s.drawing (attributes e)) e) (nothing_to_set (attributes e) s.drawing is)

pub current_appended : (form : Form) (s : State) (list : List Entry) (w t : Pending) → EachIsCurrent s list → SpellsNext form s.drawing list w t → AppendsNext form s list w t
unfolding EachIsCurrent
current_appended form s list w t all_current spelled e es is =
    subst (λ (ps : List Piece). AppendsPieces ps w t) (sym (alone form s e (subst (EachIsCurrent s) is all_current).0)) (spelled e es is)

-- the bytes of an entry that is one piece, and the end of the text after it

one_written : (form : Form) (text_end : TextEnd) (s : State) (e : Entry) (piece : Piece) → entry_pieces form s e ≡ piece ∷ [] → pieces_bytes text_end (entry_pieces form s e) ≡ piece_bytes text_end piece
unfolding pieces_bytes
one_written form text_end s e piece is = ap (pieces_bytes text_end) is ∙ append-nil (piece_bytes text_end piece)

one_after : (form : Form) (text_end : TextEnd) (s : State) (e : Entry) (piece : Piece) → entry_pieces form s e ≡ piece ∷ [] → text_end_after text_end (entry_pieces form s e) ≡ text_end_after_piece text_end piece
unfolding text_end_after
one_after form text_end s e piece is = ap (text_end_after text_end) is

-- the spelling of the entry at an index of a batch

spelled_at : (form : Form) (d : Drawing) (list : List Entry) (x : Entry) (xs : List Entry) → x ∷ xs ≡ list → (e : Entry) (es : List Entry) → list ≡ e ∷ es →
    spelling_pieces form (with_attributes d (attributes e)) e ≡ spelling_pieces form (with_attributes d (attributes x)) x
spelled_at form d list x xs there e es is = grind arith

pub next_point : (form : Form) (d : Drawing) {batch : Batch} {points : _} {drawing : _} (index : ℕ) {p : Coordinates} {rest : List Coordinates} → batch ≡ Batch.Points points drawing →
    drop index points.now ≡ p ∷ rest → (e : Entry) (es : List Entry) → drop index (batch_entries batch) ≡ e ∷ es →
    spelling_pieces form (with_attributes d (attributes e)) e ≡ joinable_piece form 0x26 (point_bytes p) ∷ []
next_point form d {batch} {points} {drawing} index {p} {rest} is at =
    let held = drawing.now in
    spelled_at form d (drop index (batch_entries batch)) (point_entry held p) (map (point_entry held) rest)
    (ap (map (point_entry held)) (sym at) ∙ points_rest held points.now index ∙ ap (λ (b : Batch). drop index (batch_entries b)) (sym is))

pub next_line : (form : Form) (d : Drawing) {batch : Batch} {from start : Coordinates} {points : _} {drawing : _} (index : ℕ) {p : Coordinates} {rest : List Coordinates} →
    batch ≡ Batch.Lines from points drawing → drop index points.now ≡ p ∷ rest → start ≡ last_point from (take index points.now) →
    (e : Entry) (es : List Entry) → drop index (batch_entries batch) ≡ e ∷ es → spelling_pieces form (with_attributes d (attributes e)) e ≡ line_piece form d.pen start p ∷ []
unfolding polyline_entries
next_line form d {batch} {from} {points = points} {drawing} index {p} {rest} is at begins e es list =
    let held = drawing.now in
    let q = last_point from (take index points.now) in
    spelled_at form d (drop index (batch_entries batch)) (line_entry held q p) (polyline_entries held p rest)
    (ap (polyline_entries held q) (sym at) ∙ lines_rest held from points.now index ∙ ap (λ (b : Batch). drop index (batch_entries b)) (sym is)) e es list
    ∙ ap (λ (start : Coordinates). line_piece form d.pen start p ∷ []) (sym begins)

-- the characters of a text from an index on, with the attributes that they have
text_after : (set : CharSet) (hand : Hand) (codes : List ℕ) (n : ℕ) → (h : Hand) × (drop n (text_entries_in set hand codes) ≡ text_entries_in set h (drop n codes))
unfolding text_entries_in
text_after set hand codes zero = (hand, refl)
text_after set hand [] (suc n) = (hand, refl)
text_after set hand (c ∷ cs) (suc n) = text_after set (record hand { pen = After }) cs n

-- the spelling of a byte of a text
typed_spelled : (form : Form) (d : Drawing) (set : CharSet) (hand : Hand) (code : ℕ) → spelling_pieces form d (text_entry set hand code) ≡ text_byte_piece set code ∷ []
typed_spelled form d set hand code = grind arith

pub next_typed : (form : Form) (d : Drawing) {batch : Batch} {set : CharSet} {codes : _} {pen : Pen} {drawing : _} (index : ℕ) {code : ℕ} {rest : List ℕ} →
    batch ≡ Batch.Text set codes pen drawing → drop index codes.now ≡ code ∷ rest → (e : Entry) (es : List Entry) → drop index (batch_entries batch) ≡ e ∷ es →
    spelling_pieces form (with_attributes d (attributes e)) e ≡ text_byte_piece set code ∷ []
unfolding text_entries_in
next_typed form d {batch} {set} {codes} {pen} {drawing} index {code} {rest} is at e es list =
    let next_end = text_after set (record (hand_of drawing.now) { pen = pen }) codes.now index in
    let x = text_entry set next_end.0 code in
    spelled_at form d (drop index (batch_entries batch)) x (text_entries_in set (record next_end.0 { pen = After }) rest)
    (ap (text_entries_in set next_end.0) (sym at) ∙ sym next_end.1 ∙ ap (λ (b : Batch). drop index (batch_entries b)) (sym is)) e es list
    ∙ typed_spelled form (with_attributes d (attributes x)) set next_end.0 code

-- the bytes of entries that are one piece each

-- the first entry is written as first_size bytes, and each further one as size bytes
unfoldable pub EachWrites : ℕ → ℕ → Form → TextEnd → State → List Entry → Type 0
EachWrites first_size size form text_end s [] = ⊤
EachWrites first_size size form text_end s (e ∷ es) = (length (pieces_bytes text_end (entry_pieces form s e)) ≡ first_size) × EachWrites size size form (text_end_after text_end (entry_pieces form s e)) (after s e) es

pub record Joined (first_size size : ℕ) (form : Form) (text_end : TextEnd) (s : State) (list : List Entry) (bytes : List ℕ) (end : TextEnd) : Type 0 where
  pub each : EachWrites first_size size form text_end s list
  pub writes : pieces_bytes text_end (pieces form s list) ≡ bytes
  pub ends : text_end_after text_end (pieces form s list) ≡ end

joined_none : (first_size size : ℕ) (form : Form) (text_end : TextEnd) (s : State) → Joined first_size size form text_end s [] [] text_end
unfolding EachWrites pieces pieces_bytes text_end_after
joined_none first_size size form text_end s = record { each = tt; writes = refl; ends = refl }

-- other forms of the same
joined_as : (first_size first_size' size : ℕ) (form : Form) (text_end : TextEnd) (s : State) (list : List Entry) (bytes bytes' : List ℕ) (end end' : TextEnd) → first_size ≡ first_size' → bytes ≡ bytes' → end ≡ end' →
    Joined first_size size form text_end s list bytes end → Joined first_size' size form text_end s list bytes' end'
joined_as first_size first_size' size form text_end s list bytes bytes' end end' same spelled ends joined = grind arith

joined_more : (first_size size : ℕ) (form : Form) (text_end next : TextEnd) (s : State) (e : Entry) (list : List Entry) (piece : Piece) (first rest : List ℕ) (end : TextEnd) →
    entry_pieces form s e ≡ piece ∷ [] → piece_bytes text_end piece ≡ first → length first ≡ first_size → text_end_after_piece text_end piece ≡ next →
    Joined size size form next (after s e) list rest end → Joined first_size size form text_end s (e ∷ list) (first ++ rest) end
unfolding EachWrites pieces pieces_bytes text_end_after
joined_more first_size size form text_end next s e list piece first rest end is bytes count next_end more = grind (arith, one_written, one_after, length, pieces_bytes-append, text_end_after-append)

-- points, after their opcode

-- a run of this opcode, of n bytes
abbrev run_of : ℕ → ℕ → TextEnd
run_of byte n = InRun (record { opcode = byte; length = n })

joins_run : (byte n m : ℕ) → n + m ≤ run_limit → joins_open_run (run_of byte n) byte m ≡ true
joins_run byte n m space = grind (arith, nat_tests)

-- each entry is written by a point after this opcode
unfoldable EachPoint : ℕ → State → List Entry → List Coordinates → Type 0
EachPoint byte s [] [] = ⊤
EachPoint byte s [] (p ∷ ps) = ⊥
EachPoint byte s (e ∷ es) [] = ⊥
EachPoint byte s (e ∷ es) (p ∷ ps) = (entry_pieces Two s e ≡ group byte (point_bytes p) ∷ []) × EachPoint byte (after s e) es ps

-- points that join a run
run_joins : (byte n : ℕ) (s : State) (list : List Entry) (ps : List Coordinates) → EachPoint byte s list ps → n + 8 * length ps ≤ run_limit →
    Joined 8 8 Two (run_of byte n) s list (points_bytes ps) (run_of byte (n + 8 * length ps))
unfolding EachPoint points_bytes
run_joins byte n s [] [] each space = joined_as 8 8 8 Two (run_of byte n) s [] [] [] _ _ refl refl (ap (run_of byte) (omega arith)) (joined_none 8 8 Two (run_of byte n) s)
run_joins byte n s [] (p ∷ ps) each space = absurd each
run_joins byte n s (e ∷ es) [] each space = absurd each
run_joins byte n s (e ∷ es) (p ∷ ps) each space =
    let joins : joins_open_run (run_of byte n) byte (length (point_bytes p)) ≡ true = joins_run byte n (length (point_bytes p)) (omega (arith, space, point_size p)) in
    let bytes : piece_bytes (run_of byte n) (group byte (point_bytes p)) ≡ point_bytes p = rw joins refl in
    let next_end : text_end_after_piece (run_of byte n) (group byte (point_bytes p)) ≡ run_of byte (n + 8) = rw joins (ap (λ (size : ℕ). run_of byte (n + size)) (point_size p)) in
    joined_as 8 8 8 Two (run_of byte n) s (e ∷ es) _ _ _ _ refl refl (ap (run_of byte) (omega arith))
    (joined_more 8 8 Two (run_of byte n) (run_of byte (n + 8)) s e es (group byte (point_bytes p)) (point_bytes p) (points_bytes ps) _ each.0 bytes (point_size p) next_end
    (run_joins byte (n + 8) (after s e) es ps each.1 (omega (arith, space))))

-- points that open a run after this end of the text
run_opens : (text_end : TextEnd) (byte : ℕ) (s : State) (list : List Entry) (ps : List Coordinates) → EachPoint byte s list ps → 0 < length ps → 8 * length ps ≤ run_limit →
    joins_open_run text_end byte 8 ≡ false → joins_open_run text_end byte (8 * length ps) ≡ false →
    Joined (length (run_opening text_end byte (8 * length ps)) + 8) 8 Two text_end s list (run_opening text_end byte (8 * length ps) ++ points_bytes ps) (InRun (run_after text_end byte (8 * length ps)))
unfolding EachPoint points_bytes
run_opens text_end byte s [] [] each some space first all = absurd (omega (arith, some))
run_opens text_end byte s [] (p ∷ ps) each some space first all = absurd each
run_opens text_end byte s (e ∷ es) [] each some space first all = absurd each
run_opens text_end byte s (e ∷ es) (p ∷ ps) each some space first all =
    let head : List ℕ = shift_to_opcodes (gl_of text_end) ++ byte ∷ [] in
    let apart : joins_open_run text_end byte (length (point_bytes p)) ≡ false = ap (joins_open_run text_end byte) (point_size p) ∙ first in
    let opens : run_opening text_end byte (8 * length (p ∷ ps)) ≡ head = rw all refl in
    let bytes : piece_bytes text_end (group byte (point_bytes p)) ≡ head ++ point_bytes p = rw apart (sym (append_assoc (shift_to_opcodes (gl_of text_end)) (byte ∷ []) (point_bytes p))) in
    let next_end : text_end_after_piece text_end (group byte (point_bytes p)) ≡ run_of byte 8 = rw apart (ap (run_of byte) (point_size p)) in
    let ends : run_of byte (8 + 8 * length ps) ≡ InRun (run_after text_end byte (8 * length (p ∷ ps))) = rw all (ap (run_of byte) (omega arith)) in
    joined_as _ _ 8 Two text_end s (e ∷ es) _ _ _ _
    (length-append head (point_bytes p) ∙ ap (λ (n : ℕ). length head + n) (point_size p) ∙ ap (λ (bs : List ℕ). length bs + 8) (sym opens))
    (append_assoc head (point_bytes p) (points_bytes ps) ∙ ap (λ (bs : List ℕ). bs ++ points_bytes (p ∷ ps)) (sym opens)) ends
    (joined_more (length (head ++ point_bytes p)) 8 Two text_end (run_of byte 8) s e es (group byte (point_bytes p)) (head ++ point_bytes p) (points_bytes ps) _ each.0 bytes refl next_end
    (run_joins byte 8 (after s e) es ps each.1 (omega (arith, space))))

points_each : (s : State) (d : Drawing) (ps : List Coordinates) → EachIsCurrent s (map (point_entry d) ps) → EachPoint 0x26 s (map (point_entry d) ps) ps
unfolding EachPoint EachIsCurrent
points_each s d [] all_current = tt
points_each s d (p ∷ ps) all_current = let e = point_entry d p in (alone Two s e all_current.0, points_each (after s e) d ps all_current.1)

same_points : (p : Coordinates) → same_pen (At p) (At p) ≡ true
same_points p = grind (arith, nat_tests)

-- a line from the pen
line_from_pen : (pen : Pen) (from to : Coordinates) → pen ≡ At from → line_piece Two pen from to ≡ group 0x28 (point_bytes to)
line_from_pen pen from to is = grind (arith, same_points)

lines_each : (s : State) (d : Drawing) (from : Coordinates) (ps : List Coordinates) → s.drawing.pen ≡ At from → EachIsCurrent s (polyline_entries d from ps) → EachPoint 0x28 s (polyline_entries d from ps) ps
unfolding EachPoint EachIsCurrent polyline_entries
lines_each s d from [] pen all_current = tt
lines_each s d from (p ∷ ps) pen all_current =
    let e = Entry.Line from p (ink_of d) in
    (alone Two s e all_current.0 ∙ ap (λ (piece : Piece). piece ∷ []) (line_from_pen s.drawing.pen from p pen), lines_each (after s e) d p ps refl all_current.1)

-- primary characters while they are in GL, and moves among them

effector_bytes : {byte : ℕ} {step : TextStep} → FormatEffector byte step → step_bytes step ≡ byte ∷ []
effector_bytes h = grind arith

-- each is its own byte, after which the primary characters are in GL
typed_alone : (code : ℕ) → (piece_bytes (NoRun G0) (text_byte_piece Primary code) ≡ code ∷ []) × (text_end_after_piece (NoRun G0) (text_byte_piece Primary code) ≡ NoRun G0)
typed_alone code = by (format_effector code) refl
  where
    by : (step : Option TextStep) → format_effector code ≡ step →
        (piece_bytes (NoRun G0) (text_byte_piece_as step Primary code) ≡ code ∷ []) × (text_end_after_piece (NoRun G0) (text_byte_piece_as step Primary code) ≡ NoRun G0)
    by (Some step) is = (effector_bytes (format_effector_known code step is), refl)
    by None is = (refl, refl)

text_joins : (form : Form) (s : State) (hand : Hand) (codes : List ℕ) → EachIsCurrent s (text_entries_in Primary hand codes) → Joined 1 1 form (NoRun G0) s (text_entries_in Primary hand codes) codes (NoRun G0)
unfolding EachIsCurrent text_entries_in
text_joins form s hand [] all_current = joined_none 1 1 form (NoRun G0) s
text_joins form s hand (c ∷ cs) all_current =
    let e = text_entry Primary hand c in
    let bytes = typed_alone c in
    joined_more 1 1 form (NoRun G0) (NoRun G0) s e (text_entries_in Primary (record hand { pen = After }) cs) (text_byte_piece Primary c) (c ∷ []) cs (NoRun G0)
    (alone form s e all_current.0 ∙ typed_spelled form (with_attributes s.drawing (attributes e)) Primary hand c) bytes.0 refl bytes.1
    (text_joins form (after s e) (record hand { pen = After }) cs all_current.1)

-- the first code shifts them into GL, if it is a character
text_opens : (form : Form) (text_end : TextEnd) (s : State) (hand : Hand) (codes : List ℕ) (count : ℕ) → 0 < count → count ≤ length codes →
    ((code : ℕ) (rest : List ℕ) → codes ≡ code ∷ rest → format_effector code ≡ None) → EachIsCurrent s (text_entries_in Primary hand (take count codes)) →
    Joined (length (shift_to_primary (gl_of text_end)) + 1) 1 form text_end s (text_entries_in Primary hand (take count codes)) (shift_to_primary (gl_of text_end) ++ take count codes) (NoRun G0)
unfolding EachIsCurrent text_entries_in
text_opens form text_end s hand codes zero some few character all_current = absurd (omega (arith, some))
text_opens form text_end s hand [] (suc n) some few character all_current = absurd (omega (arith, few))
text_opens form text_end s hand (c ∷ cs) (suc n) some few character all_current =
    let e = text_entry Primary hand c in
    let shift : List ℕ = shift_to_primary (gl_of text_end) in
    let is : format_effector c ≡ None = character c cs refl in
    let bytes : piece_bytes text_end (text_byte_piece Primary c) ≡ shift ++ c ∷ [] = rw is refl in
    let next_end : text_end_after_piece text_end (text_byte_piece Primary c) ≡ NoRun G0 = rw is refl in
    joined_as _ _ 1 form text_end s (text_entries_in Primary hand (c ∷ take n cs)) _ _ _ _ (length-append shift (c ∷ [])) (append_assoc shift (c ∷ []) (take n cs)) refl
    (joined_more (length (shift ++ c ∷ [])) 1 form text_end (NoRun G0) s e (text_entries_in Primary (record hand { pen = After }) (take n cs)) (text_byte_piece Primary c) (shift ++ c ∷ []) (take n cs) (NoRun G0)
    (alone form s e all_current.0 ∙ typed_spelled form (with_attributes s.drawing (attributes e)) Primary hand c) bytes refl next_end
    (text_joins form (after s e) (record hand { pen = After }) (take n cs) all_current.1))

-- the run that is joined

record Run (text_end : TextEnd) (byte m : ℕ) : Type 0 where
  pub length : ℕ
  pub is : text_end ≡ run_of byte length
  pub space : length + m ≤ run_limit

run_joined : (text_end : TextEnd) (byte m : ℕ) → joins_open_run text_end byte m ≡ true → Run text_end byte m
run_joined (NoRun gl) byte m joins = absurd (false≢true joins)
run_joined (InRun run) byte m joins =
    let same : byte ≡ run.opcode = same_opcode run.opcode byte run.length m joins in
    record {
      length = run.length;
      is = ap (λ (opcode : ℕ). InRun (record { opcode = opcode; length = run.length })) (sym same);
      space = space_for byte run.length m (subst (λ (opcode : ℕ). joins_open_run (run_of opcode run.length) byte m ≡ true) (sym same) joins);
    }

-- entries of a batch from one on

prefix_current : (s : State) (list : List Entry) (n : ℕ) → EachIsCurrent s list → EachIsCurrent s (take n list)
unfolding EachIsCurrent
prefix_current s list zero all_current = tt
prefix_current s [] (suc n) all_current = tt
prefix_current s (e ∷ es) (suc n) all_current = (all_current.0, prefix_current (after s e) es n all_current.1)

pub rest_current : (s : State) (list : List Entry) (n : ℕ) → EachIsCurrent s list → EachIsCurrent (walk s (take n list)) (drop n list)
unfolding EachIsCurrent walk
rest_current s list zero all_current = all_current
rest_current s [] (suc n) all_current = tt
rest_current s (e ∷ es) (suc n) all_current = rest_current (after s e) es n all_current.1

-- points that join the run of this opcode, or open one
points_after : (form : Form) (text_end : TextEnd) (s : State) (list : List Entry) (qs : List Coordinates) (byte count : ℕ) → PointsJoin form text_end byte count → 0 < count → length qs ≡ count →
    EachPoint byte s list qs →
    Joined (length (run_opening text_end byte (8 * count)) + 8) 8 form text_end s list (run_opening text_end byte (8 * count) ++ points_bytes qs) (InRun (run_after text_end byte (8 * count)))
points_after form text_end s list qs byte count joins some size each = by (joins_open_run text_end byte 8) refl
  where
    goal : Form → ℕ → Type 0
    goal form count = Joined (length (run_opening text_end byte (8 * count)) + 8) 8 form text_end s list (run_opening text_end byte (8 * count) ++ points_bytes qs) (InRun (run_after text_end byte (8 * count)))

    by : (b : Bool) → joins_open_run text_end byte 8 ≡ b → goal form count
    by true is =
        let all : joins_open_run text_end byte (8 * count) ≡ true = joins.2 ∙ is in
        let run = run_joined text_end byte (8 * count) all in
        let n = run.length in
        let ends : run_of byte (n + 8 * length qs) ≡ InRun (run_after text_end byte (8 * count)) =
        ap (λ (m : ℕ). run_of byte (n + 8 * m)) size ∙ (let here : run_of byte (n + 8 * count) ≡ InRun (run_after (run_of byte n) byte (8 * count)) = rw (joins_run byte n (8 * count) run.space) refl in here)
        ∙ ap (λ (t : TextEnd). InRun (run_after t byte (8 * count))) (sym run.is) in
        let opens : [] ≡ run_opening text_end byte (8 * count) = rw all refl in
        let here : Joined 8 8 Two text_end s list (points_bytes qs) (run_of byte (n + 8 * length qs)) =
        subst (λ (t : TextEnd). Joined 8 8 Two t s list (points_bytes qs) (run_of byte (n + 8 * length qs))) (sym run.is)
        (run_joins byte n s list qs each (omega (arith, run.space, size))) in
        subst (λ (f : Form). goal f count) (sym joins.1)
        (joined_as 8 _ 8 Two text_end s list _ _ _ _ (ap (λ (bs : List ℕ). length bs + 8) opens) (ap (λ (bs : List ℕ). bs ++ points_bytes qs) opens) ends here)
    by false is =
        subst (λ (f : Form). goal f count) (sym joins.1)
        (subst (goal Two) size
        (run_opens text_end byte s list qs each (omega (arith, some, size)) (omega (arith, joins.0, size)) is (ap (λ (n : ℕ). joins_open_run text_end byte (8 * n)) size ∙ joins.2 ∙ is)))

-- count entries of a batch, from an index on, that join the end of the text
pub batch_joins : (form : Form) (text_end : TextEnd) (s : State) (batch : Batch) (first count : ℕ) → 0 < count → count + first ≤ length (batch_entries batch) → EachIsCurrent s (drop first (batch_entries batch)) →
    Joins form text_end s batch first count →
    Joined (length (opening text_end batch count) + entry_size batch) (entry_size batch) form text_end s (take count (drop first (batch_entries batch))) (opening text_end batch count ++ joined_bytes batch first count)
    (text_end_after_joined text_end batch count)
batch_joins form text_end s (Batch.Points points drawing) first count some few all_current joins =
    let d = drawing.now in
    let ps = points.now in
    let qs = take count (drop first ps) in
    let size : length qs ≡ count = length-take-le count (drop first ps) (omega (arith, few, length-map ps (point_entry d), length-drop first ps)) in
    let is : take count (drop first (map (point_entry d) ps)) ≡ map (point_entry d) qs = ap (take count) (sym (points_rest d ps first)) ∙ sym (points_prefix d (drop first ps) count) in
    let list_current = subst (EachIsCurrent s) is (prefix_current s (drop first (map (point_entry d) ps)) count all_current) in
    points_after form text_end s _ qs 0x26 count joins some size (subst (λ (list : List Entry). EachPoint 0x26 s list qs) (sym is) (points_each s d qs list_current))
batch_joins form text_end s (Batch.Lines from points drawing) first count some few all_current joins =
    let d = drawing.now in
    let ps = points.now in
    let p = last_point from (take first ps) in
    let qs = take count (drop first ps) in
    let size : length qs ≡ count = length-take-le count (drop first ps) (omega (arith, few, lines_count d from ps, length-drop first ps)) in
    let is : take count (drop first (polyline_entries d from ps)) ≡ polyline_entries d p qs = ap (take count) (sym (lines_rest d from ps first)) ∙ sym (lines_prefix d p (drop first ps) count) in
    let list_current = subst (EachIsCurrent s) is (prefix_current s (drop first (polyline_entries d from ps)) count all_current) in
    points_after form text_end s _ qs 0x28 count joins.0 some size (subst (λ (list : List Entry). EachPoint 0x28 s list qs) (sym is) (lines_each s d p qs joins.1 list_current))
batch_joins form text_end s (Batch.Text set codes pen drawing) first count some few all_current joins =
    let hand = record (hand_of drawing.now) { pen = pen } in
    let cs = take count (drop first codes.now) in
    let next_end = text_after set hand codes.now first in
    let h = next_end.0 in
    let list = take count (drop first (text_entries_in set hand codes.now)) in
    let is : list ≡ text_entries_in set h cs = ap (take count) next_end.1 ∙ sym (text_prefix set h (drop first codes.now) count) in
    let all : list ≡ text_entries_in Primary h cs = is ∙ ap (λ (set : CharSet). text_entries_in set h cs) joins.0 in
    let list_current = subst (EachIsCurrent s) all (prefix_current s (drop first (text_entries_in set hand codes.now)) count all_current) in
    subst (λ (list : List Entry). Joined (length (shift_to_primary (gl_of text_end)) + 1) 1 form text_end s list (shift_to_primary (gl_of text_end) ++ cs) (NoRun G0)) (sym all)
    (by h list_current joins.1)
  where
    by : (h : Hand) → EachIsCurrent s (text_entries_in Primary h (take count (drop first codes.now))) → TextJoins text_end (drop first codes.now) count →
        Joined (length (shift_to_primary (gl_of text_end)) + 1) 1 form text_end s (text_entries_in Primary h (take count (drop first codes.now))) (shift_to_primary (gl_of text_end) ++ take count (drop first codes.now)) (NoRun G0)
    by h list_current (inl is) =
        subst (λ (t : TextEnd). Joined (length (shift_to_primary (gl_of t)) + 1) 1 form t s (text_entries_in Primary h (take count (drop first codes.now))) (shift_to_primary (gl_of t) ++ take count (drop first codes.now)) (NoRun G0))
        (sym is) (text_joins form s h (take count (drop first codes.now)) list_current)
    by h list_current (inr opens) =
        let all = text_count set (record (hand_of drawing.now) { pen = pen }) codes.now in
        text_opens form text_end s h (drop first codes.now) count some (omega (arith, few, all, length-drop first codes.now)) opens.1 list_current

-- the entries that a cut of their bytes leaves

-- n bytes are k complete entries, the first of first_size bytes, and less than one more
pub record Whole (first_size size n k : ℕ) : Type 0 where
  pub from : 0 < k → first_size + size * k ≤ n + size
  pub to : n < first_size + size * k

-- a part of the first entry
pub parted_first : (form : Form) (text_end : TextEnd) (s : State) (e : Entry) (es : List Entry) (n : ℕ) → n < length (pieces_bytes text_end (entry_pieces form s e)) → Parted form text_end s (e ∷ es) 0 n
unfolding pieces pieces_bytes text_end_after walk
parted_first form text_end s e es n few = record {
  next = e;
  rest = es;
  parts = refl;
  part = n;
  less = few;
  cut =
      ap (take n) (pieces_bytes-append text_end (entry_pieces form s e) (pieces form (after s e) es))
      ∙ take-append-le n (pieces_bytes text_end (entry_pieces form s e)) _ (omega (arith, few));
}

-- the first entry, and n bytes of those after it
pub parted_after : (form : Form) (text_end : TextEnd) (s : State) (e : Entry) (es : List Entry) (k n m : ℕ) → n ≡ length (pieces_bytes text_end (entry_pieces form s e)) + m →
    Parted form (text_end_after text_end (entry_pieces form s e)) (after s e) es k m → Parted form text_end s (e ∷ es) (suc k) n
unfolding pieces pieces_bytes text_end_after walk
parted_after form text_end s e es k n m is more = grind (arith, text_end_after-append, length, pieces_bytes-append, take-append-add, append_assoc)

pub each_prefix : (first_size size : ℕ) (form : Form) (text_end : TextEnd) (s : State) (list : List Entry) (k n : ℕ) → EachWrites first_size size form text_end s list → k < length list → Whole first_size size n k →
    Parted form text_end s list k n
unfolding EachWrites
each_prefix first_size size form text_end s [] k n each less whole = absurd (omega (arith, less))
each_prefix first_size size form text_end s (e ∷ es) zero n each less whole = parted_first form text_end s e es n (omega (arith, whole.to, each.0))
each_prefix first_size size form text_end s (e ∷ es) (suc k) n each less whole =
    let low : first_size + size * suc k ≤ n + size = whole.from (omega arith) in
    parted_after form text_end s e es k n (n - first_size) (omega (arith, each.0, low))
    (each_prefix size size form (text_end_after text_end (entry_pieces form s e)) (after s e) es k (n - first_size) each.1 (omega (arith, less))
    (record { from = λ some. omega (arith, low); to = omega (arith, low, whole.to) }))

-- the number of bytes of entries, and how many of them were written completely

pub joined_length : (batch : Batch) (first count : ℕ) → count + first ≤ length (batch_entries batch) → length (joined_bytes batch first count) ≡ entry_size batch * count
joined_length batch first count h = grind (arith, points_size, length-take-le, length-map, length-drop, lines_count, text_count)

-- bytes of an opening and of entries that were cut
module _ (begin : List ℕ) (batch : Batch) (first count n : ℕ) (few : count + first ≤ length (batch_entries batch)) (some : 0 < count) (less : n < length (begin ++ joined_bytes batch first count)) where
  fewer : n < length begin + entry_size batch * count
  fewer = omega (arith, less, length-append begin (joined_bytes batch first count), joined_length batch first count few)

  pub whole_less : (n - length begin) / entry_size batch < count
  whole_less = grind (arith, fewer, length)

  pub whole_of : Whole (length begin + entry_size batch) (entry_size batch) n ((n - length begin) / entry_size batch)
  whole_of = grind (arith, length)

-- bytes are entries of one byte, after no opening
pub whole_bytes : {S : Type 0} (sent : S → List ℕ → Bool → S → Type 0) (s t : S) (bytes : List ℕ) (r : Result (Unit {0}) ℕ) → SentUpTo sent s bytes t r → SentWhole sent s [] 1 bytes t r
whole_bytes sent s t bytes r h = grind arith

-- fewer of them were written completely
pub whole_few : {S : Type 0} (sent : S → List ℕ → Bool → S → Type 0) (a b : S) (begin : List ℕ) (batch : Batch) (first count k : ℕ) → 0 < count →
    count + first ≤ length (batch_entries batch) → SentWhole sent a begin (entry_size batch) (joined_bytes batch first count) b (Err k) → k + first ≤ length (batch_entries batch)
whole_few sent a b begin batch first count k some few put = grind (arith, whole_less)

-- Entries that are one write: those that join the end of the text, and an entry with those that join after it.

-- what a writer put of a batch from one entry on, whose entries join the end of the text, or open a run or a text

module _ {T F : Type 0} (sends : T → List ℕ → Bool → T → Type 0) (w : Writer T F) (batch : Batch) (first count : ℕ) (some : 0 < count) (few : count + first ≤ length (batch_entries batch))
    (all_current : EachIsCurrent w.state (drop first (batch_entries batch))) (joins : Joins w.form w.pending.text_end w.state batch first count) where
  abbrev from : List Entry
  from = drop first (batch_entries batch)

  abbrev each_size : ℕ
  each_size = entry_size batch

  abbrev opens : List ℕ
  opens = opening w.pending.text_end batch count

  abbrev sent_bytes : List ℕ
  sent_bytes = opens ++ joined_bytes batch first count

  abbrev Wrote : Writer T F → Result (Unit {0}) ℕ → Type 0
  Wrote v r = WritesWhole sends opens each_size (joined_bytes batch first count) (text_end_after_joined w.pending.text_end batch count) w v r

  as_joined : Joined (length opens + each_size) each_size w.form w.pending.text_end w.state (take count from) sent_bytes (text_end_after_joined w.pending.text_end batch count)
  as_joined = batch_joins w.form w.pending.text_end w.state batch first count some few all_current joins

  within_list : count ≤ length from
  within_list = omega (arith, few, length-drop first (batch_entries batch))

  pub joined_whole : {v : Writer T F} {x : Unit {0}} {s : State} → Wrote v (Ok x) → s ≡ walk v.state (take count from) → PutsPrefix sends from w (record v { state = s }) (Ok count)
  joined_whole {v} put is = record {
    sent = record {
      some = some;
      few = within_list;
      sent = subst (λ (bs : List ℕ). sends w.target bs false v.target) (sym as_joined.writes) put.sent;
      ends = put.text_end ∙ sym as_joined.ends;
    };
    form = put.kept.0;
    state = is ∙ ap (λ (s : State). walk s (take count from)) put.kept.1;
  }

  pub joined_cut : {v : Writer T F} {k : ℕ} {s : State} → Wrote v (Err k) → s ≡ walk v.state (take k from) → PutsPrefix sends from w (record v { state = s }) (Err k)
  joined_cut {v} {k} put is =
      let n : ℕ = put.sent.0 in
      let cut : CutAfter sends w.target sent_bytes n v.target = put.sent.2 in
      let j : ℕ = (n - length opens) / each_size in
      let some_whole : j < count = whole_less opens batch first count n few some cut.less in
      let parted : Parted w.form w.pending.text_end w.state (take count from) j n =
      each_prefix (length opens + each_size) each_size w.form w.pending.text_end w.state (take count from) j n as_joined.each (omega (arith, some_whole, length-take-le count from within_list))
      (whole_of opens batch first count n few some cut.less) in
      record {
        sent = record {
          count = count;
          few = within_list;
          less = omega (arith, some_whole, put.sent.1);
          far = n;
          cut = subst (λ (bs : List ℕ). CutAfter sends w.target bs n v.target) (sym as_joined.writes) cut;
          parted = subst (λ (k : ℕ). Parted w.form w.pending.text_end w.state (take count from) k n) (sym put.sent.1) parted;
        };
        form = put.kept.0;
        state = is ∙ ap (λ (s : State). walk s (take k from)) put.kept.1;
      }

line_ends : (s : State) (d : Drawing) (from : Coordinates) (ps : List Coordinates) (index : ℕ) → index < length ps →
    (walk s (take 1 (drop index (polyline_entries d from ps)))).drawing.pen ≡ At (last_point from (take (suc index) ps))
unfolding polyline_entries walk last_point
line_ends s d from [] index less = absurd (omega (arith, less))
line_ends s d from (p ∷ ps) zero less = refl
line_ends s d from (p ∷ ps) (suc n) less = line_ends s d p ps n (omega (arith, less))

-- a line leaves the pen at its end
pub line_left : (s : State) (d : Drawing) (from : Coordinates) (ps : List Coordinates) (index : ℕ) → index < length ps →
    (walk s (take 1 (drop index (polyline_entries d from ps)))).drawing.pen ≡ At (last_point from (take (index + 1) ps))
line_left s d from ps index less = grind (arith, line_ends)

-- some entries are appended as they join

pub rest_some : (text_end : TextEnd) (batch : Batch) (first count : ℕ) → 0 < count → bytes_of_rest text_end batch first count ≡ opening text_end batch count ++ joined_bytes batch first count
rest_some text_end batch first count h = grind arith

pub rest_ends : (text_end : TextEnd) (batch : Batch) (count : ℕ) → 0 < count → text_end_after_rest text_end batch count ≡ text_end_after_joined text_end batch count
rest_ends text_end batch count h = grind arith

-- the bytes of the entries appended are a part of the pending text
pub rest_size : (text_end : TextEnd) (batch : Batch) (first count : ℕ) → count + first ≤ length (batch_entries batch) → entry_size batch * count ≤ length (bytes_of_rest text_end batch first count)
rest_size text_end batch first count h = grind (arith, length-append, joined_bytes, joined_length)

-- a list that isn't empty begins with an entry
pub record Begins (list : List Entry) : Type 0 where
  pub first : Entry
  pub rest : List Entry
  pub is : list ≡ first ∷ rest

pub begins : (list : List Entry) → 0 < length list → Begins list
begins [] some = absurd (omega (arith, some))
begins (e ∷ es) some = record { first = e; rest = es; is = refl }

-- the attributes of the entries after one are current, if those of all are
pub then_current : (s : State) (list : List Entry) → EachIsCurrent s list → RestIsCurrent s list
unfolding EachIsCurrent
then_current s list all_current e es at = (subst (EachIsCurrent s) at all_current).1

-- what was sent of a batch from one entry on, which was appended with those that join after it

module _ (form : Form) (s : State) (batch : Batch) (index more : ℕ) (some : index < length (batch_entries batch)) (rest_current : RestIsCurrent s (drop index (batch_entries batch)))
    (few : more + (index + 1) ≤ length (batch_entries batch)) (before : Pending) (none : before.bytes ≡ []) (r : Pending) (appended : AppendsNext form s (drop index (batch_entries batch)) before r)
    (joins : 0 < more → JoinsAfter form r.text_end batch index more) (u : Pending) (bytes : u.bytes ≡ r.bytes ++ bytes_of_rest r.text_end batch (index + 1) more)
    (ends : u.text_end ≡ text_end_after_rest r.text_end batch more) where
  abbrev list : List Entry
  list = drop index (batch_entries batch)

  abbrev begins_with : Begins list
  begins_with = begins list (omega (arith, some, length-drop index (batch_entries batch)))

  abbrev e : Entry
  e = begins_with.first

  abbrev those : List Entry
  those = take (more + 1) list

  abbrev others : List Entry
  others = take more begins_with.rest

  abbrev own : List Piece
  own = entry_pieces form s e

  abbrev size : ℕ
  size = entry_size batch

  rest_is : drop (index + 1) (batch_entries batch) ≡ begins_with.rest
  rest_is = sym (drop-drop 1 index (batch_entries batch)) ∙ ap (drop 1) begins_with.is

  those_are : those ≡ e ∷ others
  those_are = grind arith

  own_appended : r.bytes ≡ pieces_bytes before.text_end own
  own_appended = (appended e begins_with.rest begins_with.is).appended ∙ ap (λ (bs : List ℕ). bs ++ pieces_bytes before.text_end own) none

  own_ends : r.text_end ≡ text_end_after before.text_end own
  own_ends = (appended e begins_with.rest begins_with.is).text_end

  left : walk s (take 1 list) ≡ after s e
  unfolding walk
  left = ap (λ (list : List Entry). walk s (take 1 list)) begins_with.is

  abbrev JoinsFirst : List Entry → Type 0
  JoinsFirst es = Joined (length (opening r.text_end batch more) + size) size form r.text_end (after s e) es (opening r.text_end batch more ++ joined_bytes batch (index + 1) more)
      (text_end_after_joined r.text_end batch more)

  joined : 0 < more → JoinsFirst others
  joined some =
      subst (λ (list : List Entry). JoinsFirst (take more list)) rest_is
      (batch_joins form r.text_end (after s e) batch (index + 1) more some few (subst (EachIsCurrent (after s e)) (sym rest_is) (rest_current e begins_with.rest begins_with.is))
      (subst (λ (u : State). Joins form r.text_end u batch (index + 1) more) left (joins some s)))

  rest_written : pieces_bytes r.text_end (pieces form (after s e) others) ≡ bytes_of_rest r.text_end batch (index + 1) more
  unfolding pieces pieces_bytes
  rest_written = grind (arith, joined_bytes, joined)

  rest_ended : text_end_after r.text_end (pieces form (after s e) others) ≡ text_end_after_rest r.text_end batch more
  unfolding pieces text_end_after
  rest_ended = grind (arith, joined)

  all_written : u.bytes ≡ pieces_bytes before.text_end (pieces form s those)
  unfolding pieces
  all_written = grind (arith, own_appended, rest_written, own_ends, pieces_bytes-append, those_are)

  all_ended : u.text_end ≡ text_end_after before.text_end (pieces form s those)
  unfolding pieces
  all_ended = grind (arith, rest_ended, own_ends, text_end_after-append, those_are)

  enough : more + 1 ≤ length list
  enough = omega (arith, few, length-drop index (batch_entries batch))

  module _ {T : Type 0} (sends : T → List ℕ → Bool → T → Type 0) (from to : T) where
    pub sends_whole : sends from u.bytes false to → SendsWholly sends form s list before.text_end from u.text_end to (more + 1)
    sends_whole sent = record { some = omega arith; few = enough; sent = subst (λ (bs : List ℕ). sends from bs false to) all_written sent; ends = all_ended }

    module _ (n : ℕ) (cut : CutAfter sends from u.bytes n to) where
      pub sends_none : n < length r.bytes → SendsPartly sends form s list before.text_end from to 0
      sends_none less = grind (arith, enough, all_written, those_are, parted_first, length, own_appended)

      module _ (k : ℕ) (low : length r.bytes ≤ n) (is : k ≡ (n - (length u.bytes - size * more)) / size) where
        -- how far the cut is after the first entry
        abbrev beyond : ℕ
        beyond = n - length r.bytes

        abbrev begin : List ℕ
        begin = opening r.text_end batch more

        lengths : length u.bytes ≡ length r.bytes + length (bytes_of_rest r.text_end batch (index + 1) more)
        lengths = ap length bytes ∙ length-append r.bytes (bytes_of_rest r.text_end batch (index + 1) more)

        more_than_none : 0 < more
        more_than_none = grind (arith, length, lengths)

        rest_length : length u.bytes ≡ length r.bytes + length (begin ++ joined_bytes batch (index + 1) more)
        rest_length = lengths ∙ ap (λ (bs : List ℕ). length r.bytes + length bs) (rest_some r.text_end batch (index + 1) more more_than_none)

        within : beyond < length (begin ++ joined_bytes batch (index + 1) more)
        within = omega (arith, low, cut.less, rest_length)

        same : k ≡ (beyond - length begin) / size
        same = grind (arith, length, rest_length, length-append, joined_bytes, joined_length)

        few_whole : (beyond - length begin) / size < more
        few_whole = whole_less begin batch (index + 1) more beyond few more_than_none within

        cut_parted : Parted form before.text_end s those (k + 1) n
        cut_parted =
            let many : length others ≡ more = length-take-le more begins_with.rest (omega (arith, few, ap length rest_is, length-drop (index + 1) (batch_entries batch))) in
            let j : ℕ = (beyond - length begin) / size in
            let part : Parted form r.text_end (after s e) others j beyond =
            each_prefix (length begin + size) size form r.text_end (after s e) others j beyond (joined more_than_none).each (omega (arith, many, few_whole))
            (whole_of begin batch (index + 1) more beyond few more_than_none within) in
            let count : suc j ≡ k + 1 = omega (arith, same) in
            subst (λ (list : List Entry). Parted form before.text_end s list (k + 1) n) (sym those_are)
            (subst (λ (m : ℕ). Parted form before.text_end s (e ∷ others) m n) count
            (parted_after form before.text_end s e others j n beyond (omega (arith, low, ap length own_appended)) (subst (λ (t : TextEnd). Parted form t (after s e) others j beyond) own_ends part)))

        pub sends_cut : SendsPartly sends form s list before.text_end from to (k + 1)
        sends_cut = grind (arith, enough, few_whole, same, all_written, cut_parted)
