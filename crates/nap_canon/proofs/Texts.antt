-- The bytes of a text, as a writer makes them.

use Rattle.nap_canon.proofs.{AllFit, AppendsCommands, AppendsPiece, AppendsPieces, Attributes, Bool, CanonFault, CharSet, CharSize, Colour, Command, Common.text, Components, Coordinates, Displacement, Drawing, Entry, Err, Fits, Form, Global, Hand, Illegal, InRun, Ink, IsErrOf, IsIllegalAt, List, Ok, OnOk, Origin, Pen, Pending, Piece, Puts, Result, Shape, ShapeKind, Size, State, TextEnd, TextOfPrefix, Vec, Writer, WritesPendingAnd, WritesPieces, [], addr_bytes, after, ap, append-nil, append_assoc, arith, attributes, circle_closed, colour_prelude, command_piece, digits_of, displacement_bytes, displacement_to, drop, drop-cons, drop-drop, drop_at, entry_of_shape, entry_pieces, false, fits_join, get_or, gl_of, grb_bytes, header, joins_open_run, last_point, length, length-append, length-take-le, map, map-append, move_bytes, opcode, outline, pel_prelude, pen_prelude, piece_bytes, pieces, pieces-append, pieces_bytes, pieces_bytes-append, point_bytes, points_bytes, pos, prelude, refl, shape, shape_bytes, shape_on, shift_to_opcodes, spelling_pieces, start, start_drawing, start_text, start_texture, subst, suc, sym, take, take-append-drop, take_all, take_at, take_more, text1, text_end_after, text_end_after-append, text_end_after_header, text_in, text_prelude, texture_prelude, true, walk, walks_join, with_attributes, with_bytes_at, words_of_pairs, words_of_triples, zero, ℕ, ◌*◌, ◌++◌, ◌+◌, ◌<◌, ◌↔◌, ◌∙◌, ◌∷◌, ◌≡◌, ◌≤◌}

-- The text of a list, split in two.

pub text_of_entries : (form : Form) (es fs : List Entry) → text_in form (es ++ fs) ≡ text_in form es ++ pieces_bytes (text_end_after text_end_after_header (pieces form start es)) (pieces form (walk start es) fs)
text_of_entries form es fs = grind (arith, pieces-append, pieces_bytes-append)

pub text_of_prefix : (form : Form) → TextOfPrefix form
text_of_prefix form es fs all = (((fits_join start es fs).0 all).0, text_of_entries form es fs)

-- The text of a list, after one more entry.

one_more : (es : List Entry) (i : ℕ) (e : Entry) → i < length es → e ≡ get_or es i e → take (i + 1) es ≡ take i es ++ e ∷ []
one_more es i e within is = take_more es i e within ∙ ap (λ (x : Entry). take i es ++ x ∷ []) (sym is)

one_entry : (form : Form) (es : List Entry) (e : Entry) → pieces form (walk start es) (e ∷ []) ≡ entry_pieces form (walk start es) e
unfolding pieces
one_entry form es e = append-nil (entry_pieces form (walk start es) e)

pub text_more : (form : Form) (es : List Entry) (i : ℕ) (e : Entry) → i < length es → e ≡ get_or es i e →
    text_in form (take i es) ++ pieces_bytes (text_end_after text_end_after_header (pieces form start (take i es))) (entry_pieces form (walk start (take i es)) e) ≡ text_in form (take (i + 1) es)
text_more form es i e within is =
    let so_far : List Entry = take i es in
    ap (λ (ps : List Piece). text_in form so_far ++ pieces_bytes (text_end_after text_end_after_header (pieces form start so_far)) ps) (sym (one_entry form so_far e))
    ∙ sym (text_of_entries form so_far (e ∷ []))
    ∙ ap (text_in form) (sym (one_more es i e within is))

pub text_end_more : (form : Form) (es : List Entry) (i : ℕ) (e : Entry) → i < length es → e ≡ get_or es i e →
    text_end_after (text_end_after text_end_after_header (pieces form start (take i es))) (entry_pieces form (walk start (take i es)) e) ≡ text_end_after text_end_after_header (pieces form start (take (i + 1) es))
text_end_more form es i e within is =
    let so_far : List Entry = take i es in
    sym (text_end_after-append text_end_after_header (pieces form start so_far) (entry_pieces form (walk start so_far) e))
    ∙ ap (λ (ps : List Piece). text_end_after text_end_after_header (pieces form start so_far ++ ps)) (sym (one_entry form so_far e))
    ∙ ap (text_end_after text_end_after_header) (sym (pieces-append form start so_far (e ∷ [])))
    ∙ ap (λ (xs : List Entry). text_end_after text_end_after_header (pieces form start xs)) (sym (one_more es i e within is))

pub walk_more : (es : List Entry) (i : ℕ) (e : Entry) → i < length es → e ≡ get_or es i e →
    after (walk start (take i es)) e ≡ walk start (take (i + 1) es)
unfolding walk
walk_more es i e within is =
    sym (walks_join start (take i es) (e ∷ [])) ∙ ap (walk start) (sym (one_more es i e within is))

-- each entry fits the state that those before it leave
pub fits_at : (es : List Entry) (i : ℕ) (e : Entry) → i < length es → e ≡ get_or es i e → AllFit start es → Fits (walk start (take i es)) e
unfolding AllFit
fits_at es i e within is all =
    let rest : List Entry = drop (suc i) es in
    let next : drop i es ≡ e ∷ rest = drop-cons es i e within ∙ ap (λ (x : Entry). x ∷ rest) (sym is) in
    let parts : es ≡ take i es ++ e ∷ rest = sym (take-append-drop i es) ∙ ap (λ (xs : List Entry). take i es ++ xs) next in
    ((fits_join start (take i es) (e ∷ rest)).0 (subst (AllFit start) parts all)).1.0

-- Operands of points, one after another.

pub point_size : (p : Coordinates) → length (point_bytes p) ≡ 8
unfolding point_bytes words_of_pairs digits_of
point_size p = refl

pub addr_size : (a : ℕ) → length (addr_bytes a) ≡ 4
unfolding addr_bytes digits_of
addr_size a = refl

pub grb_size : (c : Components) → length (grb_bytes c) ≡ 8
unfolding grb_bytes words_of_triples digits_of
grb_size c = refl

pub points_size : (ps : List Coordinates) → length (points_bytes ps) ≡ 8 * length ps
unfolding points_bytes
points_size [] = refl
points_size (p ∷ ps) = omega (arith, length-append (point_bytes p) (points_bytes ps), point_size p, points_size ps)

-- spelling of points in turn

points_both : (ps qs : List Coordinates) → points_bytes (ps ++ qs) ≡ points_bytes ps ++ points_bytes qs
unfolding points_bytes
points_both [] qs = refl
points_both (p ∷ ps) qs = ap (λ (bs : List ℕ). point_bytes p ++ bs) (points_both ps qs) ∙ sym (append_assoc (point_bytes p) (points_bytes ps) (points_bytes qs))

points_one : (p : Coordinates) → points_bytes (p ∷ []) ≡ point_bytes p
unfolding points_bytes
points_one p = append-nil (point_bytes p)

pub points_more : (ps : List Coordinates) (i : ℕ) (p : Coordinates) → i < length ps → p ≡ get_or ps i p → points_bytes (take (i + 1) ps) ≡ points_bytes (take i ps) ++ point_bytes p
points_more ps i p less is =
    ap points_bytes (take_more ps i p less)
    ∙ points_both (take i ps) (get_or ps i p ∷ [])
    ∙ ap (λ (q : Coordinates). points_bytes (take i ps) ++ points_bytes (q ∷ [])) (sym is)
    ∙ ap (λ (bs : List ℕ). points_bytes (take i ps) ++ bs) (points_one p)

pub points_all : (ps : List Coordinates) (i : ℕ) → length ps ≤ i → points_bytes (take i ps) ≡ points_bytes ps
points_all ps i most = ap points_bytes (take_all i ps most)

-- The bytes that a writer sends, part by part.

-- one displacement more of a shape
pub displacements_more : (now next piece whole : List ℕ) (from to : Coordinates) (others : List Coordinates) (i : ℕ) → i < length others → to ≡ get_or others i to →
    next ≡ now ++ piece → piece ≡ move_bytes (displacement_to from to) → now ++ displacement_bytes from (drop i others) ≡ whole →
    next ++ displacement_bytes to (drop (i + 1) others) ≡ whole
unfolding displacement_bytes
displacements_more now next piece whole from to others i within is step spelled so_far = grind (arith, drop-cons, append_assoc)

pub move_size : (m : Displacement) → length (move_bytes m) ≡ 8
unfolding move_bytes words_of_pairs digits_of
move_size m = refl

pub displacements_size : (from : Coordinates) (ps : List Coordinates) → length (displacement_bytes from ps) ≡ 8 * length ps
unfolding displacement_bytes
displacements_size from [] = refl
displacements_size from (p ∷ ps) =
    let step : List ℕ = move_bytes (displacement_to from p) in
    omega (arith, length-append step (displacement_bytes p ps), move_size (displacement_to from p), displacements_size p ps)

-- displacements in two parts
displacements_parts : (from : Coordinates) (ps qs : List Coordinates) → displacement_bytes from (ps ++ qs) ≡ displacement_bytes from ps ++ displacement_bytes (last_point from ps) qs
unfolding displacement_bytes last_point
displacements_parts from [] qs = refl
displacements_parts from (p ∷ ps) qs = grind (arith, append_assoc, (displacements_parts p ps qs))

-- one part more of them
pub displacements_part : (now piece whole : List ℕ) (from to : Coordinates) (left part rest : List Coordinates) → left ≡ part ++ rest → piece ≡ displacement_bytes from part → to ≡ last_point from part →
    now ++ displacement_bytes from left ≡ whole → (now ++ piece) ++ displacement_bytes to rest ≡ whole
displacements_part now piece whole from to left part rest parts spelled last so_far = grind (arith, append_assoc, displacements_parts)

-- the pending text, then a shape: its opcode with the first point and some displacements, and those to the other points
pub shape_joined : (prefix : List ℕ) (text_end : TextEnd) (code : ℕ) (first last : Coordinates) (near far others : List Coordinates) (bytes : List ℕ) →
    bytes ≡ prefix ++ piece_bytes text_end (opcode code (shape_bytes (first ∷ near))) → others ≡ near ++ far → last ≡ last_point first near →
    bytes ++ displacement_bytes last far ≡ prefix ++ piece_bytes text_end (opcode code (shape_bytes (first ∷ others)))
shape_joined prefix text_end code first last near far others bytes begun parts ends =
    ap (λ (bs : List ℕ). bs ++ displacement_bytes last far) (begun ∙ sym (whole near))
    ∙ displacements_part (prefix ++ head) (displacement_bytes first near) (prefix ++ piece_bytes text_end (opcode code (shape_bytes (first ∷ others)))) first last others near far parts refl ends (whole others)
  where
    head : List ℕ
    head = shift_to_opcodes (gl_of text_end) ++ code ∷ point_bytes first

    whole : (ps : List Coordinates) → (prefix ++ head) ++ displacement_bytes first ps ≡ prefix ++ piece_bytes text_end (opcode code (shape_bytes (first ∷ ps)))
    whole ps = grind (arith, append_assoc, head)

-- what holds for any answer
pub on_ok_from : {T E P : Type 0} (r : Result T E) → P → OnOk r P
on_ok_from r h = grind arith

-- what a writer sends, in parts

module _ {T : Type 0} (sent : T → List ℕ → Bool → T → Type 0)
    (more : (s t u : T) (a b : List ℕ) (broke : Bool) → sent s a false t → sent t b broke u → sent s (a ++ b) broke u)
    (cut : (s t : T) (a b : List ℕ) → sent s a true t → sent s (a ++ b) true t) where
  -- one part after another
  pub sent_both : {s t u : T} {a b whole : List ℕ} {broke : Bool} → a ++ b ≡ whole → sent s a false t → sent t b broke u → sent s whole broke u
  sent_both {s} {t} {u} {a} {b} {broke = broke} is first second = subst (λ (bytes : List ℕ). sent s bytes broke u) is (more s t u a b broke first second)

  -- a failure in the first part
  pub sent_first : {s t : T} {a whole : List ℕ} (b : List ℕ) → a ++ b ≡ whole → sent s a true t → sent s whole true t
  sent_first {s} {t} {a} b is first = subst (λ (bytes : List ℕ). sent s bytes true t) is (cut s t a b first)

  -- a failure in the second part, where there is a third
  pub sent_second : {s t u : T} {a b whole : List ℕ} (c : List ℕ) → (a ++ b) ++ c ≡ whole → sent s a false t → sent t b true u → sent s whole true u
  sent_second {s} {t} {u} {a} {b} c is first second = sent_first c is (more s t u a b true first second)

-- Bytes that are written into a buffer.

-- nothing was written
pub appended_none : (buffer : List ℕ) (at : ℕ) → buffer ≡ with_bytes_at buffer at []
appended_none buffer at = grind (arith, take-append-drop)

-- more bytes, right after
pub appended_after : (buffer xs ys : List ℕ) (at end : ℕ) → at + length xs ≡ end → end ≤ length buffer → with_bytes_at (with_bytes_at buffer at xs) end ys ≡ with_bytes_at buffer at (xs ++ ys)
appended_after buffer xs ys at end size within =
    let prefix : List ℕ = take at buffer in
    let rest : List ℕ = drop (at + length xs) buffer in
    let n : ℕ = length ys in
    let whole : length (prefix ++ xs) ≡ end = omega (arith, length-append prefix xs, length-take-le at buffer (omega (arith, size, within)), size) in
    let parts : with_bytes_at buffer at xs ≡ (prefix ++ xs) ++ rest = sym (append_assoc prefix xs rest) in
    let until : at + length xs + n ≡ at + length (xs ++ ys) = omega (arith, length-append xs ys) in
    let kept : take end (with_bytes_at buffer at xs) ≡ prefix ++ xs = ap (take end) parts ∙ take_at (prefix ++ xs) rest end whole in
    let left : drop (end + n) (with_bytes_at buffer at xs) ≡ drop (at + length (xs ++ ys)) buffer =
    sym (drop-drop n end (with_bytes_at buffer at xs))
    ∙ ap (λ (bs : List ℕ). drop n (drop end bs)) parts
    ∙ ap (drop n) (drop_at (prefix ++ xs) rest end whole)
    ∙ drop-drop n (at + length xs) buffer
    ∙ ap (λ (k : ℕ). drop k buffer) until in
    ap (λ (bs : List ℕ). bs ++ (ys ++ drop (end + n) (with_bytes_at buffer at xs))) kept
    ∙ ap (λ (bs : List ℕ). (prefix ++ xs) ++ (ys ++ bs)) left
    ∙ append_assoc prefix xs (ys ++ drop (at + length (xs ++ ys)) buffer)
    ∙ ap (λ (bs : List ℕ). prefix ++ bs) (sym (append_assoc xs ys (drop (at + length (xs ++ ys)) buffer)))

-- bytes written at the end of those so far come after them
pub appended_ends : (buffer made xs : List ℕ) (at n : ℕ) → at ≤ length buffer → made ≡ with_bytes_at buffer at xs → n ≡ at + length xs → take n made ≡ take at buffer ++ xs
appended_ends buffer made xs at n within is size = grind (arith, length, append_assoc, take_at, length-append, length-take-le)

-- The appended text, and the bytes that a writer sends.

-- a piece alone
pub one_piece : (p : Piece) {w t : Pending} → AppendsPiece p w t → AppendsPieces (p ∷ []) w t
unfolding pieces_bytes text_end_after
one_piece p {w} piece = record { appended = piece.appended ∙ ap (λ (bs : List ℕ). w.bytes ++ bs) (sym (append-nil (piece_bytes w.text_end p))); text_end = piece.text_end }

-- pieces after others
pub both_appended : (prefix back : List Piece) {whole : List Piece} {w m t : Pending} → prefix ++ back ≡ whole → AppendsPieces prefix w m → AppendsPieces back m t → AppendsPieces whole w t
both_appended prefix back is first second = grind (arith, append_assoc, pieces_bytes-append, text_end_after-append)

-- commands after others
pub both_commands : (prefix back : List Command) {whole : List Command} {w m t : Pending} → prefix ++ back ≡ whole → AppendsCommands prefix w m → AppendsCommands back m t → AppendsCommands whole w t
both_commands prefix back is =
    both_appended (map command_piece prefix) (map command_piece back) (sym (map-append command_piece prefix back) ∙ ap (map command_piece) is)

-- commands by other words
pub commands_as : {commands whole : List Command} {w t : Pending} → commands ≡ whole → AppendsCommands commands w t → AppendsCommands whole w t
commands_as {w = w} {t} is = subst (λ (cs : List Command). AppendsCommands cs w t) is

-- pieces that are one
pub one_appended : {ps : List Piece} {piece : Piece} {w t : Pending} → ps ≡ piece ∷ [] → AppendsPiece piece w t → AppendsPieces ps w t
one_appended {piece = piece} {w} {t} is put = subst (λ (ps : List Piece). AppendsPieces ps w t) (sym is) (one_piece piece put)

-- an entry, of which the prelude was appended, and then the spelling
module _ {T F : Type 0} (sent : T → List ℕ → Bool → T → Type 0) (w : Writer T F) (e : Entry) {clear : List ℕ} (none : clear ≡ []) {d : Drawing} (same : d ≡ w.state.drawing) {m t : Pending}
    (first : AppendsCommands (prelude d (attributes e)) (record { text_end = w.pending.text_end; bytes = clear }) m)
    (own : AppendsPieces (spelling_pieces w.form (with_attributes d (attributes e)) e) m t) {bytes : List ℕ} (are : bytes ≡ t.bytes) where
  entry_appended : AppendsPieces (entry_pieces w.form w.state e) (record { text_end = w.pending.text_end; bytes = clear }) t
  entry_appended =
      both_appended _ _ (ap (λ (d : Drawing). map command_piece (prelude d (attributes e)) ++ spelling_pieces w.form (with_attributes d (attributes e)) e) same) first own

  entry_bytes : bytes ≡ pieces_bytes w.pending.text_end (entry_pieces w.form w.state e)
  entry_bytes = are ∙ entry_appended.appended ∙ ap (λ (bs : List ℕ). bs ++ pieces_bytes w.pending.text_end (entry_pieces w.form w.state e)) none

  -- the write failed
  pub entry_fails : {E : Type 0} {to : T} → sent w.target bytes true to → (x : E) → Puts sent e w (record w { target = to; pending = t }) (Err x)
  entry_fails {to = to} put x = record { sent = subst (λ (bs : List ℕ). sent w.target bs true to) entry_bytes put; text_end = tt; form = refl; state = tt; still = refl }

  -- the write didn't fail
  pub entry_written : {E : Type 0} {to : T} → sent w.target bytes false to → (next : State) → next ≡ after w.state e → Puts {E = E} sent e w (record w { target = to; pending = t; state = next }) (Ok tt)
  entry_written {to = to} put next is = record { sent = subst (λ (bs : List ℕ). sent w.target bs false to) entry_bytes put; text_end = entry_appended.text_end; form = refl; state = is; still = tt }

-- a piece that is written alone
pub one_written : {T F E : Type 0} {sent : T → List ℕ → Bool → T → Type 0} (p : Piece) {w t : Writer T F} {r : Result (Unit {0}) E} → WritesPendingAnd sent p w t r → WritesPieces sent (p ∷ []) w t r
unfolding pieces_bytes text_end_after
one_written p piece = grind (arith, append-nil)

-- the spelling of a shape with borrowed points

pub arc_spelled : (form : Form) (d : Drawing) (s : Shape) → s.kind ≡ ShapeKind.Arc → spelling_pieces form d (entry_of_shape s) ≡ shape 0x2E s.filled (circle_closed (s.from ∷ s.others.now)) ∷ []
arc_spelled form d s = ap (λ (kind : ShapeKind). spelling_pieces form d (shape_on kind s.filled s.drawing.now (outline kind (s.from ∷ s.others.now))))

pub poly_spelled : (form : Form) (d : Drawing) (s : Shape) → s.kind ≡ ShapeKind.Poly → spelling_pieces form d (entry_of_shape s) ≡ shape 0x36 s.filled (s.from ∷ s.others.now) ∷ []
poly_spelled form d s = ap (λ (kind : ShapeKind). spelling_pieces form d (shape_on kind s.filled s.drawing.now (outline kind (s.from ∷ s.others.now))))

-- an entry after its prelude

module _ {T F : Type 0} (sent : T → List ℕ → Bool → T → Type 0) (w : Writer T F) (e : Entry) (h : Attributes) (holds : h ≡ attributes e) {clear : List ℕ} (none : clear ≡ []) {d : Drawing}
    (same : d ≡ w.state.drawing) {r : Pending} (appended : AppendsCommands (prelude d h) (record { text_end = w.pending.text_end; bytes = clear }) r) where
  abbrev before : List Piece
  before = map command_piece (prelude w.state.drawing h)

  abbrev own_pieces : List Piece
  own_pieces = spelling_pieces w.form (with_attributes w.state.drawing (attributes e)) e

  parts : before ++ own_pieces ≡ entry_pieces w.form w.state e
  parts = ap (λ (h : Attributes). map command_piece (prelude w.state.drawing h) ++ own_pieces) holds

  all : r.bytes ++ pieces_bytes r.text_end own_pieces ≡ pieces_bytes w.pending.text_end (entry_pieces w.form w.state e)
  all = grind (arith, pieces_bytes-append, parts)

  -- the write failed
  pub prelude_fails : {D E : Type 0} {y : D} {u : Writer T F} (x : E) → WritesPieces sent own_pieces (record w { pending = r }) u (Err y) → Puts sent e w u (Err x)
  prelude_fails {u = u} x put = record { sent = subst (λ (bs : List ℕ). sent w.target bs true u.target) all put.sent; text_end = tt; form = put.kept.0; state = tt; still = put.kept.1 }

  -- the write didn't fail
  pub prelude_written : {D E : Type 0} {u : Writer T F} → WritesPieces {E = D} sent own_pieces (record w { pending = r }) u (Ok tt) → (next : State) → next ≡ after u.state e → Puts {E = E} sent e w (record u { state = next }) (Ok tt)
  prelude_written put next is = grind (arith, all, text_end_after-append, parts)

-- The places where `canon` finds that a list isn't legal.

abbrev Answer : Type 0
Answer = Result (Vec ℕ Global) CanonFault

-- the list isn't legal at the place found

pub illegal_there : (es : List Entry) (i : ℕ) → ((j : ℕ) → IsErrOf {T = Unit {0}} {E = ℕ} (Err i) j ↔ IsIllegalAt j es) →
    (j : ℕ) → IsErrOf {T = Vec ℕ Global} {E = CanonFault} (Err (Illegal i)) (Illegal j) ↔ IsIllegalAt j es
illegal_there es i breaks j = (
  λ is. let same : i ≡ j = cc in (breaks j).0 (ap Err same),
  λ other. let same : ◌≡◌ {A = Result (Unit {0}) ℕ} (Err i) (Err j) = (breaks j).1 other in cc,
)

-- any other answer
pub illegal_nowhere : (es : List Entry) (r : Answer) → ((j : ℕ) → r ≡ Err (Illegal j) → ⊥) → ((j : ℕ) → IsIllegalAt j es → ⊥) →
    (j : ℕ) → IsErrOf r (Illegal j) ↔ IsIllegalAt j es
illegal_nowhere es r other never j = (λ is. absurd (other j is), λ breaks. absurd (never j breaks))

-- the list is legal
pub never_breaks : (es : List Entry) → ((j : ℕ) → IsErrOf {T = Unit {0}} {E = ℕ} (Ok tt) j ↔ IsIllegalAt j es) → (j : ℕ) → IsIllegalAt j es → ⊥
never_breaks es breaks j there = let is : ◌≡◌ {A = Result (Unit {0}) ℕ} (Ok tt) (Err j) = (breaks j).1 there in cc

-- Texts of a few entries, computed.

-- n words of zero
unfoldable zeros : ℕ → List ℕ
zeros zero = []
zeros (suc n) = 0x40 ∷ zeros n

half : Coordinates
half = record { x = 4194304; y = 4194304 }

own : Colour
own = Colour.Own Origin.AtStart

dot : Coordinates → Entry
dot p = Entry.Point p start_drawing.pel own

ink : Ink
ink = record { pel = start_drawing.pel; colour = own; texture = start_texture }

hand : Pen → Hand
hand pen = record { pen = pen; colour = own; text = start_text }

a_point : text (dot half ∷ []) ≡ header ++ 0x26 ∷ 0x52 ∷ zeros 7
unfolding pieces pieces_bytes prelude pen_prelude pel_prelude colour_prelude texture_prelude text_prelude digits_of words_of_pairs point_bytes zeros half dot own
a_point = refl

a_line : text (Entry.Line (record { x = 0; y = 0 }) half ink ∷ []) ≡ header ++ 0x2A ∷ zeros 8 ++ 0x52 ∷ zeros 7
unfolding pieces pieces_bytes prelude pen_prelude pel_prelude colour_prelude texture_prelude text_prelude digits_of words_of_pairs point_bytes zeros half ink own
a_line = refl

quarter : Coordinates
quarter = record { x = 2097152; y = 2097152 }

origin : Coordinates
origin = record { x = 0; y = 0 }

a_circle : text (Entry.Arc false (origin ∷ quarter ∷ origin ∷ []) ink ∷ []) ≡ header ++ 0x2E ∷ zeros 8 ++ (0x49 ∷ zeros 7) ++ 0x7F ∷ zeros 7
unfolding pieces pieces_bytes prelude pen_prelude pel_prelude colour_prelude texture_prelude text_prelude digits_of words_of_pairs point_bytes move_bytes displacement_to displacement_bytes zeros origin quarter ink own
a_circle = refl

a_new_colour : text (Entry.Map 1048576 (record { g = 0; r = 49152; b = 0 }) ∷ Entry.Point half start_drawing.pel (Colour.Front 1048576) ∷ [])
    ≡ header ++ 0x3E ∷ 0x44 ∷ zeros 3 ++ (0x3C ∷ 0x52 ∷ zeros 7) ++ 0x26 ∷ 0x52 ∷ zeros 7
unfolding pieces pieces_bytes prelude pen_prelude pel_prelude colour_prelude texture_prelude text_prelude digits_of words_of_pairs words_of_triples grb_bytes addr_bytes point_bytes zeros half
a_new_colour = refl

a_new_colour_and_back : text (Entry.Map 1048576 (record { g = 0; r = 49152; b = 0 }) ∷ dot half ∷ [])
    ≡ header ++ 0x3E ∷ 0x44 ∷ zeros 3 ++ (0x3C ∷ 0x52 ∷ zeros 7) ++ 0x3E ∷ 0x26 ∷ 0x52 ∷ zeros 7
unfolding pieces pieces_bytes prelude pen_prelude pel_prelude colour_prelude texture_prelude text_prelude digits_of words_of_pairs words_of_triples grb_bytes addr_bytes point_bytes zeros half dot own
a_new_colour_and_back = refl

a_glyph : text (Entry.GlyphStart 0x41 ∷ dot quarter ∷ Entry.DefEnd ∷ Entry.Line (record { x = 4194304; y = 0 }) half ink ∷ [])
    ≡ header ++ 0x1B ∷ 0x43 ∷ 0x41 ∷ 0x26 ∷ 0x49 ∷ zeros 7 ++ 0x1B ∷ 0x45 ∷ 0x2A ∷ 0x50 ∷ zeros 7 ++ 0x52 ∷ zeros 7
unfolding pieces pieces_bytes prelude pen_prelude pel_prelude colour_prelude texture_prelude text_prelude digits_of words_of_pairs point_bytes zeros half quarter ink dot own
a_glyph = refl

small : Pen → Entry
small pen = Entry.Char CharSet.Primary 0x41 (record { pen = pen; colour = own; text = record start_text { size = CharSize.Named Size.Small } })

small_letters : text (small Pen.Start ∷ small Pen.After ∷ small Pen.After ∷ []) ≡ header ++ 0x1B ∷ 0x4A ∷ 0x0F ∷ 0x41 ∷ 0x41 ∷ 0x41 ∷ []
unfolding pieces pieces_bytes prelude pen_prelude pel_prelude colour_prelude texture_prelude text_prelude small own
small_letters = refl

letters_of_each_set : text (Entry.Char CharSet.Supplementary 0x41 (hand Pen.Start) ∷ Entry.Char CharSet.Mosaic 0x42 (hand Pen.After) ∷ Entry.Char CharSet.Drcs 0x43 (hand Pen.After) ∷ [])
    ≡ header ++ 0x19 ∷ 0x41 ∷ 0x1D ∷ 0x42 ∷ 0x1B ∷ 0x2B ∷ 0x7B ∷ 0x1D ∷ 0x43 ∷ 0x1B ∷ 0x2B ∷ 0x7D ∷ []
unfolding pieces pieces_bytes prelude pen_prelude pel_prelude colour_prelude texture_prelude text_prelude hand own
letters_of_each_set = refl

a_letter_of_a_size : text (Entry.Char CharSet.Primary 0x41 (record { pen = Pen.Start; colour = own; text = record start_text { first = 1; second = 2; size = CharSize.Given (record { x = pos 4194304; y = pos 4194304 }) } }) ∷ [])
    ≡ header ++ 0x22 ∷ 0x41 ∷ 0x42 ∷ 0x52 ∷ zeros 7 ++ 0x0F ∷ 0x41 ∷ []
unfolding pieces pieces_bytes prelude pen_prelude pel_prelude colour_prelude texture_prelude text_prelude digits_of words_of_pairs move_bytes zeros own
a_letter_of_a_size = refl

a_reset_of_lengths : text (Entry.Reset 1 0 Pen.Start ∷ dot half ∷ []) ≡ header ++ 0x20 ∷ 0x41 ∷ 0x40 ∷ 0x21 ∷ 0x5F ∷ 0x26 ∷ 0x52 ∷ zeros 7
unfolding pieces pieces_bytes prelude pen_prelude pel_prelude colour_prelude texture_prelude text_prelude digits_of words_of_pairs point_bytes zeros half dot own
a_reset_of_lengths = refl

text_and_pen : text (Entry.Char CharSet.Primary 0x41 (hand Pen.Start) ∷ Entry.Reset 0 0 (Pen.At (record { x = 4194304; y = 0 })) ∷ Entry.Char CharSet.Primary 0x42 (hand Pen.After) ∷ [])
    ≡ header ++ 0x0F ∷ 0x41 ∷ 0x0E ∷ 0x24 ∷ 0x50 ∷ zeros 7 ++ 0x20 ∷ 0x40 ∷ 0x40 ∷ 0x0F ∷ 0x42 ∷ []
unfolding pieces pieces_bytes prelude pen_prelude pel_prelude colour_prelude texture_prelude text_prelude digits_of words_of_pairs point_bytes zeros hand own
text_and_pen = refl

a_pel : text (Entry.Point half (record { x = pos 2097152; y = pos 2097152 }) own ∷ []) ≡ header ++ 0x21 ∷ 0x5F ∷ 0x49 ∷ zeros 7 ++ 0x26 ∷ 0x52 ∷ zeros 7
unfolding pieces pieces_bytes prelude pen_prelude pel_prelude colour_prelude texture_prelude text_prelude digits_of words_of_pairs point_bytes move_bytes zeros half own
a_pel = refl

a_blink : text (Entry.Blink 1048576 1 2 3 own ∷ []) ≡ header ++ 0x3F ∷ 0x44 ∷ zeros 3 ++ 0x41 ∷ 0x42 ∷ 0x43 ∷ []
unfolding pieces pieces_bytes prelude pen_prelude pel_prelude colour_prelude texture_prelude text_prelude digits_of addr_bytes zeros own
a_blink = refl

a_pair_of_colours : text (Entry.Map 1048576 (record { g = 0; r = 49152; b = 0 }) ∷ Entry.Point half start_drawing.pel (Colour.Pair 1048576 2097152) ∷ [])
    ≡ header ++ 0x3E ∷ 0x44 ∷ zeros 3 ++ (0x3C ∷ 0x52 ∷ zeros 7) ++ 0x3E ∷ 0x44 ∷ zeros 3 ++ 0x48 ∷ zeros 3 ++ 0x26 ∷ 0x52 ∷ zeros 7
unfolding pieces pieces_bytes prelude pen_prelude pel_prelude colour_prelude texture_prelude text_prelude digits_of words_of_pairs words_of_triples grb_bytes addr_bytes point_bytes zeros half
a_pair_of_colours = refl

-- each line continues from the pen, and the third joins the run of the second
three_lines : List Entry
three_lines = Entry.Line origin half ink ∷ Entry.Line half quarter ink ∷ Entry.Line quarter origin ink ∷ []

lines_from_the_pen : text three_lines ≡ header ++ 0x2A ∷ zeros 8 ++ (0x52 ∷ zeros 7) ++ 0x28 ∷ (0x49 ∷ zeros 7) ++ zeros 8
unfolding pieces pieces_bytes prelude pen_prelude pel_prelude colour_prelude texture_prelude text_prelude digits_of words_of_pairs point_bytes zeros three_lines origin half quarter ink own
lines_from_the_pen = refl

lines_alone : text1 three_lines ≡ header ++ 0x2A ∷ zeros 8 ++ (0x52 ∷ zeros 7) ++ 0x2A ∷ (0x52 ∷ zeros 7) ++ (0x49 ∷ zeros 7) ++ 0x2A ∷ (0x49 ∷ zeros 7) ++ zeros 8
unfolding pieces pieces_bytes prelude pen_prelude pel_prelude colour_prelude texture_prelude text_prelude digits_of words_of_pairs point_bytes zeros three_lines origin half quarter ink own
lines_alone = refl

points_of_a_run : text (dot half ∷ dot quarter ∷ []) ≡ header ++ 0x26 ∷ (0x52 ∷ zeros 7) ++ 0x49 ∷ zeros 7
unfolding pieces pieces_bytes prelude pen_prelude pel_prelude colour_prelude texture_prelude text_prelude digits_of words_of_pairs point_bytes zeros half quarter dot own
points_of_a_run = refl

a_bell_between : text (dot half ∷ Entry.Bell ∷ dot half ∷ []) ≡ header ++ 0x26 ∷ (0x52 ∷ zeros 7) ++ 0x07 ∷ 0x26 ∷ 0x52 ∷ zeros 7
unfolding pieces pieces_bytes prelude pen_prelude pel_prelude colour_prelude texture_prelude text_prelude digits_of words_of_pairs point_bytes zeros half dot own
a_bell_between = refl

-- a group may fill a run to the last byte, and none goes beyond it
a_full_run : joins_open_run (InRun (record { opcode = 0x26; length = 16376 })) 0x26 8 ≡ true
a_full_run = refl

past_a_run : joins_open_run (InRun (record { opcode = 0x26; length = 16384 })) 0x26 8 ≡ false
past_a_run = refl
