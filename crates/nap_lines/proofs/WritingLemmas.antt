use Rattle.nap_lines.proofs.Common.{All, All-head, All-tail, AppendsText, Batch, Bool, CharSet, Coordinates, Drawing, Entry, Err, Hand, Ink, IsAscii-append, IsAscii-cons, IsAscii-decimal, IsAscii-nil, IsErr, IsUtf8, IsUtf8-from_ascii, List, NeedsLines, Ok, Option, Pen, Result, Shape, ShapeKind, TextStep, Vec, WellMade, [], add-one, ap, append-nil, append_assoc, arith, batch_entries, char_front, closing_points, code_text, codes, decimal, drop, drop-append-add, drop-append-le, drop-append_seam, drop-cons, drop-drop, drop-take, entry_of_shape, fill_text, filled, flat_map, flat_map-append, format_effector, format_effector_front, get_or, hand_of, hand_text, hand_text_without_pen, ink_of, ink_text, last_point, length, length-append, length-decimal-le, length-drop, length-take-le, line, line_front, line_limit, lines, lines_join, lines_prefix, lines_rest, map, mul-le-mul_left, outline, patched, pen_at, pen_text, point_end, point_entry, point_front, point_text, points_prefix, points_rest, points_text, polyline_entries, recoded, refl, set_text, shape_entry, shape_name, suc, suc-mul, sym, take, take-add, take-append-drop, take-append_seam, take-suc, take-take, take_more, text_byte_front, text_byte_front_as, text_entries_in, text_entry, text_entry_as, text_prefix, zero, ℕ, ◌*◌, ◌++◌, ◌+◌, ◌-◌, ◌<◌, ◌^◌, ◌∙◌, ◌∷◌, ◌≡◌, ◌≤◌}
use Rattle.nap_list.specs.declared.attribute.Pen.TheVariants.{After}
use borrow.Rule.Slice.PartMut.{put_mid}

-- Lines as they are written: of a batch, in blocks, and of a shape.

-- dropping the beginning of a line leaves its end
pub kept : {buffer end : List ℕ} {n : ℕ} (front : List ℕ) → buffer ≡ front ++ end → n ≡ length end → drop (length buffer - n) buffer ≡ end
kept {buffer} {end} {n} front is size =
    let at : length buffer - n ≡ length front = omega (arith, ap length is, length-append front end) in
    rw (at, is) (drop-append_seam front end)

-- the line of a character as far as its set
abbrev pub char_start : CharSet → List ℕ
char_start set = codes "CHAR " ++ set_text set ++ codes " "

-- what was written of a part of a batch is written of its entries from an index on
pub part_written : {A Z : Type 0} {few : List A} {part : List Entry} (all : List A) (whole : List Entry) (first most n : ℕ) (old new : Vec ℕ Z) → few ≡ take most (drop first all) → length whole ≡ length all →
    first + most ≤ length whole → part ≡ take most (drop first whole) → n ≤ length few → new.items ≡ old.items ++ lines (take n part) → NeedsLines (length few) old new n →
    record { count : n ≤ most; text : new.items ≡ old.items ++ lines (take n (drop first whole)); memory : NeedsLines most old new n }
part_written all whole first most n old new slice size within is less text needs =
    let many = ap length slice ∙ length-take-le most (drop first all) (omega (arith, length-drop first all)) in
    record {
      count = omega arith;
      text = text ∙ ap (λ list. old.items ++ lines list) (ap (take n) is ∙ take-take n most (drop first whole) (omega arith));
      memory = rw many at needs;
    }

-- so many lines of this size
pub block_few : (count size n : ℕ) → n ≤ count * size → size ≤ line_limit → n ≤ line_limit * count
block_few count size n is few = omega (arith, mul-le-mul_left count few)

pub one_more : {A : Type 0} (f : A → List ℕ) (xs : List A) (i : ℕ) (x d : A) → i < length xs → x ≡ get_or xs i d → flat_map f (take (i + 1) xs) ≡ flat_map f (take i xs) ++ f x
one_more {A} f xs i x d less is =
    ap (flat_map f) (take_more xs i d less)
    ∙ flat_map-append f (take i xs) (get_or xs i d ∷ [])
    ∙ ap (flat_map f (take i xs) ++◌) (append-nil (f (get_or xs i d)) ∙ ap f (sym is))

pub text_goes : {now next after : List ℕ} (first before bytes : List ℕ) → now ≡ first ++ before → next ≡ now ++ bytes → after ≡ before ++ bytes → next ≡ first ++ after
text_goes first before bytes is more goes = grind (arith, append_assoc)

-- one more line of a list
pub one_entry : {rest : List Entry} {x : Entry} (list : List Entry) (i : ℕ) → drop i list ≡ x ∷ rest → (lines (take (i + 1) list) ≡ lines (take i list) ++ (line x ++ 10 ∷ [])) × (drop (i + 1) list ≡ rest)
one_entry {x = x} list i is = (
  ap lines (take-add i 1 list ∙ ap (λ more. take i list ++ take 1 more) is)
      ∙ lines_join (take i list) (x ∷ [])
      ∙ ap (lines (take i list) ++◌) (append-nil (line x ++ 10 ∷ [])),
  sym (drop-drop 1 i list) ∙ ap (drop 1) is,
)

next_point : (points : List Coordinates) (at : Coordinates) (i : ℕ) → i < length points → at ≡ get_or points i at → drop i points ≡ at ∷ drop (i + 1) points
next_point points at i less is =
    let next : suc i ≡ i + 1 = omega arith in
    drop-cons points i at less ∙ ap (◌∷ drop (suc i) points) (sym is) ∙ ap (λ n. at ∷ drop n points) next

pub next_dot : (d : Drawing) (points : List Coordinates) (at : Coordinates) (i : ℕ) → i < length points → at ≡ get_or points i at →
    drop i (map (point_entry d) points) ≡ point_entry d at ∷ map (point_entry d) (drop (i + 1) points)
next_dot d points at i less is = sym (points_rest d points i) ∙ ap (map (point_entry d)) (next_point points at i less is)

pub next_line : (d : Drawing) (from to : Coordinates) (points : List Coordinates) (list : List Entry) (i : ℕ) → i < length points → to ≡ get_or points i to →
    drop i list ≡ polyline_entries d from (drop i points) → drop i list ≡ Entry.Line from to (ink_of d) ∷ polyline_entries d to (drop (i + 1) points)
unfolding polyline_entries
next_line d from to points list i less is here = here ∙ ap (polyline_entries d from) (next_point points to i less is)

-- lines of points, lines and characters, from their beginnings and ends

pub dot_line : (d : Drawing) (at : Coordinates) → point_front at ++ (point_end d.pel d.colour ++ 10 ∷ []) ≡ line (point_entry d at) ++ 10 ∷ []
dot_line d at = grind (arith, append_assoc)

pub line_line : (ink : Ink) (from to : Coordinates) → line_front from to ++ (codes " " ++ ink_text ink ++ 10 ∷ []) ≡ line (Entry.Line from to ink) ++ 10 ∷ []
line_line ink from to = grind (arith, append_assoc)

-- the end of a line with a hand
abbrev pub hand_end : Hand → List ℕ
hand_end hand = codes " pen=" ++ (pen_text hand.pen ++ (hand_text_without_pen hand ++ 10 ∷ []))

hand_line : (front : List ℕ) (hand : Hand) → front ++ hand_end hand ≡ (front ++ codes " " ++ hand_text hand) ++ 10 ∷ []
hand_line front hand = grind (arith, append_assoc)

typed_line_as : (step : Option TextStep) (set : CharSet) (hand : Hand) (code : ℕ) → text_byte_front_as step set code ++ hand_end hand ≡ line (text_entry_as step set hand code) ++ 10 ∷ []
typed_line_as step set hand code = grind (arith, hand_line)

pub typed_line : (set : CharSet) (hand : Hand) (code : ℕ) → text_byte_front set code ++ hand_end hand ≡ line (text_entry set hand code) ++ 10 ∷ []
typed_line set hand code = typed_line_as (format_effector code) set hand code

-- the line of a byte that is a character's code begins as a Char's line
letter_typed_as : (step : Option TextStep) (set : CharSet) (code : ℕ) → format_effector code ≡ step → 0x20 ≤ code → text_byte_front_as step set code ≡ char_front set code
letter_typed_as step set code is fits = grind (arith, format_effector_front)

pub letter_typed : (set : CharSet) (code : ℕ) → 0x20 ≤ code → text_byte_front set code ≡ char_front set code
letter_typed set code above = letter_typed_as (format_effector code) set code refl above

-- Lines of a text of this set, by this hand.
module _ (set : CharSet) (hand : Hand) where
  -- after the first byte
  abbrev later : Hand
  later = record hand { pen = After }

  letters_are_lines : (cs : List ℕ) → flat_map (λ code. text_byte_front set code ++ hand_end later) cs ≡ lines (text_entries_in set later cs)
  unfolding text_entries_in
  letters_are_lines [] = refl
  letters_are_lines (c ∷ cs) =
      ap (◌++ flat_map (λ code. text_byte_front set code ++ hand_end later) cs) (typed_line set later c) ∙ ap ((line (text_entry set later c) ++ 10 ∷ []) ++◌) (letters_are_lines cs)

  -- the first with its own pen
  pub text_written : {all mid new bytes buffer : List ℕ} (others : List ℕ) (n : ℕ) (old : List ℕ) {first : ℕ} → all ≡ first ∷ others → mid ≡ old ++ bytes → bytes ≡ text_byte_front set first ++ hand_end hand →
      buffer ≡ hand_end later → new ≡ mid ++ flat_map (λ code. text_byte_front set code ++ buffer) (take n others) → new ≡ old ++ lines (take (n + 1) (text_entries_in set hand all))
  unfolding text_entries_in
  text_written {all} {mid} {buffer = buffer} others n old {first} is one front end more =
      let rest = lines (take n (text_entries_in set later others)) in
      let begun = text_entry set hand first in
      let written = ap (λ end. flat_map (λ code. text_byte_front set code ++ end) (take n others)) end ∙ letters_are_lines (take n others) ∙ ap lines (text_prefix set later others n) in
      let taken : take (n + 1) (text_entries_in set hand all) ≡ begun ∷ take n (text_entries_in set later others) = rw (is, add-one) refl in
      more
      ∙ ap (mid ++◌) written
      ∙ ap (◌++ rest) (one ∙ ap (old ++◌) (front ∙ typed_line set hand first))
      ∙ append_assoc old (line begun ++ 10 ∷ []) rest
      ∙ ap (λ list. old ++ lines list) (sym taken)

  -- those from an index on: after its first byte the pen is that which text leaves
  text_rest : (codes : List ℕ) (n : ℕ) → text_entries_in set later (drop n codes) ≡ drop n (text_entries_in set later codes)
  unfolding text_entries_in
  text_rest codes zero = refl
  text_rest [] (suc n) = refl
  text_rest (c ∷ cs) (suc n) = text_rest cs n

  text_from_index : (codes : List ℕ) (n : ℕ) → text_entries_in set (record hand { pen = pen_at hand.pen n }) (drop n codes) ≡ drop n (text_entries_in set hand codes)
  unfolding text_entries_in
  text_from_index codes n = grind (arith, text_rest)

-- the empty buffer after LF and the end of a line were pushed
pub ended : {buffer pushed cleared : List ℕ} (end : List ℕ) → buffer ≡ end ++ pushed → pushed ≡ codes "\n" ++ cleared → cleared ≡ [] → buffer ≡ end ++ 10 ∷ []
ended end is push clear = is ∙ ap (end ++◌) (push ∙ ap (codes "\n" ++◌) clear)

-- the entries of a part of a batch

pub points_part : (b : Batch) (points : _) (d : _) (first count : ℕ) (few : List Coordinates) → b ≡ Batch.Points points d → few ≡ take count (drop first points.now) →
    map (point_entry d.now) few ≡ take count (drop first (batch_entries b))
points_part b points d first count few is slice =
    let all = ap (map (point_entry d.now)) slice ∙ points_prefix d.now (drop first points.now) count ∙ ap (take count) (points_rest d.now points.now first) in
    rw is all

pub lines_part : (b : Batch) (from : _) (points : _) (d : _) (first count : ℕ) (start : Coordinates) (few : List Coordinates) → b ≡ Batch.Lines from points d →
    start ≡ last_point from (take first points.now) → few ≡ take count (drop first points.now) → polyline_entries d.now start few ≡ take count (drop first (batch_entries b))
lines_part b from points d first count start few is begins slice =
    let all =
    ap (polyline_entries d.now start) slice
    ∙ ap (λ at. polyline_entries d.now at (take count (drop first points.now))) begins
    ∙ lines_prefix d.now (last_point from (take first points.now)) (drop first points.now) count
    ∙ ap (take count) (lines_rest d.now from points.now first) in
    rw is all

pub text_part : (b : Batch) (set : CharSet) (bytes : _) (pen : Pen) (d : _) (first count : ℕ) (hand : Hand) (few : List ℕ) → b ≡ Batch.Text set bytes pen d →
    hand ≡ record (hand_of d.now) { pen = pen_at pen first } → few ≡ take count (drop first bytes.now) → text_entries_in set hand few ≡ take count (drop first (batch_entries b))
text_part b set bytes pen d first count hand few is in_hand slice =
    let now = record (hand_of d.now) { pen = pen_at pen first } in
    let all =
    ap (λ hand. text_entries_in set hand few) in_hand
    ∙ ap (text_entries_in set now) slice
    ∙ text_prefix set now (drop first bytes.now) count
    ∙ ap (take count) (text_from_index set (record (hand_of d.now) { pen = pen }) bytes.now first) in
    rw is all

-- Blocks of lines.

-- bytes that replace as many
replaced : (a b c d : List ℕ) (at : ℕ) → at ≡ length a → length b ≡ length d → patched (a ++ (b ++ c)) at d ≡ a ++ (d ++ c)
replaced a b c d at is same = grind (arith, take-append_seam, drop-append-add, drop-append_seam)

-- Lines of characters with this beginning and this end.
module _ (start end : List ℕ) where
  abbrev pub coded_width : ℕ
  coded_width = length start + 2 + length end

  -- the lines of these codes
  abbrev pub coded : List ℕ → List ℕ
  coded codes = flat_map (λ code. (start ++ code_text code) ++ end) codes

  coded_size : (codes : List ℕ) (size : ℕ) → size ≡ coded_width → length (coded codes) ≡ length codes * size
  coded_size [] size is = omega arith
  coded_size (c ∷ cs) size is = grind (arith, length-append, suc-mul, coded_size cs size is)

  coded_join : (xs ys : List ℕ) → coded (xs ++ ys) ≡ coded xs ++ coded ys
  coded_join xs ys = flat_map-append _ xs ys

  -- copies of a line are lines of some codes
  pub filled_coded : (line block : List ℕ) (n : ℕ) → line ≡ (start ++ code_text 0) ++ end → n * length line ≤ length block →
      (codes : List ℕ) × ((length codes ≡ n) × (filled n line block ≡ coded codes ++ drop (n * length line) block))
  unfolding filled
  filled_coded line block zero is within = grind arith
  filled_coded line block (suc n) is within =
      let size = length line in
      let next = suc-mul n size in
      let (codes, (count, made)) = filled_coded line block n is (omega arith) in
      let at = n * size in
      let rest = drop at block in
      let first = coded codes in
      let long : size ≡ coded_width = omega (arith, ap length is, length-append (start ++ code_text 0) end, length-append start (code_text 0)) in
      let here : at ≡ length first = sym (coded_size codes size long ∙ ap (λ n. n * size) count) in
      let more : at + size ≡ suc n * size = omega arith in
      let left = drop size rest in (
        codes ++ 0 ∷ [],
        (
          omega (arith, length-append codes (0 ∷ [])),
          ap (λ bytes. patched bytes at line) (made ∙ ap (first ++◌) (sym (take-append-drop size rest)))
              ∙ replaced first _ left line at here (length-take-le size rest (omega (arith, length-drop at block)))
              ∙ sym (append_assoc first line left)
              ∙ ap (λ bytes. (first ++ bytes) ++ left) (is ∙ sym (append-nil _))
              ∙ ap (◌++ left) (sym (coded_join codes (0 ∷ [])))
              ∙ ap (coded (codes ++ 0 ∷ []) ++◌) (drop-drop size at block ∙ ap (λ n. drop n block) more),
        ),
      )

  -- a line among others
  among : (xs ys rest : List ℕ) (x : ℕ) → coded (xs ++ x ∷ ys) ++ rest ≡ (coded xs ++ start) ++ (code_text x ++ (end ++ (coded ys ++ rest)))
  among xs ys rest x = grind (arith, coded_join, append_assoc)

  -- lines of characters with the digits of other codes
  pub recoded_coded : (codes others rest : List ℕ) (size place n : ℕ) → place ≡ length start → size ≡ coded_width → n ≤ length codes → n ≤ length others →
      recoded size place codes n (coded others ++ rest) ≡ coded (take n codes ++ drop n others) ++ rest
  unfolding recoded
  recoded_coded codes others rest size place zero front long within few = refl
  recoded_coded codes others rest size place (suc n) front long within few =
      let at = n * size + place in
      let now = take n codes in
      let later = drop (suc n) others in
      let old = get_or others n 0 in
      let code = get_or codes n 0 in
      let many : length now * size ≡ n * size = ap (λ n. n * size) (length-take-le n codes (omega arith)) in
      let here : at ≡ length (coded now ++ start) = omega (arith, length-append (coded now) start, coded_size now size long) in
      ap (λ bytes. patched bytes at (code_text code))
      (recoded_coded codes others rest size place n front long (omega arith) (omega arith)
      ∙ ap (λ ys. coded (now ++ ys) ++ rest) (drop-cons others n 0 (omega arith))
      ∙ among now later rest old)
      ∙ replaced (coded now ++ start) (code_text old) (end ++ (coded later ++ rest)) (code_text code) at here refl
      ∙ sym (among now later rest code)
      ∙ ap (λ xs. coded xs ++ rest) (sym (append_assoc now (code ∷ []) later) ∙ ap (◌++ later) (sym (take-suc codes n 0 (omega arith))))

  -- the first lines of a block
  pub first_lines : (now others rest : List ℕ) (size n : ℕ) → size ≡ coded_width → n ≡ length now * size → take n (coded (now ++ others) ++ rest) ≡ coded now
  first_lines now others rest size n long is =
      let many : n ≡ length (coded now) = is ∙ sym (coded_size now size long) in
      let apart = ap (◌++ rest) (coded_join now others) ∙ append_assoc (coded now) (coded others) rest in
      rw (apart, many) (take-append_seam (coded now) (coded others ++ rest))

-- lines of characters' codes are those of the bytes of a text
pub coded_typed : (set : CharSet) (end codes : List ℕ) → All (λ code. 0x20 ≤ code) codes → coded (char_start set) end codes ≡ flat_map (λ code. text_byte_front set code ++ end) codes
coded_typed set end [] all = refl
coded_typed set end (c ∷ cs) all = grind (arith, letter_typed, All-head, All-tail, coded_typed set end cs (All-tail (λ code. 0x20 ≤ code) c cs all))

-- lines of n more bytes are those of a part
pub more_lines : (f : ℕ → List ℕ) (all few : List ℕ) (i m n : ℕ) → few ≡ take m (drop i all) → n ≤ m → flat_map f (take (i + n) all) ≡ flat_map f (take i all) ++ flat_map f (take n few)
more_lines f all few i m n is less = grind (arith, take-take, take-add, flat_map-append)

-- Bytes that are copied from the beginning of a buffer, and pushed again.

-- the last bytes of an array that holds a copy of the bytes up to an index
pub first_copied : (bytes view copy : List ℕ) (at count : ℕ) → drop at bytes ≡ view → copy ≡ take (at + count - (at + count - 16)) (drop (at + count - 16) bytes) → count ≤ 16 → 16 ≤ at + count →
    drop (16 - count) copy ≡ take count view
first_copied bytes view copy at count is same few long = grind (arith, drop-take, drop-drop)

-- the buffer's bytes after some were pushed
pub last_put : (bytes kept : List ℕ) (end start size at from : ℕ) → end ≤ length bytes → start + size ≡ end → length kept ≡ size → from ≤ size → at ≡ start + from →
    drop at (put_mid start size bytes kept) ≡ drop from kept ++ drop end bytes
last_put bytes kept end start size at from within ends few less is = grind (arith, length-take-le, drop-drop, drop-append-le, drop-append-add)

-- the bytes that were pushed last
pub last_pushed : {now : List ℕ} (prefix old : List ℕ) (count : ℕ) → now ≡ prefix ++ old → count ≡ length now - length old → take count now ≡ prefix
last_pushed prefix old count is size =
    let many : count ≡ length prefix = omega (arith, ap length is, length-append prefix old) in
    rw (many, is) (take-append_seam prefix old)

-- the text of a point is UTF-8: digits and a comma
pub point_utf8 : (x y : ℕ) → x < 2 ^ 64 → y < 2 ^ 64 → IsUtf8 (decimal x ++ codes "," ++ decimal y)
point_utf8 x y wide high =
    IsUtf8-from_ascii _ (IsAscii-append _ _ (IsAscii-append _ _ (IsAscii-decimal x wide) (IsAscii-cons 44 [] (omega arith) IsAscii-nil)) (IsAscii-decimal y high))

-- the text of a point has at most 15 bytes, since each coordinate has at most seven digits
pub point_few : (x y : ℕ) → x < 8388608 → y < 8388608 → length (decimal x ++ codes "," ++ decimal y) ≤ 15
point_few x y wide high =
    omega (arith, length-append {A = ℕ}, length-decimal-le 7 x (omega arith) (omega arith) (omega arith), length-decimal-le 7 y (omega arith) (omega arith) (omega arith))

-- The line of a shape, part by part.

-- a text was appended after another one
pub both_appended : {old mid new : List ℕ} (a b : List ℕ) → (mid ≡ old ++ a) × (IsUtf8 old → IsUtf8 mid) → (new ≡ mid ++ b) × (IsUtf8 mid → IsUtf8 new) → (new ≡ old ++ (a ++ b)) × (IsUtf8 old → IsUtf8 new)
both_appended {old} a b first more = (more.0 ∙ ap (◌++ b) first.0 ∙ append_assoc old a b, λ h. more.1 (first.1 h))

-- what stood before both still stands where the second wasn't written
still_begins : {mid : List ℕ} (old new a : List ℕ) → mid ≡ old ++ a → take (length mid) new ≡ mid → take (length old) new ≡ old
still_begins {mid} old new a is kept =
    sym (take-take (length old) (length mid) new (omega (arith, ap length is, length-append old a))) ∙ ap (take (length old)) (kept ∙ is) ∙ take-append_seam old a

pub appends_more : {E : Type 0} {mid : List ℕ} (old new a b : List ℕ) (r : Result (Unit {0}) E) → (mid ≡ old ++ a) × (IsUtf8 old → IsUtf8 mid) → AppendsText mid b new r → AppendsText old (a ++ b) new r
appends_more old new a b (Ok done) first more = both_appended a b first more
appends_more old new a b (Err fault) first more = still_begins old new a first.0 more

pub text_kept : {E : Type 0} {mid : List ℕ} (old new a bytes : List ℕ) (r : Result (Unit {0}) E) → mid ≡ old ++ a → take (length mid) new ≡ mid → IsErr r → AppendsText old bytes new r
text_kept old new a bytes (Ok done) is kept fails = cc
text_kept old new a bytes (Err fault) is kept fails = still_begins old new a is kept

points_join : (xs ys : List Coordinates) → points_text (xs ++ ys) ≡ points_text xs ++ points_text ys
points_join xs ys = flat_map-append (λ p. codes " " ++ point_text p) xs ys

-- the points of a shape are those that it goes through, and its start again if it returns there
way_is : (kind : ShapeKind) (p : Coordinates) (points : List Coordinates) → outline kind (p ∷ points) ≡ p ∷ (points ++ closing_points kind p points)
way_is kind p points = grind (arith, append-nil)

way_text : (kind : ShapeKind) (p : Coordinates) (points back : List Coordinates) → closing_points kind p points ≡ back →
    points_text (outline kind (p ∷ points)) ≡ points_text (p ∷ []) ++ (points_text points ++ points_text back)
way_text kind p points back is =
    ap points_text (way_is kind p points)
    ∙ ap (λ back. points_text (p ∷ (points ++ back))) is
    ∙ points_join (p ∷ []) (points ++ back)
    ∙ ap (points_text (p ∷ []) ++◌) (points_join points back)

parts : (a f p q r s i n : List ℕ) → (a ++ f) ++ p ++ q ++ r ++ (s ++ i ++ n) ≡ (a ++ f ++ (p ++ (q ++ r)) ++ s ++ i) ++ n
parts a f p q r s i n = simp append_assoc

-- the parts of a shape's line, as they are written
shape_line : (kind : ShapeKind) (filled : Bool) (p : Coordinates) (others back : List Coordinates) (ink : Ink) → closing_points kind p others ≡ back →
    (shape_name kind ++ fill_text filled) ++ points_text (p ∷ []) ++ points_text others ++ points_text back ++ (codes " " ++ ink_text ink ++ 10 ∷ []) ≡ line (shape_entry kind filled (outline kind (p ∷ others)) ink) ++ 10 ∷ []
shape_line ShapeKind.Arc filled p others back ink is = rw (way_text ShapeKind.Arc p others back is) (parts (codes "ARC-") (fill_text filled) (points_text (p ∷ [])) (points_text others) (points_text back) (codes " ") (ink_text ink) _)
shape_line ShapeKind.Poly filled p others back ink is = rw (way_text ShapeKind.Poly p others back is) (parts (codes "POLY-") (fill_text filled) (points_text (p ∷ [])) (points_text others) (points_text back) (codes " ") (ink_text ink) _)

pub drawn_line : (shape : Shape) → (shape_name shape.kind ++ fill_text shape.filled) ++ points_text (shape.from ∷ []) ++ points_text shape.others.now ++ points_text (closing_points shape.kind shape.from shape.others.now)
    ++ (codes " " ++ ink_text (ink_of shape.drawing.now) ++ 10 ∷ []) ≡ line (entry_of_shape shape) ++ 10 ∷ []
drawn_line shape = shape_line shape.kind shape.filled shape.from shape.others.now _ (ink_of shape.drawing.now) refl

-- a shape has few points after its start
few_displaced : (kind : ShapeKind) (filled : Bool) (p : Coordinates) (others : List Coordinates) (ink : Ink) → WellMade (shape_entry kind filled (outline kind (p ∷ others)) ink) → length others ≤ 2000
few_displaced kind filled p others ink is = grind (arith, way_is, length-append)

pub few_others : (shape : Shape) → WellMade (entry_of_shape shape) → length shape.others.now ≤ 2000
few_others shape made = few_displaced shape.kind shape.filled shape.from shape.others.now (ink_of shape.drawing.now) made
