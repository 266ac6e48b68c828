-- Operands that are spelled one after another, and what the rules of drawing do with them.

use Rattle.nap_canon.proofs.{All, All-append, All-cons, All-head, All-nil, All-tail, Components, Coordinates, Displacement, Drawing, Entry, HasSixteenBitParts, IsAddress, IsInRange, IsInSquare, IsOperandByte, IsWord, List, Ok, Opcode, OperandLengths, Option, Some, State, Work, [], addr_bytes, addresses, addresses_spell_once, ap, append-nil, arc_points, arith, colour_of, colours_spell_once, digits_of, displacement_bytes, displacement_to, displacements_lead_there, drop, false, grb_bytes, length, length-append, length-map, map, map-append, move_bytes, moves, moves_spell_once, multi_of, nat_lt, nat_tests, no_operands, operands, point_at, point_bytes, points_reached, points_spell_once, poly_points, refl, rule, rule_result, shape_bytes, shape_from_point, single_of, steps_limit, suc, sym, take, text_lengths, whole_operand_first, word_byte, words_of, ℕ, ◌*◌, ◌++◌, ◌+◌, ◌-◌, ◌<◌, ◌∙◌, ◌∷◌, ◌≡◌, ◌≤◌}

-- Operands that are spelled one after another, as they are read.

-- the work under operands of eight words and of four
abbrev pub work_at : OperandLengths → State → Work
work_at saved s = record { domain = text_lengths; state = s; saved = saved }

pub word_of : (word : ℕ) → word_byte word - 64 ≡ word
word_of word = omega arith

first_operand : (k : ℕ) (bytes rest : List ℕ) → 1 ≤ k → length bytes ≡ k → operands k (words_of (bytes ++ rest)) ≡ words_of bytes ∷ operands k (words_of rest)
first_operand k bytes rest some size = grind (arith, operands, map-append, whole_operand_first, length-map)

-- multi-value operands

pub move_first : (m : Displacement) (rest : List ℕ) → IsInRange m → moves 8 (words_of (move_bytes m ++ rest)) ≡ m ∷ moves 8 (words_of rest)
move_first m rest inside = grind (arith, moves_spell_once, first_operand)

-- a point is read as its displacement from the origin
abbrev pub from_origin : Coordinates → Displacement
from_origin p = multi_of (words_of (point_bytes p))

pub point_first : (p : Coordinates) (rest : List ℕ) → IsInSquare p → moves 8 (words_of (point_bytes p ++ rest)) ≡ from_origin p ∷ moves 8 (words_of rest)
point_first p rest inside = grind (arith, points_spell_once, first_operand)

pub point_there : (p : Coordinates) → IsInSquare p → point_at (from_origin p) ≡ Some p
point_there p inside = let spelled = points_spell_once p inside in spelled.read_back

pub no_moves : moves 8 (words_of []) ≡ []
no_moves = ap (map multi_of) (no_operands 8)

pub move_alone : (m : Displacement) → IsInRange m → moves 8 (words_of (move_bytes m)) ≡ m ∷ []
move_alone m inside =
    ap (λ (bs : List ℕ). moves 8 (words_of bs)) (sym (append-nil (move_bytes m)))
    ∙ (move_first m [] inside ∙ ap (λ (ms : List Displacement). m ∷ ms) no_moves)

pub point_alone : (p : Coordinates) → IsInSquare p → moves 8 (words_of (point_bytes p)) ≡ from_origin p ∷ []
point_alone p inside =
    ap (λ (bs : List ℕ). moves 8 (words_of bs)) (sym (append-nil (point_bytes p)))
    ∙ (point_first p [] inside ∙ ap (λ (ms : List Displacement). from_origin p ∷ ms) no_moves)

pub colour_alone : (grb : Components) → HasSixteenBitParts grb → operands 8 (words_of (grb_bytes grb)) ≡ words_of (grb_bytes grb) ∷ []
colour_alone grb inside =
    let spelled = colours_spell_once grb inside in
    ap (λ (bs : List ℕ). operands 8 (words_of bs)) (sym (append-nil (grb_bytes grb)))
    ∙ (first_operand 8 (grb_bytes grb) [] (omega arith) spelled.size_is ∙ ap (λ (os : List (List ℕ)). words_of (grb_bytes grb) ∷ os) (no_operands 8))

pub colour_there : (grb : Components) → HasSixteenBitParts grb → colour_of (words_of (grb_bytes grb)) ≡ grb
colour_there grb inside = let spelled = colours_spell_once grb inside in spelled.read_back

-- single-value operands

pub address_first : (a : ℕ) (rest : List ℕ) → a < 16777216 → addresses 4 (words_of (addr_bytes a ++ rest)) ≡ a ∷ addresses 4 (words_of rest)
address_first a rest inside = grind (arith, addresses_spell_once, first_operand)

pub no_addresses : addresses 4 (words_of []) ≡ []
no_addresses = ap (map single_of) (no_operands 4)

pub address_alone : (a : ℕ) → a < 16777216 → addresses 4 (words_of (addr_bytes a)) ≡ a ∷ []
address_alone a inside =
    ap (λ (bs : List ℕ). addresses 4 (words_of bs)) (sym (append-nil (addr_bytes a)))
    ∙ (address_first a [] inside ∙ ap (λ (os : List ℕ). a ∷ os) no_addresses)

pub address_pair : (a b : ℕ) → a < 16777216 → b < 16777216 → addresses 4 (words_of (addr_bytes a ++ addr_bytes b)) ≡ a ∷ b ∷ []
address_pair a b first second = grind (arith, address_first, address_alone)

-- the bytes are operand bytes, size of them
pub record AreOperands (bytes : List ℕ) (size : ℕ) : Type 0 where
  pub size_is : length bytes ≡ size
  pub carriers : All IsOperandByte bytes

pub no_bytes : AreOperands [] 0
no_bytes = record { size_is = refl; carriers = All-nil IsOperandByte }

pub word_bytes : (word : ℕ) {bytes : List ℕ} {size : ℕ} → IsWord word → AreOperands bytes size → AreOperands (word_byte word ∷ bytes) (suc size)
word_bytes word inside others = grind (arith, All-cons)

pub both_bytes : {xs ys : List ℕ} {m n : ℕ} → AreOperands xs m → AreOperands ys n → AreOperands (xs ++ ys) (m + n)
both_bytes {xs} {ys} first second = record {
  size_is = omega (arith, length-append xs ys, first.size_is, second.size_is);
  carriers = All-append IsOperandByte xs ys first.carriers second.carriers;
}

pub move_operand : (m : Displacement) → IsInRange m → AreOperands (move_bytes m) 8
move_operand m inside = let spelled = moves_spell_once m inside in record { size_is = spelled.size_is; carriers = spelled.carriers }

pub point_operand : (p : Coordinates) → IsInSquare p → AreOperands (point_bytes p) 8
point_operand p inside = let spelled = points_spell_once p inside in record { size_is = spelled.size_is; carriers = spelled.carriers }

pub colour_operand : (grb : Components) → HasSixteenBitParts grb → AreOperands (grb_bytes grb) 8
colour_operand grb inside = let spelled = colours_spell_once grb inside in record { size_is = spelled.size_is; carriers = spelled.carriers }

pub address_operand : (a : ℕ) → a < 16777216 → AreOperands (addr_bytes a) 4
address_operand a inside = let spelled = addresses_spell_once a inside in record { size_is = spelled.size_is; carriers = spelled.carriers }

-- The operands of a shape: a point, and the displacements to the others.

pub displacements_operands : (p : Coordinates) (qs : List Coordinates) → IsInSquare p → All IsInSquare qs → AreOperands (displacement_bytes p qs) (8 * length qs)
unfolding displacement_bytes
displacements_operands p [] inside all = no_bytes
displacements_operands p (q ∷ qs) inside all =
    let next : IsInSquare q = All-head IsInSquare q qs all in
    let step = (displacements_lead_there p q inside next).0 in
    let more = both_bytes (move_operand (displacement_to p q) step) (displacements_operands q qs next (All-tail IsInSquare q qs all)) in
    record { size_is = omega (arith, more.size_is); carriers = more.carriers }

pub shape_operands : (p : Coordinates) (qs : List Coordinates) → IsInSquare p → All IsInSquare qs → AreOperands (shape_bytes (p ∷ qs)) (8 + 8 * length qs)
shape_operands p qs inside all = both_bytes (point_operand p inside) (displacements_operands p qs inside all)

-- What the rules of drawing do with the operands of a shape, and of a blink.

-- two points

pub two_points : (p q : Coordinates) → IsInSquare p → IsInSquare q → moves 8 (words_of (point_bytes p ++ point_bytes q)) ≡ from_origin p ∷ from_origin q ∷ []
two_points p q first second = grind (arith, point_first, point_alone)

-- a point, and the displacements to the others in turn

steps_from : Coordinates → List Coordinates → List Displacement
steps_from p [] = []
steps_from p (q ∷ qs) = displacement_to p q ∷ steps_from q qs

steps_read : (p : Coordinates) (qs : List Coordinates) → IsInSquare p → All IsInSquare qs → moves 8 (words_of (displacement_bytes p qs)) ≡ steps_from p qs
unfolding displacement_bytes steps_from
steps_read p [] inside all = no_moves
steps_read p (q ∷ qs) inside all =
    let next : IsInSquare q = All-head IsInSquare q qs all in
    move_first (displacement_to p q) (displacement_bytes q qs) (displacements_lead_there p q inside next).0
    ∙ ap (λ (ms : List Displacement). displacement_to p q ∷ ms) (steps_read q qs next (All-tail IsInSquare q qs all))

shape_read : (p : Coordinates) (qs : List Coordinates) → IsInSquare p → All IsInSquare qs →
    moves 8 (words_of (shape_bytes (p ∷ qs))) ≡ from_origin p ∷ steps_from p qs
shape_read p qs inside all = grind (arith, point_first, steps_read)

steps_reach : (p : Coordinates) (qs : List Coordinates) → IsInSquare p → All IsInSquare qs → points_reached p (steps_from p qs) ≡ Some qs
unfolding points_reached steps_from
steps_reach p [] inside all = refl
steps_reach p (q ∷ qs) inside all =
    let next : IsInSquare q = All-head IsInSquare q qs all in
    rw ((displacements_lead_there p q inside next).1, steps_reach q qs next (All-tail IsInSquare q qs all)) refl

length-steps : (p : Coordinates) (qs : List Coordinates) → length (steps_from p qs) ≡ length qs
unfolding steps_from
length-steps p [] = refl
length-steps p (q ∷ qs) = ap suc (length-steps q qs)

few_steps : (n : ℕ) → n ≤ steps_limit → nat_lt steps_limit n ≡ false
few_steps n few = grind (arith, nat_tests)

-- an arc or a polygon
pub shape_rule : (saved : OperandLengths) (s : State) (entry : Drawing → List Coordinates → Entry) (points : Coordinates → List Displacement → Option (List Coordinates))
    (p q : Coordinates) (qs : List Coordinates) → IsInSquare p → All IsInSquare (q ∷ qs) → length (q ∷ qs) ≤ steps_limit →
    ((ms : List Displacement) → points_reached p ms ≡ Some (q ∷ qs) → points p ms ≡ Some (p ∷ q ∷ qs)) →
    shape_from_point (work_at saved s) (words_of (shape_bytes (p ∷ q ∷ qs))) entry points ≡ Ok (rule_result (work_at saved s) (entry s.drawing (p ∷ q ∷ qs) ∷ []))
unfolding steps_from
shape_rule saved s entry points p q qs inside all few reaches =
    let ms : List Displacement = steps_from p (q ∷ qs) in
    let some : nat_lt steps_limit (length ms) ≡ false = few_steps (length ms) (omega (arith, few, length-steps p (q ∷ qs))) in
    let there : points p ms ≡ Some (p ∷ q ∷ qs) = reaches ms (steps_reach p (q ∷ qs) inside all) in
    rw (shape_read p (q ∷ qs) inside all, some, point_there p inside, there) refl

pub arc_leads : (p q r : Coordinates) (rs : List Coordinates) (ms : List Displacement) → points_reached p ms ≡ Some (q ∷ r ∷ rs) → arc_points p ms ≡ Some (p ∷ q ∷ r ∷ rs)
arc_leads p q r rs ms leads = rw leads refl

pub poly_leads : (p : Coordinates) (qs : List Coordinates) (ms : List Displacement) → points_reached p ms ≡ Some qs → poly_points p ms ≡ Some (p ∷ qs)
poly_leads p qs ms leads = rw leads refl

-- two corners
pub corners_read : (p q : Coordinates) → IsInSquare p → IsInSquare q → moves 8 (words_of (shape_bytes (p ∷ q ∷ []))) ≡ from_origin p ∷ displacement_to p q ∷ []
unfolding steps_from
corners_read p q first second = shape_read p (q ∷ []) first (All-cons IsInSquare q [] second (All-nil IsInSquare))

-- blinking

address_words : (a : ℕ) (bytes : List ℕ) → take 4 (words_of (addr_bytes a ++ bytes)) ≡ words_of (addr_bytes a)
unfolding addr_bytes digits_of
address_words a bytes = refl

time_words : (a : ℕ) (bytes : List ℕ) → drop 4 (words_of (addr_bytes a ++ bytes)) ≡ words_of bytes
unfolding addr_bytes digits_of
time_words a bytes = refl

blink_size : (a on off delay : ℕ) → length (words_of (addr_bytes a ++ word_byte on ∷ word_byte off ∷ word_byte delay ∷ [])) ≡ 7
unfolding addr_bytes digits_of
blink_size a on off delay = refl

pub blink_rule : (saved : OperandLengths) (s : State) (a on off delay : ℕ) → IsAddress a →
    rule (work_at saved s) Opcode.Blink (words_of (addr_bytes a ++ word_byte on ∷ word_byte off ∷ word_byte delay ∷ []))
    ≡ Ok (rule_result (work_at saved s) (Entry.Blink a on off delay s.drawing.colour ∷ []))
blink_rule saved s a on off delay inside =
    let times : List ℕ = word_byte on ∷ word_byte off ∷ word_byte delay ∷ [] in
    let group : List ℕ = words_of (addr_bytes a ++ times) in
    let spelled = addresses_spell_once a inside in
    let one : operands 7 group ≡ group ∷ [] =
    ap (operands 7) (sym (append-nil group))
    ∙ whole_operand_first 7 group [] (omega arith) (blink_size a on off delay)
    ∙ ap (λ (os : List (List ℕ)). group ∷ os) (no_operands 7) in
    rw (one, address_words a times, time_words a times, spelled.read_back, word_of on, word_of off, word_of delay) refl
