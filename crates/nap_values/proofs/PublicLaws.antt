use Rattle.nap_values.proofs.{AddressesSpellOnce, All, ColoursSpellOnce, Components, Displacement, DisplacementsAreUnique, DisplacementsLeadThere, IsOnlySpelling, IsWord, List, MissingWordsAreZero, MovesSpellOnce, PointsAreInside, PointsSpellOnce, ValuesAreInRange, addr_bytes, ap, arith, b_digit, bits_of, colour_of, digits_of, displaced_point, displacement_to, g_digit, grb_bytes, ints, length, length-map, map, map-append, move_bytes, multi_of, negsuc, operand_bytes, point_at, point_bytes, pos, r_digit, refl, replicate, single_of, suc, sym, value_of, x_digit, y_digit, zero, ℕ, ◌++◌, ◌+ℤ◌, ◌+◌, ◌-ℤ◌, ◌<ℤ◌, ◌<◌, ◌∙◌, ◌∷◌, ◌≡◌, ◌≤ℤ◌}
use Rattle.nap_values.proofs.DigitLemmas.{digits_of-below, digits_of-value_of, length-digits_of, value_of-append-zeros, value_of-below, value_of-digits_of}
use Rattle.nap_values.proofs.WordLemmas.{b_digits-below, bits_of-below, bits_of-signed_of, g_digits-below, length-pair_words, operand_bytes-operand_bytes, pair_words, pair_words-values, pair_words-words, point_with-back, point_with-in_square, r_digits-below, signed_of-bits_of, signed_of-low, words_of-operand_bytes, x_value-below, x_value-pair_words, y_value-below, y_value-pair_words}
use Rattle.nap_values.proofs.ColourLemmas.{length-triple_words, triple_words, triple_words-values, triple_words-words, values-triple_words}

-- The laws that crates above cite.

-- a statement about words, for the bytes that carry them
spelling_of_words : {V : Type 0} (read : List ℕ → V) (size : ℕ) (value : V) (words : List ℕ) →
    length words ≡ size → All IsWord words → read words ≡ value →
    ((others : List ℕ) → All IsWord others → length others ≡ size → read others ≡ value → others ≡ words) →
    IsOnlySpelling read size value (operand_bytes words)
spelling_of_words read _ _ words size_is all is only = record {
  size_is = length-map words (λ word. 64 + word) ∙ size_is;
  carriers = operand_bytes-operand_bytes words all;
  read_back = ap read (words_of-operand_bytes words) ∙ is;
  only = λ others all_words same read_so. ap operand_bytes (only others all_words same read_so);
}

-- displacements with equal components are equal
displacement_parts : (m k : Displacement) → m.x ≡ k.x → m.y ≡ k.y → m ≡ k
displacement_parts m k same_x same_y = rw (same_x, same_y)

pub moves_spell_once : MovesSpellOnce
unfolding multi_of move_bytes
moves_spell_once m within =
    let x_fits = bits_of-below m.x within.0 within.1 in
    let y_fits = bits_of-below m.y within.2 within.3 in
    let words = pair_words (bits_of m.x) (bits_of m.y) in
    spelling_of_words multi_of 8 m words
    (length-pair_words (bits_of m.x) (bits_of m.y) x_fits y_fits)
    (pair_words-words (bits_of m.x) (bits_of m.y) x_fits y_fits)
    (rw (
      x_value-pair_words (bits_of m.x) (bits_of m.y) x_fits y_fits,
      y_value-pair_words (bits_of m.x) (bits_of m.y) x_fits y_fits,
      signed_of-bits_of m.x within.0 within.1,
      signed_of-bits_of m.y within.2 within.3,
    ))
    (λ others all size is.
    let x_is = sym (bits_of-signed_of (value_of 8 8 (map x_digit others)) (x_value-below others all)) ∙ ap (λ (k : Displacement). bits_of k.x) is in
    let y_is = sym (bits_of-signed_of (value_of 8 8 (map y_digit others)) (y_value-below others all)) ∙ ap (λ (k : Displacement). bits_of k.y) is in
    rw (x_is, y_is) at (pair_words-values others all size))

-- a point is spelled by the bytes of the displacement to it from the origin
pub points_spell_once : PointsSpellOnce
unfolding point_at point_bytes move_bytes
points_spell_once p inside =
    let from_origin : Displacement = record { x = pos p.x; y = pos p.y } in
    let spelled = moves_spell_once from_origin (omega (arith, ints), omega (arith, ints), omega (arith, ints), omega (arith, ints)) in
    record {
      size_is = spelled.size_is;
      carriers = spelled.carriers;
      read_back = ap point_at spelled.read_back ∙ point_with-in_square p inside;
      only = λ words all size is.
          let back = point_with-back (multi_of words).x (multi_of words).y p is in
          spelled.only words all size (displacement_parts (multi_of words) from_origin back.1 back.2);
    }

pub addresses_spell_once : AddressesSpellOnce
unfolding single_of addr_bytes
addresses_spell_once number fits =
    spelling_of_words single_of 4 number (digits_of 64 4 number)
    (length-digits_of 64 4 number)
    (digits_of-below 64 4 number (omega arith) fits)
    (value_of-digits_of 64 4 number (omega arith) fits)
    (λ words all size is. sym (digits_of-value_of 64 4 words (omega arith) all size) ∙ ap (digits_of 64 4) is)

pub colours_spell_once : ColoursSpellOnce
unfolding colour_of grb_bytes
colours_spell_once c within =
    let words = triple_words c.g c.r c.b in
    let values = values-triple_words c.g c.r c.b within.0 within.1 within.2 in
    spelling_of_words colour_of 8 c words
    (length-triple_words c.g c.r c.b within.0 within.1 within.2)
    (triple_words-words c.g c.r c.b within.0 within.1 within.2)
    (rw (values.0, values.1, values.2))
    (λ others all size is.
    let g_is = ap (λ (k : Components). k.g) is in
    let r_is = ap (λ (k : Components). k.r) is in
    let b_is = ap (λ (k : Components). k.b) is in
    rw (g_is, r_is, b_is) at (triple_words-values others all size))

pub map-replicate : (f : ℕ → ℕ) (n d : ℕ) → map f (replicate n d) ≡ replicate n (f d)
map-replicate f zero d = refl
map-replicate f (suc n) d = ap (λ rest. f d ∷ rest) (map-replicate f n d)

-- zero words at the end don't change the value of digits that are zero in them
value_of-missing : (base places : ℕ) (digit : ℕ → ℕ) (words : List ℕ) (n : ℕ) → digit 0 ≡ 0 →
    value_of base places (map digit (words ++ replicate n 0)) ≡ value_of base places (map digit words)
value_of-missing base places digit words n zero_is =
    rw (map-append digit words _, map-replicate digit n 0, zero_is) (value_of-append-zeros base places (map digit words) n)

pub missing_words_are_zero : MissingWordsAreZero
unfolding multi_of single_of colour_of
missing_words_are_zero words n = (
  rw (value_of-missing 8 8 x_digit words n refl, value_of-missing 8 8 y_digit words n refl),
  value_of-append-zeros 64 4 words n,
  rw (
    value_of-missing 4 8 g_digit words n refl,
    value_of-missing 4 8 r_digit words n refl,
    value_of-missing 4 8 b_digit words n refl,
  ),
)

pub values_are_in_range : ValuesAreInRange
unfolding multi_of single_of colour_of
values_are_in_range words all =
    search (signed_of-low, x_value-below, y_value-below, value_of-below, g_digits-below, r_digits-below, b_digits-below, arith)

-- a number plus the displacement from it to another is the other
there : (a b : ℕ) → pos a +ℤ (pos b -ℤ pos a) ≡ pos b
there = omega (arith, ints)

-- the displacement between numbers below 2^23 is in range
way_in_range : (a b : ℕ) → a < 8388608 → b < 8388608 → (negsuc 8388607 ≤ℤ (pos b -ℤ pos a)) × ((pos b -ℤ pos a) <ℤ pos 8388608)
way_in_range a b a_below b_below = (omega (arith, ints), omega (arith, ints))

pub displacements_lead_there : DisplacementsLeadThere
unfolding displaced_point displacement_to
displacements_lead_there p q p_inside q_inside =
    let x = way_in_range p.x q.x p_inside.0 q_inside.0 in
    let y = way_in_range p.y q.y p_inside.1 q_inside.1 in
    ((x.0, x.1, y.0, y.1), rw (there p.x q.x, there p.y q.y) (point_with-in_square q q_inside))

pub displacements_are_unique : DisplacementsAreUnique
unfolding displaced_point displacement_to
displacements_are_unique p q m is =
    let back = point_with-back _ (pos p.y +ℤ m.y) q is in
    let x_is : pos q.x -ℤ pos p.x ≡ m.x = omega (arith, ints) in
    let y_is : pos q.y -ℤ pos p.y ≡ m.y = omega (arith, ints) in
    (back.0, displacement_parts _ m x_is y_is)

pub points_are_inside : PointsAreInside
unfolding point_at displacement_to
points_are_inside m p is =
    let back = point_with-back m.x m.y p is in
    let x_is : pos p.x -ℤ pos 0 ≡ m.x = omega (arith, ints) in
    let y_is : pos p.y -ℤ pos 0 ≡ m.y = omega (arith, ints) in
    (back.0, displacement_parts _ m x_is y_is)
