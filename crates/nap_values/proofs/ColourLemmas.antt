use Rattle.nap_values.proofs.{All, All-map, HoldsWords, IsWord, List, SpreadLemmas.below_base, SpreadLemmas.lower_of_four, SpreadLemmas.lower_of_two, [], ap, ap₂, arith, b_digit, b_in, bit_and, digits_of, div-one, g_digit, g_in, length, length-map, map, map-map, map_fixed, packed_colour, r_digit, r_in, refl, replicate, suc, sym, take_all, value_of, words_in, words_of_triples, zero, ℕ, ◌%◌, ◌*◌, ◌+◌, ◌-◌, ◌/◌, ◌<◌, ◌^◌, ◌∙◌, ◌∷◌, ◌≡◌, ◌≤◌}
use Rattle.nap_values.proofs.DigitLemmas.{Eight, all_eight, each_of_eight, digits_of-below, digits_of-value_of, length-digits_of, low_bits, map_same, masked_bytes, moved_bits, value_of-digits_of, value_of-scaled}
use Rattle.nap_values.proofs.WordLemmas.{AreTwoBits, b_digits-below, digits-words_of_triples, g_digits-below, length-words_in, length-words_of_triples, r_digits-below, value-words_in, words_in-value, words_of_triples-digits, words_of_triples-words}

-- The three numbers of 16 bits that eight words hold.

-- the words that hold three numbers of 16 bits
abbrev pub triple_words : ℕ → ℕ → ℕ → List ℕ
triple_words g r b = words_of_triples (digits_of 4 8 g) (digits_of 4 8 r) (digits_of 4 8 b)

module _ (g r b : ℕ) (g_fits : g < 65536) (r_fits : r < 65536) (b_fits : b < 65536) where
  same_length : (n m : ℕ) → length (digits_of 4 8 n) ≡ length (digits_of 4 8 m)
  same_length n m = length-digits_of 4 8 n ∙ sym (length-digits_of 4 8 m)

  two_bits : (n : ℕ) → n < 65536 → AreTwoBits (digits_of 4 8 n)
  two_bits n fits = digits_of-below 4 8 n (omega arith) fits

  pub length-triple_words : length (triple_words g r b) ≡ 8
  length-triple_words =
      length-words_of_triples (digits_of 4 8 g) (digits_of 4 8 r) (digits_of 4 8 b) (same_length g r) (same_length g b) ∙ length-digits_of 4 8 g

  pub triple_words-words : All IsWord (triple_words g r b)
  triple_words-words =
      words_of_triples-words (digits_of 4 8 g) (digits_of 4 8 r) (digits_of 4 8 b) (two_bits g g_fits) (two_bits r r_fits) (two_bits b b_fits)

  pub values-triple_words :
      (value_of 4 8 (map g_digit (triple_words g r b)) ≡ g)
      × (value_of 4 8 (map r_digit (triple_words g r b)) ≡ r)
      × (value_of 4 8 (map b_digit (triple_words g r b)) ≡ b)
  values-triple_words =
      let digits =
      digits-words_of_triples (digits_of 4 8 g) (digits_of 4 8 r) (digits_of 4 8 b) (same_length g r) (same_length g b)
      (two_bits g g_fits) (two_bits r r_fits) (two_bits b b_fits) in (
        ap (value_of 4 8) digits.0 ∙ value_of-digits_of 4 8 g (omega arith) g_fits,
        ap (value_of 4 8) digits.1 ∙ value_of-digits_of 4 8 r (omega arith) r_fits,
        ap (value_of 4 8) digits.2 ∙ value_of-digits_of 4 8 b (omega arith) b_fits,
      )

  pub words_in-packed_colour : words_in (packed_colour g r b) ≡ triple_words g r b
  unfolding packed_colour
  words_in-packed_colour = words_in-value (triple_words g r b) triple_words-words length-triple_words

  pub packed_colour-words : HoldsWords (packed_colour g r b)
  packed_colour-words = rw words_in-packed_colour triple_words-words

  pub parts_in-packed_colour : (g_in (packed_colour g r b) ≡ g) × (r_in (packed_colour g r b) ≡ r) × (b_in (packed_colour g r b) ≡ b)
  unfolding g_in r_in b_in
  parts_in-packed_colour = rw words_in-packed_colour values-triple_words

-- eight words are those of their three numbers
pub triple_words-values : (words : List ℕ) → All IsWord words → length words ≡ 8 →
    words ≡ triple_words (value_of 4 8 (map g_digit words)) (value_of 4 8 (map r_digit words)) (value_of 4 8 (map b_digit words))
triple_words-values words all size =
    let gs = digits_of-value_of 4 8 _ (omega arith) (g_digits-below words all) (length-map words g_digit ∙ size) in
    let rs = digits_of-value_of 4 8 _ (omega arith) (r_digits-below words all) (length-map words r_digit ∙ size) in
    let bs = digits_of-value_of 4 8 (map b_digit words) (omega arith) (b_digits-below words all) (length-map words b_digit ∙ size) in
    rw (gs, rs, bs) (sym (words_of_triples-digits words all))

-- a number that holds words is that of its three numbers
pub packed_colour-in : (n : ℕ) → HoldsWords n → packed_colour (g_in n) (r_in n) (b_in n) ≡ n
unfolding packed_colour g_in r_in b_in
packed_colour-in n words = ap (value_of 256 8) (sym (triple_words-values (words_in n) words (length-words_in n words))) ∙ value-words_in n words

-- its words are those of its three numbers
pub words_of_colour : (n : ℕ) → HoldsWords n → (g r b : ℕ) → g_in n ≡ g → r_in n ≡ r → b_in n ≡ b → words_in n ≡ triple_words g r b
unfolding g_in r_in b_in
words_of_colour n words g r b g_is r_is b_is = rw (← g_is, ← r_is, ← b_is) (triple_words-values (words_in n) words (length-words_in n words))

-- two bits of each byte, copied so that a mask keeps each at its position
abbrev Kept : ℕ → ℕ → (ℕ → ℕ) → ℕ → Type 0
Kept times mask place d = (d * times < 256) × (bit_and (d * times) mask ≡ place d)

module _ (times mask : ℕ) (place : ℕ → ℕ) (mask_fits : mask < 256)
    (each : Kept times mask place 0 × Kept times mask place 1 × Kept times mask place 2 × Kept times mask place 3) where
  kept : (d : ℕ) → d < 4 → Kept times mask place d
  kept zero fits = each.0
  kept (suc zero) fits = each.1
  kept (suc (suc zero)) fits = each.2
  kept (suc (suc (suc zero))) fits = each.3
  kept (suc (suc (suc (suc d)))) fits = absurd (omega arith)

  placed : (ds : List ℕ) → AreTwoBits ds → length ds ≡ 8 →
      bit_and (value_of 256 8 ds * times) (value_of 256 8 (replicate 8 mask)) ≡ value_of 256 8 (map place ds)
  placed ds fit len =
      let moved = map (λ d. d * times) ds in
      let moved_len : length moved ≡ 8 = length-map ds (λ d. d * times) ∙ len in
      let moved_value : value_of 256 8 moved ≡ value_of 256 8 ds * times =
      value_of-scaled 256 8 times (λ d. d * times) (λ d. d) ds (λ i d inside. refl)
      ∙ ap (λ ds. value_of 256 8 ds * times) (map_fixed (λ d. d) ds (λ i d inside. refl)) in
      let moved_fit : All (λ d. d < 256) moved =
      All-map (λ d. d < 256) (λ d. d * times) ds (λ i d inside. (kept _ (fit i d inside)).0) in
      ap (λ n. bit_and n (value_of 256 8 (replicate 8 mask))) (sym moved_value)
      ∙ masked_bytes mask mask_fits 8 8 moved moved_fit moved_len
      ∙ ap (λ ds. value_of 256 8 (map (λ b. bit_and b mask) ds)) (take_all 8 moved (omega (arith, moved_len)))
      ∙ ap (value_of 256 8) (map-map (λ b. bit_and b mask) (λ d. d * times) ds
      ∙ map_same (λ d. bit_and (d * times) mask) place ds
      (λ i d inside. (kept _ (fit i d inside)).1))

-- the positions of a component's two bits in a word: the higher one three places above the lower one, which has this
-- weight
abbrev bits_at : ℕ → ℕ → ℕ
bits_at weight d = d / 2 * (weight * 8) + d % 2 * weight

-- words of three digits have the value of the bits of each
value_of-words_of_triples : (places : ℕ) (gs rs bs : List ℕ) → length gs ≡ places → length rs ≡ places → length bs ≡ places →
    value_of 256 places (map (bits_at 4) gs) + value_of 256 places (map (bits_at 2) rs) + value_of 256 places (map (bits_at 1) bs)
    ≡ value_of 256 places (words_of_triples gs rs bs)
unfolding value_of words_of_triples
value_of-words_of_triples zero [] [] [] _ _ _ = refl
value_of-words_of_triples (suc places) (g ∷ gs) (r ∷ rs) (b ∷ bs) len_g len_r len_b =
    let rest = value_of-words_of_triples places gs rs bs (omega arith) (omega arith) (omega arith) in
    omega arith
value_of-words_of_triples _ gs rs bs len_g len_r len_b = absurd (omega arith)

-- the digits of three components, each in bytes of its own, put together
module _ (g r b : ℕ) (g_fits : g < 65536) (r_fits : r < 65536) (b_fits : b < 65536) where
  pub packed_colour-parts :
      bit_and (value_of 256 8 (digits_of 4 8 g) * 20) 0x2424_2424_2424_2424
      + bit_and (value_of 256 8 (digits_of 4 8 r) * 10) 0x1212_1212_1212_1212
      + bit_and (value_of 256 8 (digits_of 4 8 b) * 5) 0x0909_0909_0909_0909
      ≡ packed_colour g r b
  unfolding packed_colour value_of
  packed_colour-parts =
      let gs = digits_of 4 8 g in
      let rs = digits_of 4 8 r in
      let bs = digits_of 4 8 b in
      ap₂ (λ x y. x + y)
      (ap₂ (λ x y. x + y)
      (placed 20 0x24 (bits_at 4) (omega arith) (search arith) gs (digits_of-below 4 8 g (omega arith) g_fits) (length-digits_of 4 8 g))
      (placed 10 0x12 (bits_at 2) (omega arith) (search arith) rs (digits_of-below 4 8 r (omega arith) r_fits) (length-digits_of 4 8 r)))
      (placed 5 0x09 (bits_at 1) (omega arith) (search arith) bs (digits_of-below 4 8 b (omega arith) b_fits) (length-digits_of 4 8 b))
      ∙ value_of-words_of_triples 8 gs rs bs (length-digits_of 4 8 g) (length-digits_of 4 8 r) (length-digits_of 4 8 b)

-- digits of two bits have the value of both bits
value_of-pairs : (places : ℕ) (high low : ℕ → ℕ) (ds : List ℕ) →
    value_of 256 places (map high ds) * 2 + value_of 256 places (map low ds) ≡ value_of 256 places (map (λ d. high d * 2 + low d) ds)
unfolding value_of
value_of-pairs zero _ _ _ = refl
value_of-pairs (suc places) _ _ [] = refl
value_of-pairs (suc places) high low (d ∷ ds) = omega (arith, value_of-pairs places high low ds)

-- a number that holds words
module _ (n : ℕ) (words : HoldsWords n) where
  -- the lower and the higher bits of a component, moved to the lowest position
  part_digits : (high low : ℕ) (digit : ℕ → ℕ) → 1 + high ≤ 8 → 1 + low ≤ 8 →
      value_of 256 8 (replicate 8 (2 ^ (1 + high) - 2 ^ high)) / 2 ^ high ≡ 0x0101_0101_0101_0101 →
      value_of 256 8 (replicate 8 (2 ^ (1 + low) - 2 ^ low)) / 2 ^ low ≡ 0x0101_0101_0101_0101 →
      ((word : ℕ) → IsWord word → word / 2 ^ high % 2 * 2 + word / 2 ^ low % 2 ≡ digit word) → All (λ d. d < 4) (map digit (words_in n)) →
      digits_of 256 8 (bit_and (n / 2 ^ high) 0x0101_0101_0101_0101 * 2 + bit_and (n / 2 ^ low) 0x0101_0101_0101_0101) ≡ map digit (words_in n)
  unfolding words_in
  part_digits high low digit high_within low_within high_mask low_mask same fit =
      let ws = words_in n in
      let pair : ℕ → ℕ = λ word. word / 2 ^ high % 2 * 2 + word / 2 ^ low % 2 in
      ap (digits_of 256 8)
      (ap₂ (λ x y. x * 2 + y) (moved_bits high n high_within high_mask) (moved_bits low n low_within low_mask)
      ∙ value_of-pairs 8 (λ word. word / 2 ^ high % 2) (λ word. word / 2 ^ low % 2) ws
      ∙ ap (value_of 256 8) (map_same pair digit ws (λ i d inside. same _ (words i d inside))))
      ∙ digits_of-value_of 256 8 (map digit ws) (omega arith)
      (omega arith)
      (length-map ws digit ∙ length-words_in n words)

  pub g_digits_are : digits_of 256 8 (bit_and (n / 32) 0x0101_0101_0101_0101 * 2 + bit_and (n / 4) 0x0101_0101_0101_0101) ≡ map g_digit (words_in n)
  unfolding value_of
  g_digits_are = part_digits 5 2 g_digit (omega arith) (omega arith) refl refl (λ word fits. omega arith) (g_digits-below (words_in n) words)

  pub r_digits_are : digits_of 256 8 (bit_and (n / 16) 0x0101_0101_0101_0101 * 2 + bit_and (n / 2) 0x0101_0101_0101_0101) ≡ map r_digit (words_in n)
  unfolding value_of
  r_digits_are = part_digits 4 1 r_digit (omega arith) (omega arith) refl refl (λ word fits. omega arith) (r_digits-below (words_in n) words)

  pub b_digits_are : digits_of 256 8 (bit_and (n / 8) 0x0101_0101_0101_0101 * 2 + bit_and n 0x0101_0101_0101_0101) ≡ map b_digit (words_in n)
  unfolding value_of
  b_digits_are =
      ap (λ m. digits_of 256 8 (bit_and (n / 8) 0x0101_0101_0101_0101 * 2 + bit_and m 0x0101_0101_0101_0101)) (sym (div-one n))
      ∙ part_digits 3 0 b_digit (omega arith) (omega arith) refl refl (λ word fits. omega arith) (b_digits-below (words_in n) words)

-- Eight digits in base 4: one number of 16 bits, two of 8 bits, four of 4 bits, or a byte for each.

abbrev pub halves_up : ℕ → ℕ
halves_up n = bit_and (n + n * 16777216) 0x0000_00FF_0000_00FF

abbrev pub quarters_up : ℕ → ℕ
quarters_up n = bit_and (n + n * 4096) 0x000F_000F_000F_000F

abbrev pub digits_up : ℕ → ℕ
digits_up n = bit_and (n + n * 64) 0x0303_0303_0303_0303

abbrev pub quarters_down : ℕ → ℕ
quarters_down n = bit_and (n + n / 64) 0x000F_000F_000F_000F

abbrev pub halves_down : ℕ → ℕ
halves_down n = bit_and (n + n / 4096) 0x0000_00FF_0000_00FF

abbrev pub whole_down : ℕ → ℕ
whole_down n = (n + n / 16777216) % 65536

module _ (a b c d e f g h : ℕ) (fits : Eight (λ d. d < 4) a b c d e f g h) where
  abbrev whole : ℕ
  whole = value_of 4 8 (a ∷ b ∷ c ∷ d ∷ e ∷ f ∷ g ∷ h ∷ [])

  abbrev upper : ℕ
  upper = (a * 4 + b) * 16 + (c * 4 + d)

  abbrev lower : ℕ
  lower = (e * 4 + f) * 16 + (g * 4 + h)

  abbrev halves : ℕ
  halves = upper * 4294967296 + lower

  abbrev quarters : ℕ
  quarters = (((a * 4 + b) * 65536 + (c * 4 + d)) * 65536 + (e * 4 + f)) * 65536 + (g * 4 + h)

  abbrev bytes : ℕ
  bytes = value_of 256 8 (a ∷ b ∷ c ∷ d ∷ e ∷ f ∷ g ∷ h ∷ [])

  up_to_halves : halves_up whole ≡ halves
  unfolding value_of
  up_to_halves =
      let moved : whole + whole * 16777216 ≡ upper * 4294967296 + (lower * 16777216 + whole) = omega arith in
      ap (λ n. bit_and n 0x0000_00FF_0000_00FF) moved
      ∙ lower_of_two 8 (omega arith) upper (lower * 16777216 + whole) (omega arith) (omega arith)
      ∙ omega arith

  up_to_quarters : quarters_up halves ≡ quarters
  unfolding value_of
  up_to_quarters =
      let moved : halves + halves * 4096
      ≡ (((a * 4 + b) * 65536 + ((c * 4 + d) * 4096 + upper)) * 65536 + (e * 4 + f)) * 65536 + ((g * 4 + h) * 4096 + lower) = omega arith in
      ap (λ n. bit_and n 0x000F_000F_000F_000F) moved
      ∙ lower_of_four 4 (omega arith) (a * 4 + b) ((c * 4 + d) * 4096 + upper) (e * 4 + f) ((g * 4 + h) * 4096 + lower)
      (omega arith) (omega arith) (omega arith) (omega arith)
      ∙ omega arith

  up_to_digits : digits_up quarters ≡ bytes
  unfolding value_of
  up_to_digits =
      let lanes = a ∷ (b * 64 + (a * 4 + b)) ∷ c ∷ (d * 64 + (c * 4 + d)) ∷ e ∷ (f * 64 + (e * 4 + f)) ∷ g ∷ (h * 64 + (g * 4 + h)) ∷ [] in
      let moved : quarters + quarters * 64 ≡ value_of 256 8 lanes = omega arith in
      ap (λ n. bit_and n 0x0303_0303_0303_0303) moved
      ∙ low_bits 8 2 8 lanes (omega arith)
      (all_eight (λ d. d < 256) _ _ _ _ _ _ _ _ (omega arith)) refl
      ∙ omega arith

  down_to_quarters : quarters_down bytes ≡ quarters
  unfolding value_of
  down_to_quarters =
      let moved : bytes + bytes / 64
      ≡ (((a * 256 + (a * 4 + b)) * 65536 + ((c + b * 4) * 256 + (c * 4 + d))) * 65536 + ((e + d * 4) * 256 + (e * 4 + f))) * 65536
      + ((g + f * 4) * 256 + (g * 4 + h)) = omega arith in
      ap (λ n. bit_and n 0x000F_000F_000F_000F) moved
      ∙ lower_of_four 4 (omega arith) (a * 256 + (a * 4 + b)) ((c + b * 4) * 256 + (c * 4 + d)) ((e + d * 4) * 256 + (e * 4 + f))
      ((g + f * 4) * 256 + (g * 4 + h)) (omega arith) (omega arith) (omega arith) (omega arith)
      ∙ omega arith

  down_to_halves : halves_down quarters ≡ halves
  unfolding value_of
  down_to_halves =
      let moved : quarters + quarters / 4096
      ≡ ((a * 4 + b) * 65536 + upper) * 4294967296 + (((e * 4 + f) + (c * 4 + d) * 16) * 65536 + lower) = omega arith in
      ap (λ n. bit_and n 0x0000_00FF_0000_00FF) moved
      ∙ lower_of_two 8 (omega arith) ((a * 4 + b) * 65536 + upper) (((e * 4 + f) + (c * 4 + d) * 16) * 65536 + lower) (omega arith) (omega arith)
      ∙ omega arith

  down_to_whole : whole_down halves ≡ whole
  unfolding value_of
  down_to_whole = omega arith

  spread_digits : digits_up (quarters_up (halves_up whole)) ≡ bytes
  spread_digits = ap (λ n. digits_up (quarters_up n)) up_to_halves ∙ ap digits_up up_to_quarters ∙ up_to_digits

  collected_parts : whole_down (halves_down (quarters_down bytes)) ≡ whole
  collected_parts = ap (λ n. whole_down (halves_down n)) down_to_quarters ∙ ap whole_down down_to_halves ∙ down_to_whole

pub spreads : (n : ℕ) → n < 65536 → digits_up (quarters_up (halves_up n)) ≡ value_of 256 8 (digits_of 4 8 n)
unfolding digits_of
spreads n fits =
    ap (λ m. digits_up (quarters_up (halves_up m))) (sym (value_of-digits_of 4 8 n (omega arith) fits))
    ∙ spread_digits _ _ _ _ _ _ _ _ (omega arith)

pub collects : (n : ℕ) → All (λ d. d < 4) (digits_of 256 8 n) → whole_down (halves_down (quarters_down n)) ≡ value_of 4 8 (digits_of 256 8 n)
unfolding digits_of
collects n fit =
    ap (λ m. whole_down (halves_down (quarters_down m))) (sym (value_of-digits_of 256 8 n (omega arith) (omega (arith, below_base 4 n fit))))
    ∙ collected_parts _ _ _ _ _ _ _ _ (each_of_eight (λ d. d < 4) _ _ _ _ _ _ _ _ fit)
