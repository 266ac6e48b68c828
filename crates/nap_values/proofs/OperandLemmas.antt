use Rattle.nap_values.proofs.{All, All-append, All-head, All-map, All-replicate, All-tail, HoldsWords, IsWord, List, PublicLaws.map-replicate, PublicLaws.missing_words_are_zero, [], and_mask, ap, append-nil, ap₂, arith, b_digit, bit_and, bits_of, byte_at, bytes_high_first, colour_of, digits_of, div-mul-add, div-one, from_be_bytes, from_le_bytes, g_digit, get_or, get_or_default_zero, le_bytes_8, length, length-append, length-map, length-replicate, length-take, map, map-append, mod-mul-add, multi_of, operand_bytes, operand_words, pow-suc, r_digit, refl, replicate, signed_of, single_of, slice_index, subst, suc, swap_bytes, sym, take, take-map, take_all, to_be_bytes, to_le_bytes, value_of, w64, words_in, words_of_pairs, x_digit, x_in, y_digit, y_in, zero, ℕ, ℤ, ◌%◌, ◌*◌, ◌++◌, ◌+◌, ◌-◌, ◌/◌, ◌<◌, ◌^◌, ◌∙◌, ◌∷◌, ◌≡◌, ◌≤◌}
use Rattle.nap_values.proofs.DigitLemmas.{map_same, masked_bytes, value_of-append-zeros, value_of-below, value_of-digits_of, value_of-take}
use Rattle.nap_values.proofs.WordLemmas.{bits_of-signed_of, length-words_in, packed_fits, pair_words-values, words_in-value, x_in-below, y_in-below}

-- The bytes that carry words, from a number of 64 bits.

byte_at-quotient : (i n : ℕ) → byte_at i n ≡ n / 256 ^ i % 256
byte_at-quotient zero n = ap (λ m. m % 256) (sym (div-one n))
byte_at-quotient (suc i) n = refl

-- the lowest bytes of a number, whose higher part has no weight
bytes_of_value : (places high : ℕ) (bytes : List ℕ) → All (λ b. b < 256) bytes → length bytes ≡ places →
    bytes_high_first places (high * 256 ^ places + value_of 256 places bytes) ≡ bytes
unfolding value_of
bytes_of_value zero _ [] _ _ = refl
bytes_of_value (suc places) high (byte ∷ bytes) all len =
    let byte_fits : byte < 256 = All-head (λ b. b < 256) byte bytes all in
    let others = All-tail (λ b. b < 256) byte bytes all in
    let rest = value_of-below 256 places bytes (omega arith) others in
    let rest_len : length bytes ≡ places = omega arith in
    let higher = high * 256 + byte in
    let split : high * 256 ^ suc places + (byte * 256 ^ places + value_of 256 places bytes) ≡ higher * 256 ^ places + value_of 256 places bytes
    = rw pow-suc (omega arith) in
    rw (
      split,
      byte_at-quotient places (higher * 256 ^ places + value_of 256 places bytes),
      div-mul-add higher (256 ^ places) (value_of 256 places bytes) rest,
      mod-mul-add high 256 byte byte_fits,
      bytes_of_value places higher bytes others rest_len,
    )
bytes_of_value _ high bytes all len = absurd (omega arith)

-- bytes have the value of their words plus that of the mark in each
value_of-operand_bytes : (places : ℕ) (words : List ℕ) → length words ≡ places →
    value_of 256 places (operand_bytes words) ≡ value_of 256 places (replicate places 64) + value_of 256 places words
unfolding value_of
value_of-operand_bytes zero [] _ = refl
value_of-operand_bytes (suc places) (word ∷ words) len =
    let rest = value_of-operand_bytes places words (omega arith) in
    omega arith
value_of-operand_bytes _ _ len = absurd (omega arith)

marks : value_of 256 8 (replicate 8 64) ≡ 0x4040_4040_4040_4040
unfolding value_of
marks = refl

each_below : (bytes : List ℕ) → All (λ b. b < 256) bytes → (i : ℕ) → get_or bytes i 0 < 256
each_below [] _ i = omega arith
each_below (byte ∷ bytes) all zero = All-head (λ b. b < 256) byte bytes all
each_below (byte ∷ bytes) all (suc i) = each_below bytes (All-tail (λ b. b < 256) byte bytes all) i

swapped : (n : ℕ) → swap_bytes w64 n ≡ from_le_bytes w64 (to_be_bytes w64 n)
swapped = omega arith

pub bytes_of_words : (n : ℕ) → HoldsWords n → to_le_bytes w64 (swap_bytes w64 (0x4040_4040_4040_4040 + n)) ≡ operand_bytes (words_in n)
unfolding words_in
bytes_of_words n words =
    let ws = words_in n in
    let below : All (λ b. b < 256) (operand_bytes ws) =
    All-map (λ b. b < 256) (λ word. 64 + word) ws (omega arith) in
    let len : length (operand_bytes ws) ≡ 8 = length-map ws (λ word. 64 + word) ∙ length-words_in n words in
    let is : value_of 256 8 ws ≡ n = value_of-digits_of 256 8 n (omega arith) (omega (arith, packed_fits n words)) in
    let value = value_of-operand_bytes 8 ws (length-words_in n words) in
    let number : 0x4040_4040_4040_4040 + n ≡ 0 * 256 ^ 8 + value_of 256 8 (operand_bytes ws) = omega (arith, is, value, marks) in
    let high_first : to_be_bytes w64 (0x4040_4040_4040_4040 + n) ≡ operand_bytes ws =
    ap (bytes_high_first 8) number ∙ bytes_of_value 8 0 (operand_bytes ws) below len in
    le_bytes_8 (operand_bytes ws) (swap_bytes w64 (0x4040_4040_4040_4040 + n)) len (each_below (operand_bytes ws) below)
    (swapped (0x4040_4040_4040_4040 + n) ∙ ap (from_le_bytes w64) high_first)

-- the words of a number are those of its x and y
pub words_of_point : (n : ℕ) → HoldsWords n → (x y : ℕ) → x_in n ≡ x → y_in n ≡ y → words_in n ≡ words_of_pairs (digits_of 8 8 x) (digits_of 8 8 y)
unfolding x_in y_in
words_of_point n words x y x_is y_is =
    pair_words-values _ words (length-words_in n words)
    ∙ ap₂ (λ u v. words_of_pairs (digits_of 8 8 u) (digits_of 8 8 v)) x_is y_is

pub words_of_move : (n : ℕ) → HoldsWords n → (x y : ℤ) → signed_of (x_in n) ≡ x → signed_of (y_in n) ≡ y →
    words_in n ≡ words_of_pairs (digits_of 8 8 (bits_of x)) (digits_of 8 8 (bits_of y))
words_of_move n words x y x_is y_is =
    words_of_point n words (bits_of x) (bits_of y)
    (sym (bits_of-signed_of (x_in n) (x_in-below n words)) ∙ ap bits_of x_is)
    (sym (bits_of-signed_of (y_in n) (y_in-below n words)) ∙ ap bits_of y_is)

-- Fewer words than eight, with zeros in place of those that are missing.

-- the first words of a number
module _ (words : List ℕ) (all : All IsWord words) (few : length words ≤ 8) where
  abbrev missing : ℕ
  missing = 8 - length words

  whole_words : All IsWord (words ++ replicate missing 0)
  whole_words = All-append IsWord words (replicate missing 0) all (All-replicate IsWord missing 0 (omega arith))

  pub words_in_run : words_in (value_of 256 8 words) ≡ words ++ replicate missing 0
  words_in_run =
      ap words_in (sym (value_of-append-zeros 256 8 words missing))
      ∙ words_in-value (words ++ replicate missing 0) whole_words
      (length-append words (replicate missing 0) ∙ ap (λ n. length words + n) (length-replicate missing 0) ∙ omega arith)

  pub run_holds : HoldsWords (value_of 256 8 words)
  run_holds = rw words_in_run whole_words

-- Eight bytes are read at once as one number, and a mask keeps the words that the first of them carry.

bytes_at_once : (bytes : List ℕ) → length bytes ≡ 8 → from_be_bytes w64 bytes ≡ value_of 256 8 bytes
unfolding value_of
bytes_at_once (a ∷ b ∷ c ∷ d ∷ e ∷ f ∷ g ∷ h ∷ []) _ = omega arith
bytes_at_once _ len = absurd (omega arith)

module _ (count : ℕ) (bytes : List ℕ) (fit : (i : ℕ) → get_or bytes i 0 < 256) (len : length bytes ≡ 8) where
  abbrev words : List ℕ
  words = operand_words (take count bytes)

  abbrev kept : ℕ
  kept = bit_and (from_be_bytes w64 bytes) (value_of 256 8 (replicate count 63))

  all_words : All IsWord words
  all_words = All-map IsWord (λ byte. byte % 64) (take count bytes) (omega arith)

  few_words : length words ≤ 8
  few_words = omega (arith, length-map (take count bytes) (λ byte. byte % 64), length-take count bytes)

  kept_is : kept ≡ value_of 256 8 words
  kept_is =
      ap (λ n. bit_and n (value_of 256 8 (replicate count 63))) (bytes_at_once bytes len)
      ∙ masked_bytes 63 (omega arith) 8 count bytes (λ i d inside. subst (λ b. b < 256) (sym (get_or_default_zero bytes i d inside)) (fit i)) len
      ∙ ap (value_of 256 8) (map_same (λ b. bit_and b 63) (λ b. b % 64) (take count bytes)
      (λ i d inside. and_mask _ 6))

  pub kept_holds : HoldsWords kept
  kept_holds = subst HoldsWords (sym kept_is) (run_holds words all_words few_words)

  pub kept_run : words_in kept ≡ words ++ replicate (8 - length words) 0
  kept_run = ap words_in kept_is ∙ words_in_run words all_words few_words

  pub kept_spells : multi_of (words_in kept) ≡ multi_of words
  kept_spells = ap multi_of kept_run ∙ (missing_words_are_zero words (8 - length words)).0

  -- a mask of all eight words keeps those of all bytes
  pub kept_all : count ≡ 8 → words_in kept ≡ operand_words bytes
  kept_all whole =
      let all : take count bytes ≡ bytes = take_all count bytes (omega arith) in
      let none : 8 - length words ≡ 0 = omega (arith, length-map (take count bytes) (λ byte. byte % 64), ap length all) in
      kept_run ∙ ap (λ n. words ++ replicate n 0) none ∙ append-nil words ∙ ap operand_words all

-- zero bytes carry zero words
pub zero_bytes : (bytes : List ℕ) (missing : ℕ) → operand_words (bytes ++ replicate missing 0) ≡ operand_words bytes ++ replicate missing 0
zero_bytes bytes missing =
    map-append _ bytes (replicate missing 0) ∙ ap (λ ws. operand_words bytes ++ ws) (map-replicate _ missing 0)

-- Eight bytes are an operand without missing words.
pub eight_bytes : (run : List ℕ) → length run ≡ 8 →
    operand_words (slice_index run 0 ∷ slice_index run 1 ∷ slice_index run 2 ∷ slice_index run 3 ∷ slice_index run 4 ∷ slice_index run 5 ∷ slice_index run 6 ∷ slice_index run 7 ∷ []) ≡ operand_words run ++ replicate (8 - length run) 0
eight_bytes (a ∷ b ∷ c ∷ d ∷ e ∷ f ∷ g ∷ h ∷ []) _ = refl
eight_bytes _ is = absurd (omega arith)

-- The first words of a run, with zeros in place of those that are missing.

abbrev pub padded : ℕ → List ℕ → List ℕ
padded places run = take places run ++ replicate (places - length run) 0

-- words after the last place don't count
padded-value : (base places : ℕ) (digit : ℕ → ℕ) (run : List ℕ) → value_of base places (map digit (take places run)) ≡ value_of base places (map digit run)
padded-value base places digit run =
    ap (value_of base places) (sym (take-map digit places run)) ∙ value_of-take base places places (map digit run) (omega arith)

pub multi_of-padded : (run : List ℕ) → multi_of (padded 8 run) ≡ multi_of run
unfolding multi_of
multi_of-padded run =
    (missing_words_are_zero (take 8 run) (8 - length run)).0
    ∙ rw (padded-value 8 8 x_digit run, padded-value 8 8 y_digit run)

pub colour_of-padded : (run : List ℕ) → colour_of (padded 8 run) ≡ colour_of run
unfolding colour_of
colour_of-padded run =
    (missing_words_are_zero _ (8 - length run)).2
    ∙ rw (padded-value 4 8 g_digit run, padded-value 4 8 r_digit run, padded-value 4 8 b_digit run)

pub single_of-padded : (bytes run : List ℕ) → operand_words bytes ≡ padded 8 run → single_of (operand_words (take 4 bytes)) ≡ single_of run
unfolding single_of
single_of-padded bytes run is =
    ap (value_of 64 4) (sym (take-map _ 4 bytes))
    ∙ value_of-take 64 4 4 _ (omega arith)
    ∙ ap (value_of 64 4) is
    ∙ (missing_words_are_zero _ (8 - length run)).1
    ∙ value_of-take 64 4 8 run (omega arith)
