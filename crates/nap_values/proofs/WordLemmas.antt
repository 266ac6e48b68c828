use Rattle.nap_values.proofs.{All, All-cons, All-head, All-map, All-nil, All-tail, Bool, Coordinates, HoldsWords, IsInSquare, IsOperandByte, IsWord, List, None, Some, [], and_block, and_shr, and_zero_r, ap, ap₂, arith, b_digit, bit_and, bits_of, colour_word, cond, digits_of, div-add-mod', false, g_digit, ints, is_some, length, length-map, map, multi_of, nat_eq, nat_lt, nat_tests, negsuc, operand_bytes, operand_words, packed_coordinates, point_at, point_with, pos, r_digit, refl, signed_of, subst, suc, sym, true, value_of, words_in, words_of, words_of_pairs, words_of_triples, x_digit, x_in, y_digit, y_in, zero, ℕ, ℤ, ◌%◌, ◌&&◌, ◌*◌, ◌+ℤ◌, ◌+◌, ◌-ℤ◌, ◌-◌, ◌/◌, ◌<ℤ◌, ◌<◌, ◌^◌, ◌∙◌, ◌∷◌, ◌≡◌, ◌≤ℤ◌}
use Rattle.nap_values.proofs.DigitLemmas.{digits_of-below, digits_of-value_of, length-digits_of, masked, value_of-below, value_of-digits_of, value_of-scaled}
use lib.Bits.{and_high}

-- Words: the digits that they hold, the numbers that hold eight of them, and the points that these spell.

-- signed numbers of 24 bits, and which of them are coordinates of a point

pub bits_of-signed_of : (n : ℕ) → n < 16777216 → bits_of (signed_of n) ≡ n
bits_of-signed_of = grind (arith, nat_tests)

pub signed_of-bits_of : (z : ℤ) → negsuc 8388607 ≤ℤ z → z <ℤ pos 8388608 → signed_of (bits_of z) ≡ z
signed_of-bits_of (pos n) low high = grind (arith, nat_tests)
signed_of-bits_of (negsuc n) low high = grind (arith, nat_tests)

pub bits_of-below : (z : ℤ) → negsuc 8388607 ≤ℤ z → z <ℤ pos 8388608 → bits_of z < 16777216
bits_of-below (pos n) low high = grind arith
bits_of-below (negsuc n) low high = grind arith

pub signed_of-low : (n : ℕ) → n < 16777216 → negsuc 8388607 ≤ℤ signed_of n
signed_of-low = grind (arith, nat_tests)

-- a point of the unit screen is the point with its coordinates
pub point_with-in_square : (p : Coordinates) → IsInSquare p → point_with (pos p.x) (pos p.y) ≡ Some p
point_with-in_square = grind (arith, nat_tests)

-- a value that is made only if a test passes
made_where : {A : Type 0} (b : Bool) (made x : A) → cond b (Some made) None ≡ Some x → (b ≡ true) × (made ≡ x)
made_where true made x is = (refl, cc)
made_where false made x is = absurd (cc)

tests_pass : (x y : ℕ) → (nat_lt x 8388608 && nat_lt y 8388608) ≡ true → (x < 8388608) × (y < 8388608)
tests_pass x y pass = (grind (arith, nat_tests), grind (arith, nat_tests))

-- the point with these coordinates is on the unit screen and has them
pub point_with-back : (x y : ℤ) (p : Coordinates) → point_with x y ≡ Some p → IsInSquare p × (x ≡ pos p.x) × (y ≡ pos p.y)
point_with-back (pos x) (pos y) p is =
    let made = made_where (nat_lt x 8388608 && nat_lt y 8388608) (record { x = x; y = y }) p is in
    let same_x : x ≡ p.x = ap (λ (q : Coordinates). q.x) made.1 in
    let same_y : y ≡ p.y = ap (λ (q : Coordinates). q.y) made.1 in
    let inside : (x < 8388608) × (y < 8388608) = tests_pass x y made.0 in
    ((omega arith, omega arith), ap pos same_x, ap pos same_y)
point_with-back (pos x) (negsuc y) p is = absurd (cc)
point_with-back (negsuc x) (pos y) p is = absurd (cc)
point_with-back (negsuc x) (negsuc y) p is = absurd (cc)

-- The bytes that carry words, and the digits that words hold.

pub words_of-operand_bytes : (words : List ℕ) → words_of (operand_bytes words) ≡ words
words_of-operand_bytes [] = refl
words_of-operand_bytes (word ∷ words) =
    let first : 64 + word - 64 ≡ word = omega arith in
    rw (first, words_of-operand_bytes words)

pub operand_bytes-operand_bytes : (words : List ℕ) → All IsWord words → All IsOperandByte (operand_bytes words)
operand_bytes-operand_bytes words all =
    All-map IsOperandByte (λ word. 64 + word) words
    (omega arith)

triple_digits : (g r b : ℕ) → g < 4 → r < 4 → b < 4 →
    (g_digit (colour_word g r b) ≡ g) × (r_digit (colour_word g r b) ≡ r) × (b_digit (colour_word g r b) ≡ b) × (colour_word g r b < 64)
triple_digits = omega arith

-- words of two digits of three bits

pub length-words_of_pairs : (xs ys : List ℕ) → length xs ≡ length ys → length (words_of_pairs xs ys) ≡ length xs
unfolding words_of_pairs
length-words_of_pairs [] ys same = refl
length-words_of_pairs (x ∷ xs) [] same = absurd (omega arith)
length-words_of_pairs (x ∷ xs) (y ∷ ys) same = ap suc (length-words_of_pairs xs ys (omega arith))

pub words_of_pairs-words : (xs ys : List ℕ) → All (λ d. d < 8) xs → All (λ d. d < 8) ys → All IsWord (words_of_pairs xs ys)
unfolding words_of_pairs
words_of_pairs-words (x ∷ xs) (y ∷ ys) all_x all_y =
    All-cons IsWord (8 * x + y) (words_of_pairs xs ys) (omega (arith, All-head (λ d. d < 8) x xs all_x, All-head (λ d. d < 8) y ys all_y))
    (words_of_pairs-words xs ys (All-tail (λ d. d < 8) x xs all_x) (All-tail (λ d. d < 8) y ys all_y))
words_of_pairs-words _ _ all_x all_y = All-nil IsWord

pub x_digits-words_of_pairs : (xs ys : List ℕ) → length xs ≡ length ys → All (λ d. d < 8) ys → map x_digit (words_of_pairs xs ys) ≡ xs
unfolding words_of_pairs
x_digits-words_of_pairs [] ys same all = refl
x_digits-words_of_pairs (x ∷ xs) [] same _ = absurd (omega arith)
x_digits-words_of_pairs (x ∷ xs) (y ∷ ys) same all =
    let first : (8 * x + y) / 8 ≡ x = omega (arith, All-head (λ d. d < 8) y ys all) in
    rw (first, x_digits-words_of_pairs xs ys (omega arith) (All-tail (λ d. d < 8) y ys all))

pub y_digits-words_of_pairs : (xs ys : List ℕ) → length xs ≡ length ys → All (λ d. d < 8) ys → map y_digit (words_of_pairs xs ys) ≡ ys
unfolding words_of_pairs
y_digits-words_of_pairs [] [] same all = refl
y_digits-words_of_pairs (x ∷ xs) (y ∷ ys) same all =
    let first : (8 * x + y) % 8 ≡ y = omega (arith, All-head (λ d. d < 8) y ys all) in
    rw (first, y_digits-words_of_pairs xs ys (omega arith) (All-tail (λ d. d < 8) y ys all))
y_digits-words_of_pairs xs _ same all = absurd (omega arith)

pub words_of_pairs-digits : (words : List ℕ) → words_of_pairs (map x_digit words) (map y_digit words) ≡ words
unfolding words_of_pairs
words_of_pairs-digits [] = refl
words_of_pairs-digits (word ∷ words) =
    let first : 8 * (word / 8) + word % 8 ≡ word = omega arith in
    rw (first, words_of_pairs-digits words)

pub x_digits-below : (words : List ℕ) → All IsWord words → All (λ d. d < 8) (map x_digit words)
x_digits-below words all =
    All-map (λ d. d < 8) x_digit words (omega arith)

pub y_digits-below : (words : List ℕ) → All IsWord words → All (λ d. d < 8) (map y_digit words)
y_digits-below words all =
    All-map (λ d. d < 8) y_digit words (omega arith)

-- words of three digits of two bits

pub length-words_of_triples : (gs rs bs : List ℕ) → length gs ≡ length rs → length gs ≡ length bs →
    length (words_of_triples gs rs bs) ≡ length gs
unfolding words_of_triples
length-words_of_triples [] rs bs same_r same_b = refl
length-words_of_triples (g ∷ gs) (r ∷ rs) (b ∷ bs) same_r same_b = ap suc (length-words_of_triples gs rs bs (omega arith) (omega arith))
length-words_of_triples gs rs bs same_r same_b = absurd (omega arith)

-- a list of digits of two bits
abbrev pub AreTwoBits : List ℕ → Type 0
AreTwoBits ds = All (λ d. d < 4) ds

pub words_of_triples-words : (gs rs bs : List ℕ) → AreTwoBits gs → AreTwoBits rs → AreTwoBits bs → All IsWord (words_of_triples gs rs bs)
unfolding words_of_triples
words_of_triples-words (g ∷ gs) (r ∷ rs) (b ∷ bs) all_g all_r all_b =
    All-cons IsWord (colour_word g r b) (words_of_triples gs rs bs)
    (triple_digits g r b (All-head (λ d. d < 4) g gs all_g) (All-head (λ d. d < 4) r rs all_r) (All-head (λ d. d < 4) b bs all_b)).3
    (words_of_triples-words gs rs bs (All-tail (λ d. d < 4) g gs all_g) (All-tail (λ d. d < 4) r rs all_r) (All-tail (λ d. d < 4) b bs all_b))
words_of_triples-words _ _ _ all_g all_r all_b = All-nil IsWord

-- the words of triples hold the digits that they are made of
pub digits-words_of_triples : (gs rs bs : List ℕ) → length gs ≡ length rs → length gs ≡ length bs → AreTwoBits gs → AreTwoBits rs → AreTwoBits bs →
    (map g_digit (words_of_triples gs rs bs) ≡ gs)
    × (map r_digit (words_of_triples gs rs bs) ≡ rs)
    × (map b_digit (words_of_triples gs rs bs) ≡ bs)
unfolding words_of_triples
digits-words_of_triples [] [] [] same_r same_b all_g all_r _ = (refl, refl, refl)
digits-words_of_triples (g ∷ gs) (r ∷ rs) (b ∷ bs) same_r same_b all_g all_r all_b =
    let first = triple_digits g r b (All-head (λ d. d < 4) g gs all_g) (All-head (λ d. d < 4) r rs all_r) (All-head (λ d. d < 4) b bs all_b) in
    let rest =
    digits-words_of_triples gs rs bs (omega arith) (omega arith) (All-tail (λ d. d < 4) g gs all_g) (All-tail (λ d. d < 4) r rs all_r) (All-tail (λ d. d < 4) b bs all_b) in
    (rw (first.0, rest.0), rw (first.1, rest.1), rw (first.2, rest.2))
digits-words_of_triples gs rs bs same_r same_b all_g all_r all_b = absurd (omega arith)

pub words_of_triples-digits : (words : List ℕ) → All IsWord words →
    words_of_triples (map g_digit words) (map r_digit words) (map b_digit words) ≡ words
unfolding words_of_triples
words_of_triples-digits [] all = refl
words_of_triples-digits (word ∷ words) all =
    let first : colour_word (g_digit word) (r_digit word) (b_digit word) ≡ word = omega (arith, All-head IsWord word words all) in
    rw (first, words_of_triples-digits words (All-tail IsWord word words all))

pub g_digits-below : (words : List ℕ) → All IsWord words → AreTwoBits (map g_digit words)
g_digits-below words all =
    All-map (λ d. d < 4) g_digit words (omega arith)

pub r_digits-below : (words : List ℕ) → All IsWord words → AreTwoBits (map r_digit words)
r_digits-below words all =
    All-map (λ d. d < 4) r_digit words (omega arith)

pub b_digits-below : (words : List ℕ) → All IsWord words → AreTwoBits (map b_digit words)
b_digits-below words all =
    All-map (λ d. d < 4) b_digit words (omega arith)

-- The eight words that a number holds, and the two numbers of 24 bits that they hold.

-- the digits of x, and those of y, that a number of 64 bits holds
abbrev pub x_part : ℕ → ℕ
x_part n = bit_and n 0x3838_3838_3838_3838

abbrev pub y_part : ℕ → ℕ
y_part n = bit_and n 0x0707_0707_0707_0707

-- eight words are those of their value
pub words_in-value : (words : List ℕ) → All IsWord words → length words ≡ 8 → words_in (value_of 256 8 words) ≡ words
unfolding words_in
words_in-value words all size =
    digits_of-value_of 256 8 words (omega arith) (omega arith) size

-- the words that hold two numbers of 24 bits
abbrev pub pair_words : ℕ → ℕ → List ℕ
pair_words x y = words_of_pairs (digits_of 8 8 x) (digits_of 8 8 y)

module _ (x y : ℕ) (x_fits : x < 16777216) (y_fits : y < 16777216) where
  same_length : length (digits_of 8 8 x) ≡ length (digits_of 8 8 y)
  same_length = length-digits_of 8 8 x ∙ sym (length-digits_of 8 8 y)

  pub length-pair_words : length (pair_words x y) ≡ 8
  length-pair_words = length-words_of_pairs (digits_of 8 8 x) (digits_of 8 8 y) same_length ∙ length-digits_of 8 8 x

  pub pair_words-words : All IsWord (pair_words x y)
  pair_words-words =
      words_of_pairs-words (digits_of 8 8 x) (digits_of 8 8 y) (digits_of-below 8 8 x (omega arith) x_fits) (digits_of-below 8 8 y (omega arith) y_fits)

  pub x_value-pair_words : value_of 8 8 (map x_digit (pair_words x y)) ≡ x
  x_value-pair_words =
      ap (value_of 8 8) (x_digits-words_of_pairs (digits_of 8 8 x) (digits_of 8 8 y) same_length (digits_of-below 8 8 y (omega arith) y_fits))
      ∙ value_of-digits_of 8 8 x (omega arith) x_fits

  pub y_value-pair_words : value_of 8 8 (map y_digit (pair_words x y)) ≡ y
  y_value-pair_words =
      ap (value_of 8 8) (y_digits-words_of_pairs (digits_of 8 8 x) (digits_of 8 8 y) same_length (digits_of-below 8 8 y (omega arith) y_fits))
      ∙ value_of-digits_of 8 8 y (omega arith) y_fits

  pub words_in-packed_coordinates : words_in (packed_coordinates x y) ≡ pair_words x y
  unfolding packed_coordinates
  words_in-packed_coordinates = words_in-value (pair_words x y) pair_words-words length-pair_words

  pub packed_coordinates-words : HoldsWords (packed_coordinates x y)
  packed_coordinates-words = rw words_in-packed_coordinates pair_words-words

  pub x_in-packed_coordinates : x_in (packed_coordinates x y) ≡ x
  unfolding x_in
  x_in-packed_coordinates = rw words_in-packed_coordinates x_value-pair_words

  pub y_in-packed_coordinates : y_in (packed_coordinates x y) ≡ y
  unfolding y_in
  y_in-packed_coordinates = rw words_in-packed_coordinates y_value-pair_words

-- eight words are those of their two numbers
pub pair_words-values : (words : List ℕ) → All IsWord words → length words ≡ 8 →
    words ≡ pair_words (value_of 8 8 (map x_digit words)) (value_of 8 8 (map y_digit words))
pair_words-values words all size =
    let xs = digits_of-value_of 8 8 (map x_digit words) (omega arith) (x_digits-below words all) (length-map words x_digit ∙ size) in
    let ys = digits_of-value_of 8 8 (map y_digit words) (omega arith) (y_digits-below words all) (length-map words y_digit ∙ size) in
    rw (xs, ys) (sym (words_of_pairs-digits words))

pub x_value-below : (words : List ℕ) → All IsWord words → value_of 8 8 (map x_digit words) < 16777216
x_value-below words all = value_of-below 8 8 (map x_digit words) (omega arith) (x_digits-below words all)

pub y_value-below : (words : List ℕ) → All IsWord words → value_of 8 8 (map y_digit words) < 16777216
y_value-below words all = value_of-below 8 8 (map y_digit words) (omega arith) (y_digits-below words all)

-- words of two digits side by side have the value of both
value_of-words_of_pairs : (places : ℕ) (xs ys : List ℕ) → length xs ≡ places → length ys ≡ places →
    value_of 256 places (words_of_pairs xs ys) ≡ value_of 256 places xs * 8 + value_of 256 places ys
unfolding value_of words_of_pairs
value_of-words_of_pairs zero [] [] len_x len_y = refl
value_of-words_of_pairs (suc places) (x ∷ xs) (y ∷ ys) len_x len_y =
    let rest = value_of-words_of_pairs places xs ys (omega arith) (omega arith) in
    omega (arith, rest)
value_of-words_of_pairs _ xs ys len_x len_y = absurd (omega arith)

-- a number's digits in base 8, one to a byte
pub packed_coordinates-parts : (x y : ℕ) → packed_coordinates x y ≡ value_of 256 8 (digits_of 8 8 x) * 8 + value_of 256 8 (digits_of 8 8 y)
unfolding packed_coordinates
packed_coordinates-parts x y = value_of-words_of_pairs 8 (digits_of 8 8 x) (digits_of 8 8 y) (length-digits_of 8 8 x) (length-digits_of 8 8 y)

-- a number that holds words
module _ (n : ℕ) (words : HoldsWords n) where
  pub length-words_in : length (words_in n) ≡ 8
  unfolding words_in
  length-words_in = length-digits_of 256 8 n

  pub packed_fits : n < 4611686018427387904
  unfolding words_in digits_of
  packed_fits =
      let top : n / 256 ^ 7 < 64 = All-head IsWord (n / 256 ^ 7) (digits_of 256 7 (n % 256 ^ 7)) words in
      omega (arith, top)

  pub value-words_in : value_of 256 8 (words_in n) ≡ n
  unfolding words_in
  value-words_in = value_of-digits_of 256 8 n (omega arith) (omega (arith, packed_fits))

  pub x_in-below : x_in n < 16777216
  unfolding x_in
  x_in-below = x_value-below (words_in n) words

  pub y_in-below : y_in n < 16777216
  unfolding y_in
  y_in-below = y_value-below (words_in n) words

  pub packed_coordinates-in : packed_coordinates (x_in n) (y_in n) ≡ n
  unfolding packed_coordinates x_in y_in
  packed_coordinates-in = ap (value_of 256 8) (sym (pair_words-values (words_in n) words length-words_in)) ∙ value-words_in

  -- the digits of x, and those of y, by themselves
  pub x_masked : x_part n ≡ value_of 256 8 (map x_digit (words_in n)) * 8
  unfolding words_in value_of
  x_masked =
      masked 8 3 3 (omega arith) 8 n
      ∙ value_of-scaled 256 8 8 (λ d. (d / 8 % 8) * 8) x_digit (words_in n)
      (omega arith)

  pub y_masked : y_part n ≡ value_of 256 8 (map y_digit (words_in n))
  unfolding words_in value_of
  y_masked =
      masked 8 3 0 (omega arith) 8 n
      ∙ value_of-scaled 256 8 1 (λ d. (d / 1 % 8) * 1) y_digit (words_in n)
      (omega arith)
      ∙ omega arith

  -- moved down by three bits, the digits of x are where those of y were
  pub x_moved : y_part (n / 8) ≡ value_of 256 8 (map x_digit (words_in n))
  x_moved =
      let down : x_part n / 8 ≡ y_part (n / 8) = and_shr n 0x3838_3838_3838_3838 3 in
      omega (arith, down, x_masked)

  digits_are : (digit : ℕ → ℕ) → All (λ d. d < 8) (map digit (words_in n)) → digits_of 256 8 (value_of 256 8 (map digit (words_in n))) ≡ map digit (words_in n)
  digits_are digit fit =
      digits_of-value_of 256 8 (map digit (words_in n)) (omega arith)
      (omega arith)
      (length-map (words_in n) digit ∙ length-words_in)

  pub x_digits_are : digits_of 256 8 (y_part (n / 8)) ≡ map x_digit (words_in n)
  x_digits_are = ap (digits_of 256 8) x_moved ∙ digits_are x_digit (x_digits-below (words_in n) words)

  pub y_digits_are : digits_of 256 8 (y_part n) ≡ map y_digit (words_in n)
  y_digits_are = ap (digits_of 256 8) y_masked ∙ digits_are y_digit (y_digits-below (words_in n) words)

-- the digits of x of one number with those of y of another
module _ (m n : ℕ) (m_words : HoldsWords m) (n_words : HoldsWords n) where
  pub crossed-parts : x_part m + y_part n ≡ packed_coordinates (x_in m) (y_in n)
  unfolding x_in y_in
  crossed-parts =
      let xs = digits_of-value_of 8 8 (map x_digit (words_in m)) (omega arith) (x_digits-below (words_in m) m_words)
      (length-map (words_in m) x_digit ∙ length-words_in m m_words) in
      let ys = digits_of-value_of 8 8 (map y_digit (words_in n)) (omega arith) (y_digits-below (words_in n) n_words)
      (length-map (words_in n) y_digit ∙ length-words_in n n_words) in
      ap₂ (λ x y. x + y) (x_masked m m_words) (y_masked n n_words)
      ∙ ap₂ (λ x y. value_of 256 8 x * 8 + value_of 256 8 y) (sym xs) (sym ys)
      ∙ sym (packed_coordinates-parts (x_in m) (y_in n))

  pub crossed-words : HoldsWords (x_part m + y_part n)
  crossed-words = subst HoldsWords (sym crossed-parts) (packed_coordinates-words (x_in m) (y_in n) (x_in-below m m_words) (y_in-below n n_words))

-- a displacement's words are those of its components
pub move_words : (n : ℕ) → HoldsWords n → packed_coordinates (bits_of (signed_of (x_in n))) (bits_of (signed_of (y_in n))) ≡ n
move_words n words = rw (bits_of-signed_of (x_in n) (x_in-below n words), bits_of-signed_of (y_in n) (y_in-below n words)) (packed_coordinates-in n words)

packed_zeros : packed_coordinates 0 0 ≡ 0
unfolding packed_coordinates value_of digits_of words_of_pairs
packed_zeros = refl

-- zero holds eight zero words
pub zero_words : HoldsWords 0
zero_words = subst HoldsWords packed_zeros (packed_coordinates-words 0 0 (omega arith) (omega arith))

-- The signs of both numbers that words hold.

-- the highest bits of both digits of a word
pub signs_of_word : (word : ℕ) → bit_and word 36 ≡ (word / 8 / 4 % 2) * 32 + (word % 8 / 4 % 2) * 4
signs_of_word word =
    let split : word / 8 * 8 + word % 8 ≡ word = div-add-mod' word 8 in
    ap (λ w. bit_and w 36) (sym split)
    ∙ and_block 3 (word / 8) 4 (word % 8) 4 (omega arith) (omega arith)
    ∙ ap₂ (λ x y. x * 8 + y) (and_high (word / 8) 1 2) (and_high _ 1 2)
    ∙ omega arith

module _ (n : ℕ) (words : HoldsWords n) where
  abbrev first : ℕ
  first = n / 256 ^ 7

  abbrev rest : ℕ
  rest = n % 256 ^ 7

  first_fits : first < 64
  unfolding words_in digits_of
  first_fits = All-head IsWord first (digits_of 256 7 rest) words

  rest_words : All IsWord (digits_of 256 7 rest)
  unfolding words_in digits_of
  rest_words = All-tail IsWord first (digits_of 256 7 rest) words

  signs_are : bit_and n 0x2400_0000_0000_0000 ≡ ((first / 8 / 4 % 2) * 32 + (first % 8 / 4 % 2) * 4) * 2 ^ 56
  signs_are =
      let split : first * 2 ^ 56 + rest ≡ n = div-add-mod' n (256 ^ 7) in
      ap (λ k. bit_and k 0x2400_0000_0000_0000) (sym split)
      ∙ and_block 56 first 36 rest 0 (omega arith) (omega arith)
      ∙ ap₂ (λ x y. x * 2 ^ 56 + y) (signs_of_word first) (and_zero_r rest)
      ∙ omega arith

  x_split : x_in n ≡ first / 8 * 2097152 + value_of 8 7 (map x_digit (digits_of 256 7 rest))
  unfolding x_in words_in digits_of value_of
  x_split = refl

  y_split : y_in n ≡ first % 8 * 2097152 + value_of 8 7 (map y_digit (digits_of 256 7 rest))
  unfolding y_in words_in digits_of value_of
  y_split = refl

  x_rest : value_of 8 7 (map x_digit (digits_of 256 7 rest)) < 2097152
  x_rest = value_of-below 8 7 (map x_digit (digits_of 256 7 rest)) (omega arith) (x_digits-below (digits_of 256 7 rest) rest_words)

  y_rest : value_of 8 7 (map y_digit (digits_of 256 7 rest)) < 2097152
  y_rest = value_of-below 8 7 (map y_digit (digits_of 256 7 rest)) (omega arith) (y_digits-below (digits_of 256 7 rest) rest_words)

  -- no sign is set where both numbers are below 2^23, and there alone
  pub signs_clear : x_in n < 8388608 → y_in n < 8388608 → bit_and n 0x2400_0000_0000_0000 ≡ 0
  signs_clear = omega (arith, signs_are, x_split, y_split, first_fits)

  pub clear_x : bit_and n 0x2400_0000_0000_0000 ≡ 0 → x_in n < 8388608
  clear_x = omega (arith, signs_are, x_split, x_rest, first_fits)

  pub clear_y : bit_and n 0x2400_0000_0000_0000 ≡ 0 → y_in n < 8388608
  clear_y = omega (arith, signs_are, y_split, y_rest, first_fits)

-- When the numbers that words hold are on the unit screen.

-- the point whose coordinates two numbers of 24 bits stand for
pub inside-signed : (x y : ℕ) → x < 8388608 → y < 8388608 → point_with (signed_of x) (signed_of y) ≡ Some (record { x = x; y = y })
inside-signed = grind (arith, nat_tests)

outside-signed : (x y : ℕ) → x < 16777216 → y < 16777216 → (x < 8388608 → y < 8388608 → ⊥) → point_with (signed_of x) (signed_of y) ≡ None
outside-signed = grind (arith, nat_tests)

pub spelled_inside : (n : ℕ) → x_in n < 8388608 → y_in n < 8388608 → point_at (multi_of (words_in n)) ≡ Some (record { x = x_in n; y = y_in n })
unfolding point_at multi_of x_in y_in
spelled_inside n x_below y_below = inside-signed (x_in n) (y_in n) x_below y_below

pub spelled_outside : (n : ℕ) → HoldsWords n → (x_in n < 8388608 → y_in n < 8388608 → ⊥) → point_at (multi_of (words_in n)) ≡ None
unfolding point_at multi_of x_in y_in
spelled_outside n words outside = outside-signed (x_in n) (y_in n) (x_in-below n words) (y_in-below n words) outside

-- words that spell a point have its coordinates
pub spelled_back : (n : ℕ) → HoldsWords n → (p : Coordinates) → point_at (multi_of (words_in n)) ≡ Some p → (x_in n ≡ p.x) × (y_in n ≡ p.y) × IsInSquare p
unfolding point_at multi_of x_in y_in
spelled_back n words p is =
    let back = point_with-back (signed_of (x_in n)) (signed_of (y_in n)) p is in (
      sym (bits_of-signed_of (x_in n) (x_in-below n words)) ∙ ap bits_of back.1,
      sym (bits_of-signed_of (y_in n) (y_in-below n words)) ∙ ap bits_of back.2,
      back.0,
    )

-- the low 24 bits of the sums stand for the point at the sums, or for none outside the unit screen
pub sum_point : (a b m n : ℕ) → a < 8388608 → b < 8388608 → m < 16777216 → n < 16777216 →
    point_with (signed_of ((a + m) % 16777216)) (signed_of ((b + n) % 16777216)) ≡ point_with (pos a +ℤ signed_of m) (pos b +ℤ signed_of n)
sum_point = grind (arith, nat_tests, ints)

-- the low 24 bits of the difference of two numbers below 2^23 stand for the displacement between them
pub way_is : (a b : ℕ) → a < 8388608 → b < 8388608 → signed_of ((b + (16777216 - a)) % 16777216) ≡ pos b -ℤ pos a
way_is = grind (arith, nat_tests, ints)

-- two signs of two numbers of 24 bits
signs_decide : (signs x y : ℕ) → x < 16777216 → y < 16777216 → signs ≡ x / 8388608 * 32 + y / 8388608 * 4 →
    nat_eq signs 0 ≡ is_some (point_with (signed_of x) (signed_of y))
signs_decide = grind (arith, nat_tests)

-- the first byte of an operand decides whether its point is on the unit screen
pub first_decides : (first : ℕ) (rest : List ℕ) → nat_eq (bit_and first 36) 0 ≡ is_some (point_at (multi_of (operand_words (first ∷ rest))))
unfolding point_at multi_of value_of
first_decides first rest =
    let words = operand_words rest in
    let all : All IsWord words = All-map IsWord (λ byte. byte % 64) rest (omega arith) in
    let x_rest : value_of 8 7 (map x_digit words) < 2097152 = value_of-below 8 7 (map x_digit words) (omega arith) (x_digits-below words all) in
    let y_rest : value_of 8 7 (map y_digit words) < 2097152 = value_of-below 8 7 (map y_digit words) (omega arith) (y_digits-below words all) in
    signs_decide (bit_and first 36)
    (first % 64 / 8 * 2097152 + value_of 8 7 (map x_digit words))
    (first % 64 % 8 * 2097152 + value_of 8 7 (map y_digit words))
    (omega (arith, x_rest)) (omega (arith, y_rest)) (omega (arith, x_rest, y_rest, signs_of_word first))
