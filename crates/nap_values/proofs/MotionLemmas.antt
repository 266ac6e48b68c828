use Rattle.nap_values.proofs.{All, All-head, All-map, All-tail, Coordinates, HoldsWords, IsInSquare, List, Some, [], ap, ap₂, arith, bit_and, digits_of, displaced_point, length, length-map, map, multi_of, packed_coordinates, point_at, point_with, refl, replicate, signed_of, subst, suc, sym, value_of, words_in, x_digit, x_in, y_digit, y_in, zero, ℕ, ◌%◌, ◌*◌, ◌+◌, ◌-◌, ◌/◌, ◌<◌, ◌^◌, ◌∙◌, ◌∷◌, ◌≡◌, ◌≤◌}
use Rattle.nap_values.proofs.WordLemmas.{crossed-parts, length-words_in, packed_coordinates-parts, packed_coordinates-words, spelled_back, sum_point, x_digits-below, x_in-below, x_in-packed_coordinates, x_masked, x_part, y_digits-below, y_in-below, y_in-packed_coordinates, y_masked, y_part, zero_words}
use Rattle.nap_values.proofs.DigitLemmas.{bytes_sum, digits_sum, masked, sum-digits, value_of-scaled}

-- Sums and differences of the numbers that words hold, in 24 bits.

-- a sum whose other bits are masked out is the sum of the digits
module _ (low pad : ℕ) (within : 3 + low ≤ 8) (byte : (sum carry : ℕ) → sum < 15 → carry < 2 →
    ((sum * 2 ^ low + pad + carry) / 256 ≡ (sum + carry) / 8) × ((sum * 2 ^ low + pad + carry) % 256 / 2 ^ low % 8 ≡ (sum + carry) % 8)) where
  pub masked-sum : (ds es : List ℕ) (carry : ℕ) → length ds ≡ 8 → length es ≡ 8 →
      All (λ d. d < 8) ds → All (λ d. d < 8) es → carry < 2 →
      bit_and (bytes_sum (2 ^ low) pad byte 8 ds es carry % 256 ^ 8) (value_of 256 8 (replicate 8 (2 ^ (3 + low) - 2 ^ low)))
      ≡ value_of 256 8 (digits_of 8 8 (digits_sum (2 ^ low) pad byte 8 ds es carry % 8 ^ 8)) * 2 ^ low
  masked-sum ds es carry ds_len es_len ds_fit es_fit small =
      let sum = bytes_sum (2 ^ low) pad byte 8 ds es carry % 256 ^ 8 in
      masked 8 3 low within 8 sum
      ∙ value_of-scaled 256 8 (2 ^ low) (λ d. (d / 2 ^ low % 8) * 2 ^ low) (λ d. d / 2 ^ low % 8) (digits_of 256 8 sum)
      (λ i d inside. refl)
      ∙ ap (λ digits. value_of 256 8 digits * 2 ^ low) (sum-digits (2 ^ low) pad byte ds es carry ds_len es_len ds_fit es_fit small)

x_byte : (sum carry : ℕ) → sum < 15 → carry < 2 →
    ((sum * 2 ^ 3 + 199 + carry) / 256 ≡ (sum + carry) / 8) × ((sum * 2 ^ 3 + 199 + carry) % 256 / 2 ^ 3 % 8 ≡ (sum + carry) % 8)
x_byte = omega arith

y_byte : (sum carry : ℕ) → sum < 15 → carry < 2 →
    ((sum * 2 ^ 0 + 248 + carry) / 256 ≡ (sum + carry) / 8) × ((sum * 2 ^ 0 + 248 + carry) % 256 / 2 ^ 0 % 8 ≡ (sum + carry) % 8)
y_byte = omega arith

-- the digits whose sum with these is 7 each
abbrev complements : List ℕ → List ℕ
complements digits = map (λ d. 7 - d) digits

complements-below : (digits : List ℕ) → All (λ d. d < 8) (complements digits)
complements-below digits = All-map (λ d. d < 8) _ digits (omega arith)

complements-value : (base places : ℕ) (digits : List ℕ) → length digits ≡ places → All (λ d. d < 8) digits →
    value_of base places (complements digits) + value_of base places digits ≡ value_of base places (replicate places 7)
unfolding value_of
complements-value _ zero _ _ _ = refl
complements-value base (suc places) (d ∷ ds) len fit =
    let d_fits : d < 8 = All-head (λ d. d < 8) d ds fit in
    let rest = complements-value base places ds (omega arith) (All-tail (λ d. d < 8) d ds fit) in
    let first : 7 - d + d ≡ 7 = omega arith in
    omega (arith, ap (λ n. n * base ^ places) first)
complements-value base (suc places) [] len fit = absurd (omega arith)

-- numbers that hold words
module _ (m n : ℕ) (m_words : HoldsWords m) (n_words : HoldsWords n) where
  abbrev xs : ℕ → List ℕ
  xs k = map x_digit (words_in k)

  abbrev ys : ℕ → List ℕ
  ys k = map y_digit (words_in k)

  len : (digit : ℕ → ℕ) (k : ℕ) → HoldsWords k → length (map digit (words_in k)) ≡ 8
  len digit k words = length-map (words_in k) digit ∙ length-words_in k words

  pub x_added : x_part ((x_part m + 0xC7C7_C7C7_C7C7_C7C7 + x_part n) % 2 ^ 64)
      ≡ value_of 256 8 (digits_of 8 8 ((x_in m + x_in n) % 16777216)) * 8
  unfolding x_in value_of
  x_added =
      let whole : x_part m + 0xC7C7_C7C7_C7C7_C7C7 + x_part n ≡ bytes_sum 8 199 x_byte 8 (xs m) (xs n) 0 =
      omega (arith, x_masked m m_words, x_masked n n_words) in
      let digits : digits_sum 8 199 x_byte 8 (xs m) (xs n) 0 ≡ x_in m + x_in n = omega arith in
      ap (λ k. x_part (k % 2 ^ 64)) whole
      ∙ masked-sum 3 199 (omega arith) x_byte (xs m) (xs n) 0 (len x_digit m m_words) (len x_digit n n_words) (x_digits-below (words_in m) m_words) (x_digits-below (words_in n) n_words) (omega arith)
      ∙ ap (λ k. value_of 256 8 (digits_of 8 8 (k % 16777216)) * 8) digits

  pub y_added : y_part ((y_part m + 0xF8F8_F8F8_F8F8_F8F8 + y_part n) % 2 ^ 64)
      ≡ value_of 256 8 (digits_of 8 8 ((y_in m + y_in n) % 16777216))
  unfolding y_in value_of
  y_added =
      let whole : y_part m + 0xF8F8_F8F8_F8F8_F8F8 + y_part n ≡ bytes_sum 1 248 y_byte 8 (ys m) (ys n) 0 =
      omega (arith, y_masked m m_words, y_masked n n_words) in
      let digits : digits_sum 1 248 y_byte 8 (ys m) (ys n) 0 ≡ y_in m + y_in n = omega arith in
      ap (λ k. y_part (k % 2 ^ 64)) whole
      ∙ masked-sum 0 248 (omega arith) y_byte (ys m) (ys n) 0 (len y_digit m m_words) (len y_digit n n_words) (y_digits-below (words_in m) m_words) (y_digits-below (words_in n) n_words) (omega arith)
      ∙ ap (λ k. value_of 256 8 (digits_of 8 8 (k % 16777216)) * 1) digits
      ∙ omega arith

  x_taken : x_part ((x_part m + (2 ^ 64 - x_part n)) % 2 ^ 64)
      ≡ value_of 256 8 (digits_of 8 8 ((x_in m + (16777216 - x_in n)) % 16777216)) * 8
  unfolding x_in value_of
  x_taken =
      let in_bytes = complements-value 256 8 (xs n) (len x_digit n n_words) (x_digits-below (words_in n) n_words) in
      let in_digits = complements-value 8 8 (xs n) (len x_digit n n_words) (x_digits-below (words_in n) n_words) in
      let whole : x_part m + (2 ^ 64 - x_part n)
      ≡ bytes_sum 8 199 x_byte 8 (xs m) (complements (xs n)) 1 = omega (arith, in_bytes, x_masked m m_words, x_masked n n_words) in
      let digits : digits_sum 8 199 x_byte 8 (xs m) (complements (xs n)) 1 ≡ x_in m + (16777216 - x_in n) = omega (arith, in_digits) in
      ap (λ k. x_part (k % 2 ^ 64)) whole
      ∙ masked-sum 3 199 (omega arith) x_byte (xs m) (complements (xs n)) 1
      (len x_digit m m_words) (length-map (xs n) (λ d. 7 - d) ∙ len x_digit n n_words) (x_digits-below (words_in m) m_words) (complements-below (xs n)) (omega arith)
      ∙ ap (λ k. value_of 256 8 (digits_of 8 8 (k % 16777216)) * 8) digits

  y_taken : y_part ((y_part m + (2 ^ 64 - y_part n)) % 2 ^ 64)
      ≡ value_of 256 8 (digits_of 8 8 ((y_in m + (16777216 - y_in n)) % 16777216))
  unfolding y_in value_of
  y_taken =
      let in_bytes = complements-value 256 8 (ys n) (len y_digit n n_words) (y_digits-below (words_in n) n_words) in
      let in_digits = complements-value 8 8 (ys n) (len y_digit n n_words) (y_digits-below (words_in n) n_words) in
      let whole : y_part m + (2 ^ 64 - y_part n)
      ≡ bytes_sum 1 248 y_byte 8 (ys m) (complements (ys n)) 1 = omega (arith, in_bytes, y_masked m m_words, y_masked n n_words) in
      let digits : digits_sum 1 248 y_byte 8 (ys m) (complements (ys n)) 1 ≡ y_in m + (16777216 - y_in n) = omega (arith, in_digits) in
      ap (λ k. y_part (k % 2 ^ 64)) whole
      ∙ masked-sum 0 248 (omega arith) y_byte (ys m) (complements (ys n)) 1
      (len y_digit m m_words) (length-map (ys n) (λ d. 7 - d) ∙ len y_digit n n_words) (y_digits-below (words_in m) m_words) (complements-below (ys n)) (omega arith)
      ∙ ap (λ k. value_of 256 8 (digits_of 8 8 (k % 16777216)) * 1) digits
      ∙ omega arith

  pub added-parts : x_part ((x_part m + 0xC7C7_C7C7_C7C7_C7C7 + x_part n) % 2 ^ 64)
      + y_part ((y_part m + 0xF8F8_F8F8_F8F8_F8F8 + y_part n) % 2 ^ 64)
      ≡ packed_coordinates ((x_in m + x_in n) % 16777216) ((y_in m + y_in n) % 16777216)
  added-parts = ap₂ (λ x y. x + y) x_added y_added ∙ sym (packed_coordinates-parts ((x_in m + x_in n) % 16777216) ((y_in m + y_in n) % 16777216))

  pub taken-parts : x_part ((x_part m + (2 ^ 64 - x_part n)) % 2 ^ 64)
      + y_part ((y_part m + (2 ^ 64 - y_part n)) % 2 ^ 64)
      ≡ packed_coordinates ((x_in m + (16777216 - x_in n)) % 16777216) ((y_in m + (16777216 - y_in n)) % 16777216)
  taken-parts =
      ap₂ (λ x y. x + y) x_taken y_taken
      ∙ sym (packed_coordinates-parts ((x_in m + (16777216 - x_in n)) % 16777216) ((y_in m + (16777216 - y_in n)) % 16777216))

-- two numbers, of which the low 24 bits are kept
module _ (x y : ℕ) where
  pub kept-words : HoldsWords (packed_coordinates (x % 16777216) (y % 16777216))
  kept-words = packed_coordinates-words (x % 16777216) (y % 16777216) (omega arith) (omega arith)

  pub kept-x : x_in (packed_coordinates (x % 16777216) (y % 16777216)) ≡ x % 16777216
  kept-x = x_in-packed_coordinates (x % 16777216) (y % 16777216) (omega arith) (omega arith)

  pub kept-y : y_in (packed_coordinates (x % 16777216) (y % 16777216)) ≡ y % 16777216
  kept-y = y_in-packed_coordinates (x % 16777216) (y % 16777216) (omega arith) (omega arith)

-- The digits of x and those of y, stored apart, each advance by the words of a displacement.

pub x_alone : (x : ℕ) → value_of 256 8 (digits_of 8 8 x) * 8 ≡ packed_coordinates x 0
unfolding value_of digits_of
x_alone x = omega arith ∙ sym (packed_coordinates-parts x 0)

y_alone : (y : ℕ) → value_of 256 8 (digits_of 8 8 y) ≡ packed_coordinates 0 y
unfolding value_of digits_of
y_alone y = omega arith ∙ sym (packed_coordinates-parts 0 y)

-- a mask keeps one of the two numbers that words hold
module _ (n : ℕ) (words : HoldsWords n) where
  pub x_kept : x_part n ≡ packed_coordinates (x_in n) 0
  unfolding value_of digits_of words_in y_in
  x_kept = omega (arith, crossed-parts n 0 words zero_words)

  pub y_kept : y_part n ≡ packed_coordinates 0 (y_in n)
  unfolding value_of digits_of words_in x_in
  y_kept = omega (arith, crossed-parts 0 n zero_words words)

  pub x_kept-words : HoldsWords (x_part n)
  x_kept-words = subst HoldsWords (sym x_kept) (packed_coordinates-words (x_in n) 0 (x_in-below n words) (omega arith))

  pub y_kept-words : HoldsWords (y_part n)
  y_kept-words = subst HoldsWords (sym y_kept) (packed_coordinates-words 0 (y_in n) (omega arith) (y_in-below n words))

-- a number that holds one coordinate is advanced by the words of another number
module _ (apart n : ℕ) (apart_words : HoldsWords apart) (words : HoldsWords n) where
  pub x_advanced : packed_coordinates (x_in apart) 0 ≡ apart →
      x_part ((apart + (x_part n + 0xC7C7_C7C7_C7C7_C7C7)) % 2 ^ 64)
      ≡ packed_coordinates ((x_in apart + x_in n) % 16777216) 0
  x_advanced alone =
      let whole : apart + (x_part n + 0xC7C7_C7C7_C7C7_C7C7) ≡ x_part apart + 0xC7C7_C7C7_C7C7_C7C7 + x_part n =
      omega (arith, x_kept apart apart_words, alone) in
      ap (λ k. x_part (k % 2 ^ 64)) whole
      ∙ x_added apart n apart_words words
      ∙ x_alone ((x_in apart + x_in n) % 16777216)

  pub y_advanced : packed_coordinates 0 (y_in apart) ≡ apart →
      y_part ((apart + (y_part n + 0xF8F8_F8F8_F8F8_F8F8)) % 2 ^ 64)
      ≡ packed_coordinates 0 ((y_in apart + y_in n) % 16777216)
  y_advanced alone =
      let whole : apart + (y_part n + 0xF8F8_F8F8_F8F8_F8F8) ≡ y_part apart + 0xF8F8_F8F8_F8F8_F8F8 + y_part n =
      omega (arith, y_kept apart apart_words, alone) in
      ap (λ k. y_part (k % 2 ^ 64)) whole
      ∙ y_added apart n apart_words words
      ∙ y_alone ((y_in apart + y_in n) % 16777216)

-- the number of 24 bits that digits of x alone stand for
module _ (a x : ℕ) (fits : a < 16777216) (is : x ≡ packed_coordinates a 0) where
  pub x_words : HoldsWords x
  x_words = subst HoldsWords (sym is) (packed_coordinates-words a 0 fits (omega arith))

  pub x_value : x_in x ≡ a
  x_value = ap x_in is ∙ x_in-packed_coordinates a 0 fits (omega arith)

  pub x_again : packed_coordinates (x_in x) 0 ≡ x
  x_again = ap (λ k. packed_coordinates k 0) x_value ∙ sym is

-- the number of 24 bits that digits of y alone stand for
module _ (b y : ℕ) (fits : b < 16777216) (is : y ≡ packed_coordinates 0 b) where
  pub y_words : HoldsWords y
  y_words = subst HoldsWords (sym is) (packed_coordinates-words 0 b (omega arith) fits)

  pub y_value : y_in y ≡ b
  y_value = ap y_in is ∙ y_in-packed_coordinates 0 b (omega arith) fits

  pub y_again : packed_coordinates 0 (y_in y) ≡ y
  y_again = ap (packed_coordinates 0) y_value ∙ sym is

-- the words of digits of x and digits of y that are stored apart
module _ (a b x y words : ℕ) (a_fits : a < 16777216) (b_fits : b < 16777216)
    (x_is : x ≡ packed_coordinates a 0) (y_is : y ≡ packed_coordinates 0 b) (is : words ≡ packed_coordinates (x_in x) (y_in y)) where
  words_are : words ≡ packed_coordinates a b
  words_are = is ∙ ap₂ packed_coordinates (x_value a x a_fits x_is) (y_value b y b_fits y_is)

  pub joined_words : HoldsWords words
  joined_words = subst HoldsWords (sym words_are) (packed_coordinates-words a b a_fits b_fits)

  pub x_joined : x_in words ≡ a
  x_joined = ap x_in words_are ∙ x_in-packed_coordinates a b a_fits b_fits

  pub y_joined : y_in words ≡ b
  y_joined = ap y_in words_are ∙ y_in-packed_coordinates a b a_fits b_fits

  -- if the words spell a point, both numbers have its coordinates
  pub result_at : (p : Coordinates) → point_at (multi_of (words_in words)) ≡ Some p → (x_in x ≡ p.x) × (y_in y ≡ p.y) × IsInSquare p
  result_at p spelled =
      let back = spelled_back words joined_words p spelled in (
        x_value a x a_fits x_is ∙ sym x_joined ∙ back.0,
        y_value b y b_fits y_is ∙ sym y_joined ∙ back.1,
        back.2,
      )

-- the point that words spell if they are the sums of stored digits and a displacement's words
module _ (x y step x_on y_on words : ℕ) (x_below : x_in x < 8388608) (y_below : y_in y < 8388608) (holds : HoldsWords step)
    (x_is : x_on ≡ packed_coordinates ((x_in x + x_in step) % 16777216) 0) (y_is : y_on ≡ packed_coordinates 0 ((y_in y + y_in step) % 16777216))
    (is : words ≡ packed_coordinates (x_in x_on) (y_in y_on)) where
  pub result_is : point_at (multi_of (words_in words)) ≡ displaced_point (record { x = x_in x; y = y_in y }) (record { x = signed_of (x_in step); y = signed_of (y_in step) })
  unfolding point_at multi_of displaced_point x_in y_in
  result_is =
      ap₂ (λ a b. point_with (signed_of a) (signed_of b))
      (x_joined _ _ x_on y_on words (omega arith) (omega arith) x_is y_is is)
      (y_joined _ _ x_on y_on words (omega arith) (omega arith) x_is y_is is)
      ∙ sum_point (x_in x) (y_in y) (x_in step) (y_in step) x_below y_below (x_in-below step holds) (y_in-below step holds)
