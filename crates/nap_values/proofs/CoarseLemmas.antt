use Rattle.nap_values.proofs.{All, All-map, Coordinates, HoldsWords, IsInside, List, MotionLemmas.x_alone, Some, [], and_block, and_mask, and_shr, and_zero_r, ap, ap₂, arith, bit_and, bit_at, bit_at-zero, bit_at_and, bit_at_or, bit_or, coarse_part, coarse_point, coarse_words, digits_of, displaced_point, div-add-mod', from_be_bytes, get_or, is_clear, length, length-map, length-take-le, map, mod_below, multi_of, nat_tests, operand_words, or_comm, packed_coordinates, point_at, point_with, pos, refl, same_from_bits, signed_of, subst, sym, take, true, value_of, w32, with_high, words_in, x_digit, x_in, y_digit, y_in, ℕ, ◌%◌, ◌*◌, ◌+ℤ◌, ◌+◌, ◌/◌, ◌<◌, ◌^◌, ◌∙◌, ◌∷◌, ◌≡◌}
use Rattle.nap_values.proofs.WordLemmas.{inside-signed, length-words_in, packed_coordinates-parts, spelled_inside, sum_point, value-words_in, x_in-packed_coordinates, y_in-packed_coordinates}
use Rattle.nap_values.proofs.DigitLemmas.{Eight, all_eight, digits_of-below, digits_of-value_of, each_of_eight, length-digits_of, masked, value_of-digits_of}

-- The nine highest bits of two numbers, side by side as digits of x.

-- the bits of a byte that belong to x
abbrev pub kept : ℕ → ℕ
kept b = (b / 8 % 8) * 8

-- the bytes of a number of 24 bits, each masked
three_kept : (n : ℕ) → bit_and n 0x383838 ≡ kept (n / 65536) * 65536 + kept (n % 65536 / 256) * 256 + kept (n % 65536 % 256)
unfolding value_of digits_of
three_kept n = masked 8 3 3 (omega arith) 3 n ∙ omega arith

abbrev pub half : ℕ → ℕ
half n = (kept (n / 256 / 65536) * 65536 + kept (n / 256 % 65536 / 256) * 256 + kept (n / 256 % 65536 % 256)) * 256

half_kept : (n : ℕ) → bit_and n 0x38383800 ≡ half n
half_kept n =
    ap (λ m. bit_and m 0x38383800) (sym (div-add-mod' n 256))
    ∙ and_block 8 (n / 256) 0x383838 (n % 256) 0 (mod_below n 256 (omega arith)) (omega arith)
    ∙ ap₂ (λ a b. a * 256 + b) (three_kept (n / 256)) (and_zero_r (n % 256))
    ∙ omega arith

-- the bits that hold the nine highest ones of two numbers
abbrev coarse_bits : ℕ → ℕ
coarse_bits n = bit_and n 0x3838_3800_3838_3800

-- a mask of two halves keeps the parts of each
parts_kept : (n high low : ℕ) → low < 4294967296 → bit_and n (high * 4294967296 + low) ≡ bit_and (n / 4294967296) high * 4294967296 + bit_and (n % 4294967296) low
parts_kept n high low fits =
    ap (λ m. bit_and m _) (sym (div-add-mod' n 4294967296))
    ∙ and_block 32 (n / 4294967296) high (n % 4294967296) low (mod_below n 4294967296 (omega arith)) fits

pub coarse_kept : (n : ℕ) → coarse_bits n ≡ half (n / 4294967296) * 4294967296 + half (n % 4294967296)
coarse_kept n = parts_kept n 0x38383800 0x38383800 (omega arith) ∙ ap₂ (λ a b. a * 4294967296 + b) (half_kept (n / 4294967296)) (half_kept (n % 4294967296))

-- digits of x alone
packed_digits : (ds : List ℕ) → length ds ≡ 8 → All (λ d. d < 8) ds → packed_coordinates (value_of 8 8 ds) 0 ≡ value_of 256 8 ds * 8
packed_digits ds len fit = sym (x_alone (value_of 8 8 ds)) ∙ ap (λ xs. value_of 256 8 xs * 8) (digits_of-value_of 8 8 ds (omega arith) fit len)

half_of_digits : (a b c d : ℕ) → (a < 8) × (b < 8) × (c < 8) × (d < 8) → half ((a * 16777216 + b * 65536 + c * 256 + d) * 8) ≡ (a * 65536 + b * 256 + c) * 8 * 256
half_of_digits a b c d fits =
    let n = (a * 16777216 + b * 65536 + c * 256 + d) * 8 in
    let part : n / 256 ≡ a * 524288 + b * 2048 + c * 8 = omega arith in
    let first : a * 524288 + b * 2048 + c * 8 ≡ a * 8 * 65536 + (b * 8 * 256 + c * 8) = omega arith in
    let kept_first : kept (n / 256 / 65536) ≡ a * 8 = omega (arith, part) in
    let kept_second : kept (n / 256 % 65536 / 256) ≡ b * 8 = omega arith in
    let kept_third : kept (n / 256 % 65536 % 256) ≡ c * 8 = omega arith in
    rw (kept_first, kept_second, kept_third) (omega arith)

-- the digits of the nine highest bits
by_digits : (a b c d e f g h : ℕ) → All (λ d. d < 8) (a ∷ b ∷ c ∷ d ∷ e ∷ f ∷ g ∷ h ∷ []) →
    (coarse_bits (value_of 256 8 (a ∷ b ∷ c ∷ d ∷ e ∷ f ∷ g ∷ h ∷ []) * 8) ≡ value_of 256 8 (a ∷ b ∷ c ∷ 0 ∷ e ∷ f ∷ g ∷ 0 ∷ []) * 8)
    × (coarse_part (value_of 8 8 (a ∷ b ∷ c ∷ d ∷ e ∷ f ∷ g ∷ h ∷ [])) ≡ value_of 8 8 (a ∷ b ∷ c ∷ 0 ∷ e ∷ f ∷ g ∷ 0 ∷ []))
    × All (λ d. d < 8) (a ∷ b ∷ c ∷ 0 ∷ e ∷ f ∷ g ∷ 0 ∷ [])
unfolding value_of
by_digits a b c d e f g h fit =
    let fits = each_of_eight (λ d. d < 8) a b c d e f g h fit in
    let n = value_of 256 8 (a ∷ b ∷ c ∷ d ∷ e ∷ f ∷ g ∷ h ∷ []) * 8 in
    let high : n / 4294967296 ≡ (a * 16777216 + b * 65536 + c * 256 + d) * 8 = omega arith in
    let low : n % 4294967296 ≡ (e * 16777216 + f * 65536 + g * 256 + h) * 8 = omega arith in (
      coarse_kept n ∙ ap₂ (λ x y. half x * 4294967296 + half y) high low
          ∙ ap₂ (λ x y. x * 4294967296 + y) (half_of_digits a b c d (omega arith)) (half_of_digits e f g h (omega arith)) ∙ omega arith,
      omega arith,
      all_eight (λ d. d < 8) a b c 0 e f g 0 (omega arith),
    )

part_of_digits : (ds : List ℕ) → length ds ≡ 8 → All (λ d. d < 8) ds → coarse_bits (value_of 256 8 ds * 8) ≡ packed_coordinates (coarse_part (value_of 8 8 ds)) 0
part_of_digits (a ∷ b ∷ c ∷ d ∷ e ∷ f ∷ g ∷ h ∷ []) len fit =
    let (masked_is, part_is, fits) = by_digits a b c d e f g h fit in
    masked_is ∙ sym (packed_digits (a ∷ b ∷ c ∷ 0 ∷ e ∷ f ∷ g ∷ 0 ∷ []) refl fits) ∙ ap (λ n. packed_coordinates n 0) (sym part_is)
part_of_digits _ len fit = absurd (omega arith)

-- the nine highest bits that words hold
pub part_kept : (n : ℕ) → x_in n < 16777216 → packed_coordinates (x_in n) 0 ≡ n → coarse_bits n ≡ packed_coordinates (coarse_part (x_in n)) 0
part_kept n fits alone =
    let ds = digits_of 8 8 (x_in n) in
    ap coarse_bits (sym alone ∙ sym (x_alone (x_in n)))
    ∙ part_of_digits ds (length-digits_of 8 8 (x_in n)) (digits_of-below 8 8 (x_in n) (omega arith) fits)
    ∙ ap (λ m. packed_coordinates (coarse_part m) 0) (value_of-digits_of 8 8 (x_in n) (omega arith) fits)

-- four bytes as one number
four_bytes : (a b c d : ℕ) → from_be_bytes w32 (a ∷ b ∷ c ∷ d ∷ []) ≡ a * 16777216 + b * 65536 + c * 256 + d
four_bytes = omega arith

module _ (a b c d : ℕ) (fits : (a < 256) × (b < 256) × (c < 256) × (d < 256)) where
  abbrev bytes : ℕ
  bytes = a * 16777216 + b * 65536 + c * 256 + d

  half_x : half bytes ≡ (a / 8 % 8 * 65536 + b / 8 % 8 * 256 + c / 8 % 8) * 8 * 256
  half_x =
      let part : bytes / 256 ≡ a * 65536 + b * 256 + c = omega arith in
      let first : kept (bytes / 256 / 65536) ≡ a / 8 % 8 * 8 = omega (arith, part) in
      let second : kept (bytes / 256 % 65536 / 256) ≡ b / 8 % 8 * 8 = omega (arith, part) in
      let third : kept (bytes / 256 % 65536 % 256) ≡ c / 8 % 8 * 8 = omega (arith, part) in
      rw (first, second, third) (omega arith)

  half_y : half (bytes * 8 % 4294967296) ≡ (a % 8 * 65536 + b % 8 * 256 + c % 8) * 8 * 256
  half_y =
      let moved = bytes * 8 % 4294967296 in
      let part : moved / 256 ≡ a % 32 * 524288 + b * 2048 + c * 8 + d / 32 = omega arith in
      let first : kept (moved / 256 / 65536) ≡ a % 8 * 8 = omega (arith, part) in
      let second : kept (moved / 256 % 65536 / 256) ≡ b % 8 * 8 = omega (arith, part) in
      let third : kept (moved / 256 % 65536 % 256) ≡ c % 8 * 8 = omega (arith, part) in
      rw (first, second, third) (omega arith)

  digits : List ℕ
  digits = a % 8 ∷ b % 8 ∷ c % 8 ∷ 0 ∷ a / 8 % 8 ∷ b / 8 % 8 ∷ c / 8 % 8 ∷ 0 ∷ []

  digits_fit : All (λ d. d < 8) digits
  unfolding digits
  digits_fit = all_eight (λ d. d < 8) (a % 8) (b % 8) (c % 8) 0 (a / 8 % 8) (b / 8 % 8) (c / 8 % 8) 0 (omega arith)

  length-digits : length digits ≡ 8
  unfolding digits
  length-digits = refl

  whole_kept : coarse_bits (bytes * 34359738369 % 2 ^ 64) ≡ value_of 256 8 digits * 8
  unfolding value_of digits
  whole_kept =
      let n = bytes * 34359738369 % 2 ^ 64 in
      let high : n / 4294967296 ≡ bytes * 8 % 4294967296 = omega arith in
      let low : n % 4294967296 ≡ bytes = omega arith in
      coarse_kept n ∙ ap₂ (λ x y. half x * 4294967296 + half y) high low ∙ ap₂ (λ x y. x * 4294967296 + y) half_y half_x ∙ omega arith

  digits_are : value_of 8 8 digits ≡ coarse_words (operand_words (a ∷ b ∷ c ∷ []))
  unfolding value_of digits
  digits_are = omega arith

  bytes_kept : coarse_bits (bytes * 34359738369 % 2 ^ 64) ≡ packed_coordinates (coarse_words (operand_words (a ∷ b ∷ c ∷ []))) 0
  bytes_kept = whole_kept ∙ sym (packed_digits digits length-digits digits_fit) ∙ ap (λ n. packed_coordinates n 0) digits_are

  coarse_fits : coarse_words (operand_words (a ∷ b ∷ c ∷ [])) < 16777216
  unfolding value_of
  coarse_fits = omega arith

-- the nine highest bits that the first three of four bytes carry
pub block_kept : (block : List ℕ) → length block ≡ 4 → ((i : ℕ) → get_or block i 0 < 256) →
    (coarse_bits (from_be_bytes w32 block * 34359738369 % 2 ^ 64) ≡ packed_coordinates (coarse_words (operand_words (take 3 block))) 0)
    × (coarse_words (operand_words (take 3 block)) < 16777216)
block_kept (a ∷ b ∷ c ∷ d ∷ []) len fit = (
  ap (λ n. coarse_bits (n * 34359738369 % 2 ^ 64)) (four_bytes a b c d) ∙ bytes_kept a b c d (fit 0, fit 1, fit 2, fit 3),
  coarse_fits a b c d (fit 0, fit 1, fit 2, fit 3),
)
block_kept _ len _ = absurd (omega arith)

-- The nine highest bits of the numbers that eight words hold.

high_of_words : (ws : List ℕ) → length ws ≡ 8 → All (λ w. w < 64) ws →
    (coarse_bits (value_of 256 8 ws / 4294967296 * 34359738369 % 2 ^ 64)
    ≡ packed_coordinates (value_of 8 8 (map y_digit ws) / 32768 * 32768 + value_of 8 8 (map x_digit ws) / 32768 * 8) 0)
unfolding value_of
high_of_words (a ∷ b ∷ c ∷ d ∷ e ∷ f ∷ g ∷ h ∷ []) len fit =
    let fits = each_of_eight (λ d. d < 64) a b c d e f g h fit in
    let top : value_of 256 8 (a ∷ b ∷ c ∷ d ∷ e ∷ f ∷ g ∷ h ∷ []) / 4294967296 ≡ a * 16777216 + b * 65536 + c * 256 + d = omega arith in
    let y : value_of 8 8 (map y_digit (a ∷ b ∷ c ∷ d ∷ e ∷ f ∷ g ∷ h ∷ [])) / 32768 ≡ a % 8 * 64 + b % 8 * 8 + c % 8 = omega arith in
    let x : value_of 8 8 (map x_digit (a ∷ b ∷ c ∷ d ∷ e ∷ f ∷ g ∷ h ∷ [])) / 32768 ≡ a / 8 * 64 + b / 8 * 8 + c / 8 = omega arith in
    let same : coarse_words (operand_words (a ∷ b ∷ c ∷ [])) ≡ (a % 8 * 64 + b % 8 * 8 + c % 8) * 32768 + (a / 8 * 64 + b / 8 * 8 + c / 8) * 8 = omega arith in
    ap (λ n. coarse_bits (n * 34359738369 % 2 ^ 64)) top
    ∙ bytes_kept a b c d (omega arith)
    ∙ ap (λ n. packed_coordinates n 0) (same ∙ ap₂ (λ y x. y * 32768 + x * 8) (sym y) (sym x))
high_of_words _ len fit = absurd (omega arith)

pub high_kept : (n : ℕ) → HoldsWords n → coarse_bits (n / 4294967296 * 34359738369 % 2 ^ 64) ≡ packed_coordinates (y_in n / 32768 * 32768 + x_in n / 32768 * 8) 0
unfolding x_in y_in
high_kept n words =
    ap (λ m. coarse_bits (m / 4294967296 * 34359738369 % 2 ^ 64)) (sym (value-words_in n words))
    ∙ high_of_words (words_in n) (length-words_in n words) words

-- The words of two numbers whose nine highest bits are taken from others.

low_kept : (n : ℕ) → bit_and n 0x38383800 ≡ half (n % 4294967296)
low_kept n = parts_kept n 0 0x38383800 (omega arith) ∙ ap₂ (λ a b. a * 4294967296 + b) (and_zero_r (n / 4294967296)) (half_kept (n % 4294967296)) ∙ omega arith

upper_kept : (n : ℕ) → bit_and n 0x3838_3800_0000_0000 ≡ half (n / 4294967296) * 4294967296
upper_kept n = parts_kept n 0x38383800 0 (omega arith) ∙ ap₂ (λ a b. a * 4294967296 + b) (half_kept (n / 4294967296)) (and_zero_r (n % 4294967296)) ∙ omega arith

-- the number whose words are put together
abbrev joined : ℕ → ℕ → ℕ
joined n m = ((bit_and n 0x38383800 * 4294967296 % 2 ^ 64 + bit_and (n / 8) 0x0707_0700_0000_0000) % 2 ^ 64 + bit_and m 0xFF_FFFF_FFFF) % 2 ^ 64

module _ (a b c d e f g h : ℕ) (fits : Eight (λ d. d < 8) a b c d e f g h) where
  abbrev ds : List ℕ
  ds = a ∷ b ∷ c ∷ d ∷ e ∷ f ∷ g ∷ h ∷ []

  abbrev number : ℕ
  number = value_of 256 8 ds * 8

  joined_x : bit_and number 0x38383800 * 4294967296 % 2 ^ 64 ≡ (e * 65536 + f * 256 + g) * 8796093022208
  unfolding value_of
  joined_x =
      let low : number % 4294967296 ≡ (e * 16777216 + f * 65536 + g * 256 + h) * 8 = omega arith in
      let is : bit_and number 0x38383800 ≡ (e * 65536 + f * 256 + g) * 8 * 256 = low_kept number ∙ ap half low ∙ half_of_digits e f g h (omega arith) in
      omega (arith, is)

  joined_y : bit_and (number / 8) 0x0707_0700_0000_0000 ≡ (a * 65536 + b * 256 + c) * 1099511627776
  unfolding value_of
  joined_y =
      let high : number / 4294967296 ≡ (a * 16777216 + b * 65536 + c * 256 + d) * 8 = omega arith in
      let is : bit_and number 0x3838_3800_0000_0000 ≡ (a * 65536 + b * 256 + c) * 8 * 256 * 4294967296 =
      upper_kept number ∙ ap (λ m. half m * 4294967296) high ∙ ap (λ m. m * 4294967296) (half_of_digits a b c d (omega arith)) in
      let down : bit_and number 0x3838_3800_0000_0000 / 8 ≡ bit_and (number / 8) 0x0707_0700_0000_0000 = and_shr number 0x3838_3800_0000_0000 3 in
      omega (arith, is, down)

  module _ (q r s t u v w x : ℕ) (word_fits : Eight (λ w. w < 64) q r s t u v w x) where
    abbrev others : List ℕ
    others = q ∷ r ∷ s ∷ t ∷ u ∷ v ∷ w ∷ x ∷ []

    abbrev xs : List ℕ
    xs = e ∷ f ∷ g ∷ t / 8 ∷ u / 8 ∷ v / 8 ∷ w / 8 ∷ x / 8 ∷ []

    abbrev ys : List ℕ
    ys = a ∷ b ∷ c ∷ t % 8 ∷ u % 8 ∷ v % 8 ∷ w % 8 ∷ x % 8 ∷ []

    joined_low : bit_and (value_of 256 8 others) 0xFF_FFFF_FFFF ≡ t * 4294967296 + u * 16777216 + v * 65536 + w * 256 + x
    unfolding value_of
    joined_low = and_mask (value_of 256 8 others) 40 ∙ omega arith

    xs_fit : All (λ d. d < 8) xs
    xs_fit = all_eight (λ d. d < 8) e f g (t / 8) (u / 8) (v / 8) (w / 8) (x / 8) (omega arith)

    ys_fit : All (λ d. d < 8) ys
    ys_fit = all_eight (λ d. d < 8) a b c (t % 8) (u % 8) (v % 8) (w % 8) (x % 8) (omega arith)

    packed_pair : packed_coordinates (value_of 8 8 xs) (value_of 8 8 ys) ≡ value_of 256 8 xs * 8 + value_of 256 8 ys
    packed_pair =
        packed_coordinates-parts (value_of 8 8 xs) (value_of 8 8 ys)
        ∙ ap₂ (λ xs ys. value_of 256 8 xs * 8 + value_of 256 8 ys) (digits_of-value_of 8 8 xs (omega arith) xs_fit refl) (digits_of-value_of 8 8 ys (omega arith) ys_fit refl)

    joined_is : joined number (value_of 256 8 others) ≡ value_of 256 8 xs * 8 + value_of 256 8 ys
    unfolding value_of
    joined_is = omega (arith, joined_x, joined_y, joined_low)

    high_x : with_high (value_of 8 8 ds % 4096 / 8) (value_of 8 8 (map x_digit others)) ≡ value_of 8 8 xs
    unfolding value_of
    high_x = omega arith

    high_y : with_high (value_of 8 8 ds / 32768) (value_of 8 8 (map y_digit others)) ≡ value_of 8 8 ys
    unfolding value_of
    high_y = omega arith

    joined_pair : joined number (value_of 256 8 others)
        ≡ packed_coordinates (with_high (value_of 8 8 ds % 4096 / 8) (value_of 8 8 (map x_digit others)))
        (with_high (value_of 8 8 ds / 32768) (value_of 8 8 (map y_digit others)))
    joined_pair = joined_is ∙ sym packed_pair ∙ ap₂ packed_coordinates (sym high_x) (sym high_y)

joined_lists : (ds ws : List ℕ) → length ds ≡ 8 → length ws ≡ 8 → All (λ d. d < 8) ds → All (λ w. w < 64) ws →
    joined (value_of 256 8 ds * 8) (value_of 256 8 ws)
    ≡ packed_coordinates (with_high (value_of 8 8 ds % 4096 / 8) (value_of 8 8 (map x_digit ws))) (with_high (value_of 8 8 ds / 32768) (value_of 8 8 (map y_digit ws)))
joined_lists (a ∷ b ∷ c ∷ d ∷ e ∷ f ∷ g ∷ h ∷ []) (q ∷ r ∷ s ∷ t ∷ u ∷ v ∷ w ∷ x ∷ []) _ _ fit word_fit =
    let fits = each_of_eight (λ d. d < 8) a b c d e f g h fit in
    joined_pair a b c d e f g h fits q r s t u v w x (each_of_eight (λ w. w < 64) q r s t u v w x word_fit)
joined_lists (a ∷ b ∷ c ∷ d ∷ e ∷ f ∷ g ∷ h ∷ []) _ ds_len ws_len _ word_fit = absurd (omega arith)
joined_lists _ _ ds_len ws_len fit word_fit = absurd (omega arith)

pub joined_kept : (n m : ℕ) → x_in n < 16777216 → packed_coordinates (x_in n) 0 ≡ n → HoldsWords m →
    joined n m ≡ packed_coordinates (with_high (x_in n % 4096 / 8) (x_in m)) (with_high (x_in n / 32768) (y_in m))
unfolding x_in y_in
joined_kept n m fits alone words =
    let number = x_in n in
    let ds = digits_of 8 8 number in
    let back = value_of-digits_of 8 8 number (omega arith) fits in
    ap₂ joined (sym alone ∙ sym (x_alone number)) (sym (value-words_in m words))
    ∙ joined_lists ds (words_in m) (length-digits_of 8 8 number) (length-words_in m words) (digits_of-below 8 8 number (omega arith) fits) words
    ∙ ap (λ k. packed_coordinates (with_high (k % 4096 / 8) (x_in m)) (with_high (k / 32768) (y_in m))) back

-- A walk by the nine highest bits of its coordinates is a walk by displacements.

-- the signs
clear_left : (a b s : ℕ) → bit_and (bit_or a b) s ≡ 0 → bit_and a s ≡ 0
clear_left a b s none =
    same_from_bits _ 0
    (λ i. omega (arith, bit_at_and a s i, bit_at_and (bit_or a b) s i, bit_at_or a b i, bit_at-zero i, ap (λ n. bit_at n i) none))

clear_right : (a b s : ℕ) → bit_and (bit_or a b) s ≡ 0 → bit_and b s ≡ 0
clear_right a b s none = clear_left b a s (ap (λ n. bit_and n s) (or_comm b a) ∙ none)

none_of : (n : ℕ) → is_clear n ≡ true → bit_and n 0x2000_0000_2000_0000 ≡ 0
none_of = grind (arith, nat_tests)

pub clear_of : (n : ℕ) → bit_and n 0x2000_0000_2000_0000 ≡ 0 → is_clear n ≡ true
clear_of = grind (arith, nat_tests)

pub clear_before : (a b : ℕ) → is_clear (bit_or a b) ≡ true → is_clear a ≡ true
clear_before a b clear = clear_of a (clear_left a b 0x2000_0000_2000_0000 (none_of _ clear))

-- no bit of the mask is set
unset : (n s i : ℕ) → bit_and n s ≡ 0 → bit_at s i ≡ 1 → bit_at n i ≡ 0
unset n s i none one = omega (arith, bit_at_and n s i)

inside_digits : (ds : List ℕ) → length ds ≡ 8 → All (λ d. d < 8) ds → bit_at (value_of 256 8 ds * 8) 61 ≡ 0 → bit_at (value_of 256 8 ds * 8) 29 ≡ 0 → IsInside (value_of 8 8 ds)
unfolding value_of
inside_digits (a ∷ b ∷ c ∷ d ∷ e ∷ f ∷ g ∷ h ∷ []) len fit high low =
    let fits = each_of_eight (λ d. d < 8) a b c d e f g h fit in
    let (y_small, x_small) : (a < 4) × (e < 4) = omega arith in
    (omega arith, omega arith)
inside_digits _ len fit high low = absurd (omega arith)

module _ (n : ℕ) (fits : x_in n < 16777216) (alone : packed_coordinates (x_in n) 0 ≡ n) where
  pub inside_of : (seen : ℕ) → is_clear (bit_or seen n) ≡ true → IsInside (x_in n)
  inside_of seen clear =
      let none = clear_right seen n 0x2000_0000_2000_0000 (none_of (bit_or seen n) clear) in
      let ds = digits_of 8 8 (x_in n) in
      let is : n ≡ value_of 256 8 ds * 8 = sym alone ∙ sym (x_alone (x_in n)) in
      subst IsInside (value_of-digits_of 8 8 (x_in n) (omega arith) fits)
      (inside_digits ds (length-digits_of 8 8 (x_in n)) (digits_of-below 8 8 (x_in n) (omega arith) fits)
      (ap (λ m. bit_at m 61) (sym is) ∙ unset n 0x2000_0000_2000_0000 61 none refl) (ap (λ m. bit_at m 29) (sym is) ∙ unset n 0x2000_0000_2000_0000 29 none refl))

-- one coordinate, of which nine bits move
high_moved : (high low d : ℕ) → high < 256 → d < 512 → low < 32768 → (high * 32768 + low + d * 32768) % 16777216 ≡ (high + d) % 512 * 32768 + low
high_moved = omega arith

-- both numbers of nine bits move at once
module _ (x y dx dy : ℕ) (x_fits : x < 512) (y_fits : y < 512) (dx_fits : dx < 512) (dy_fits : dy < 512) where
  abbrev sum : ℕ
  sum = (y * 32768 + x * 8 + (dy * 32768 + dx * 8)) % 16777216

  sum_y : sum / 32768 ≡ (y + dy) % 512
  sum_y = omega arith

  sum_x : sum % 4096 / 8 ≡ (x + dx) % 512
  sum_x = omega arith

  -- the parts of the number that is kept
  pub kept_y : coarse_part sum / 32768 ≡ (y + dy) % 512
  kept_y = omega (arith, sum_y)

  pub kept_x : coarse_part sum % 4096 / 8 ≡ (x + dx) % 512
  kept_x = omega (arith, sum_x)

-- the words of an operand of three
three_words : (words : List ℕ) → length words ≡ 3 → All (λ word. word < 64) words →
    (value_of 8 8 (map x_digit words) ≡ value_of 8 3 (map x_digit words) * 32768) × (value_of 8 8 (map y_digit words) ≡ value_of 8 3 (map y_digit words) * 32768)
    × (value_of 8 3 (map x_digit words) < 512) × (value_of 8 3 (map y_digit words) < 512)
unfolding value_of
three_words (a ∷ b ∷ c ∷ []) len fit =
    let a_fits : a < 64 = fit 0 0 (omega arith) in
    let b_fits : b < 64 = fit 1 0 (omega arith) in
    let c_fits : c < 64 = fit 2 0 (omega arith) in
    (omega arith, omega arith, omega arith, omega arith)
three_words _ len _ = absurd (omega arith)

-- a displacement of three words leads to the point whose highest bits are those of the sum
module _ (n : ℕ) (start : Coordinates) (words : List ℕ) (fits : n < 16777216) (coarse : coarse_part n ≡ n) (inside : IsInside n)
    (len : length words ≡ 3) (fit : All (λ word. word < 64) words) where
  abbrev x : ℕ
  x = n % 4096 / 8

  abbrev y : ℕ
  y = n / 32768

  abbrev dx : ℕ
  dx = value_of 8 3 (map x_digit words)

  abbrev dy : ℕ
  dy = value_of 8 3 (map y_digit words)

  abbrev after : ℕ
  after = coarse_part ((n + coarse_words words) % 16777216)

  n_is : y * 32768 + x * 8 ≡ n
  n_is = coarse

  after_is : after ≡ coarse_part (sum x y dx dy (omega arith) (omega arith) (three_words words len fit).2 (three_words words len fit).3)
  after_is = ap (λ k. coarse_part ((k + coarse_words words) % 16777216)) (sym n_is)

  after_x : after % 4096 / 8 ≡ (x + dx) % 512
  after_x = ap (λ k. k % 4096 / 8) after_is ∙ kept_x x y dx dy (omega arith) (omega arith) (three_words words len fit).2 (three_words words len fit).3

  after_y : after / 32768 ≡ (y + dy) % 512
  after_y = ap (λ k. k / 32768) after_is ∙ kept_y x y dx dy (omega arith) (omega arith) (three_words words len fit).2 (three_words words len fit).3

  abbrev there : Coordinates
  there = coarse_point n start

  moved_x : (there.x + dx * 32768) % 16777216 ≡ (coarse_point after start).x
  moved_x = high_moved x (start.x % 32768) dx inside.0 (three_words words len fit).2 (omega arith) ∙ ap (λ k. k * 32768 + start.x % 32768) (sym after_x)

  moved_y : (there.y + dy * 32768) % 16777216 ≡ (coarse_point after start).y
  moved_y = high_moved y (start.y % 32768) dy inside.1 (three_words words len fit).3 (omega arith) ∙ ap (λ k. k * 32768 + start.y % 32768) (sym after_y)

  pub course_moves : IsInside after → displaced_point there (multi_of words) ≡ Some (coarse_point after start)
  unfolding displaced_point multi_of
  course_moves still =
      ap₂ (λ a b. point_with (pos there.x +ℤ signed_of a) (pos there.y +ℤ signed_of b)) (three_words words len fit).0 (three_words words len fit).1
      ∙ sym (sum_point there.x there.y (dx * 32768) (dy * 32768) (omega (arith, inside.0)) (omega (arith, inside.1)) (omega (arith, (three_words words len fit).2)) (omega (arith, (three_words words len fit).3)))
      ∙ ap₂ (λ a b. point_with (signed_of a) (signed_of b)) moved_x moved_y
      ∙ inside-signed (coarse_point after start).x (coarse_point after start).y (omega (arith, still.0)) (omega (arith, still.1))

-- the words of the first three bytes of a block
pub block_words : (block : List ℕ) → length block ≡ 4 → (length (operand_words (take 3 block)) ≡ 3) × All (λ word. word < 64) (operand_words (take 3 block))
block_words block len = (
  omega (arith, length-map (take 3 block) (λ byte. byte % 64), length-take-le 3 block (omega arith)),
  All-map (λ word. word < 64) (λ byte. byte % 64) (take 3 block) (omega arith),
)

-- the number that three words stand for has 24 bits
pub words_fit : (words : List ℕ) → length words ≡ 3 → All (λ word. word < 64) words → coarse_words words < 16777216
words_fit words len fit = omega (arith, (three_words words len fit).2, (three_words words len fit).3)

-- the point that words of these highest bits spell
pub spelled_there : (n words : ℕ) (start : Coordinates) → n < 16777216 → IsInside n → words ≡ packed_coordinates (coarse_point n start).x (coarse_point n start).y → point_at (multi_of (words_in words)) ≡ Some (coarse_point n start)
spelled_there n words start fits inside is =
    let there = coarse_point n start in
    let x_below : there.x < 8388608 = omega arith in
    let y_below : there.y < 8388608 = omega arith in
    let x : x_in words ≡ there.x = ap x_in is ∙ x_in-packed_coordinates there.x there.y (omega arith) (omega arith) in
    let y : y_in words ≡ there.y = ap y_in is ∙ y_in-packed_coordinates there.x there.y (omega arith) (omega arith) in
    spelled_inside words (omega (arith, x, x_below)) (omega (arith, y, y_below)) ∙ ap₂ (λ x y. Some (record { x = x; y = y })) x y
