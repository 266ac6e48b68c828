use Rattle.nap_values.proofs.{All, All-cons, All-head, All-nil, DigitLemmas.Eight, DigitLemmas.each_of_eight, DigitLemmas.low_bits, DigitLemmas.value_of-below, DigitLemmas.value_of-digits_of, [], add-mul, and_block, and_le_r, and_mask, ap, ap₂, arith, bit_and, bit_or, digits_of, mod-eq_of_lt, mod-mul-add, mul-add-lt, mul-le-mul_left, mul-lt-mul_of_pos_right, mul-mod_left, mul_assoc, mul_right_comm, or_block, or_lt, or_mod, or_zero_r, pow-add, pow-le-pow_right, pow_pos, refl, replicate, shl_whole, sym, value_of, zero-add, zero-mul, ℕ, ◌%◌, ◌*◌, ◌+◌, ◌-◌, ◌/◌, ◌<◌, ◌^◌, ◌∙◌, ◌∷◌, ◌≡◌, ◌≤◌}

-- Eight digits in base 8, one to a byte, become one number.

-- the lowest bits of each of four digits
pub lower_of_four : (bits : ℕ) → bits ≤ 16 → (a b c d : ℕ) → a < 65536 → b < 65536 → c < 65536 → d < 65536 →
    bit_and (((a * 65536 + b) * 65536 + c) * 65536 + d) (value_of 65536 4 (replicate 4 (2 ^ bits - 1)))
    ≡ ((a % 2 ^ bits * 65536 + b % 2 ^ bits) * 65536 + c % 2 ^ bits) * 65536 + d % 2 ^ bits
unfolding value_of
lower_of_four bits within a b c d a_fits b_fits c_fits d_fits =
    let digits = a ∷ b ∷ c ∷ d ∷ [] in
    let fit : All (λ k. k < 65536) digits =
    All-cons (λ k. k < 65536) a (b ∷ c ∷ d ∷ []) a_fits (All-cons (λ k. k < 65536) b (c ∷ d ∷ []) b_fits
    (All-cons (λ k. k < 65536) c (d ∷ []) c_fits (All-cons (λ k. k < 65536) d [] d_fits (All-nil (λ k. k < 65536))))) in
    let whole : ((a * 65536 + b) * 65536 + c) * 65536 + d ≡ value_of 65536 4 digits = omega arith in
    ap (λ n. bit_and n (value_of 65536 4 (replicate 4 (2 ^ bits - 1)))) whole
    ∙ low_bits 16 bits 4 digits within fit refl
    ∙ omega arith

-- the lowest bits of each of two digits
pub lower_of_two : (bits : ℕ) → bits ≤ 32 → (a b : ℕ) → a < 4294967296 → b < 4294967296 →
    bit_and (a * 4294967296 + b) (value_of 4294967296 2 (replicate 2 (2 ^ bits - 1))) ≡ a % 2 ^ bits * 4294967296 + b % 2 ^ bits
unfolding value_of
lower_of_two bits within a b a_fits b_fits =
    let digits = a ∷ b ∷ [] in
    let fit : All (λ k. k < 4294967296) digits =
    All-cons (λ k. k < 4294967296) a (b ∷ []) a_fits (All-cons (λ k. k < 4294967296) b [] b_fits (All-nil (λ k. k < 4294967296))) in
    let whole : a * 4294967296 + b ≡ value_of 4294967296 2 digits = omega arith in
    ap (λ n. bit_and n (value_of 4294967296 2 (replicate 2 (2 ^ bits - 1)))) whole
    ∙ low_bits 32 bits 2 digits within fit refl
    ∙ omega arith

abbrev pub pairs_of : ℕ → ℕ
pairs_of n = n - bit_and (n / 256) 0x00FF_00FF_00FF_00FF * 248

abbrev pub quads_of : ℕ → ℕ
quads_of n = n - bit_and (n / 65536) 0x0000_FFFF_0000_FFFF * 65472

-- Eight digits in base 8, one to a byte, become four numbers of 6 bits, then two of 12 bits, then one of 24 bits.
module _ (a b c d e f g h : ℕ) (fits : Eight (λ d. d < 8) a b c d e f g h) where
  abbrev bytes : ℕ
  bytes = value_of 256 8 (a ∷ b ∷ c ∷ d ∷ e ∷ f ∷ g ∷ h ∷ [])

  abbrev upper_bytes : ℕ
  upper_bytes = ((a * 65536 + c) * 65536 + e) * 65536 + g

  abbrev pairs : ℕ
  pairs = (((a * 8 + b) * 65536 + (c * 8 + d)) * 65536 + (e * 8 + f)) * 65536 + (g * 8 + h)

  abbrev upper_pairs : ℕ
  upper_pairs = (a * 8 + b) * 4294967296 + (e * 8 + f)

  abbrev quads : ℕ
  quads = ((a * 8 + b) * 64 + (c * 8 + d)) * 4294967296 + ((e * 8 + f) * 64 + (g * 8 + h))

  upper_bytes_are : bit_and (bytes / 256) 0x00FF_00FF_00FF_00FF ≡ upper_bytes
  unfolding value_of
  upper_bytes_are =
      let moved : bytes / 256 ≡ ((a * 65536 + (b * 256 + c)) * 65536 + (d * 256 + e)) * 65536 + (f * 256 + g) = omega arith in
      ap (λ n. bit_and n 0x00FF_00FF_00FF_00FF) moved
      ∙ lower_of_four 8 (omega arith) a (b * 256 + c) (d * 256 + e) (f * 256 + g) (omega arith) (omega arith) (omega arith) (omega arith)
      ∙ omega arith

  bytes_split : bytes ≡ upper_bytes * 248 + pairs
  unfolding value_of
  bytes_split = omega arith

  upper_pairs_are : bit_and (pairs / 65536) 0x0000_FFFF_0000_FFFF ≡ upper_pairs
  unfolding value_of
  upper_pairs_are =
      let moved : pairs / 65536 ≡ (a * 8 + b) * 4294967296 + ((c * 8 + d) * 65536 + (e * 8 + f)) = omega arith in
      ap (λ n. bit_and n 0x0000_FFFF_0000_FFFF) moved
      ∙ lower_of_two 16 (omega arith) (a * 8 + b) ((c * 8 + d) * 65536 + (e * 8 + f)) (omega arith) (omega arith)
      ∙ omega arith

  pairs_split : pairs ≡ upper_pairs * 65472 + quads
  pairs_split = omega arith

  quads_split : quads ≡ quads / 4294967296 * 4294963200 + value_of 8 8 (a ∷ b ∷ c ∷ d ∷ e ∷ f ∷ g ∷ h ∷ [])
  unfolding value_of
  quads_split = omega arith

  -- the result of the three steps for these digits
  collected-digits : quads_of (pairs_of bytes) - quads_of (pairs_of bytes) / 4294967296 * 4294963200 ≡ value_of 8 8 (a ∷ b ∷ c ∷ d ∷ e ∷ f ∷ g ∷ h ∷ [])
  collected-digits =
      let is_two : pairs_of bytes ≡ pairs = omega (arith, upper_bytes_are, bytes_split) in
      let is_four : quads_of (pairs_of bytes) ≡ quads = ap quads_of is_two ∙ omega (arith, upper_pairs_are, pairs_split) in
      ap (λ m. m - m / 4294967296 * 4294963200) is_four ∙ omega (arith, quads_split)

-- a number whose digits are below a base is below that base times the unit of its first digit
pub below_base : (base n : ℕ) → All (λ d. d < base) (digits_of 256 8 n) → n < base * 256 ^ 7
unfolding digits_of
below_base base n fit =
    let top : n / 256 ^ 7 < base = All-head (λ d. d < base) _ (digits_of 256 7 _) fit in
    omega (arith, top)

-- the three steps give the number with these digits
module _ (n : ℕ) (fit : All (λ d. d < 8) (digits_of 256 8 n)) where
  pub collects : quads_of (pairs_of n) - quads_of (pairs_of n) / 4294967296 * 4294963200 ≡ value_of 8 8 (digits_of 256 8 n)
  unfolding digits_of
  collects =
      ap (λ m. quads_of (pairs_of m) - quads_of (pairs_of m) / 4294967296 * 4294963200) (sym (value_of-digits_of 256 8 n (omega arith) (omega (arith, below_base 8 n fit))))
      ∙ collected-digits _ _ _ _ _ _ _ _ (each_of_eight (λ d. d < 8) _ _ _ _ _ _ _ _ fit)

  pub collects-below : quads_of (pairs_of n) - quads_of (pairs_of n) / 4294967296 * 4294963200 < 4294967296
  collects-below = omega (arith, collects, value_of-below 8 8 (digits_of 256 8 n) (omega arith) fit)

-- Eight digits in base 8 are spread from one number, one to a byte.

-- the bits of a number and of its copy shifted up by `gap`, as far as a mask keeps them
abbrev pub parted : ℕ → ℕ → ℕ → ℕ
parted gap mask n = bit_and (bit_or n (n * 2 ^ gap)) mask

scaled_block : (a b u v : ℕ) → (a * u + b) * v ≡ (a * v) * u + b * v
scaled_block a b u v = add-mul (a * u) b v ∙ ap (λ m. m + b * v) (mul_right_comm a u v)

below_moved : (b gap width : ℕ) → b * 2 ^ gap < 2 ^ width → b < 2 ^ width
below_moved b gap width in_limit = omega (arith, mul-le-mul_left b (pow_pos gap))

-- two numbers side by side are each parted
parted-lanes : (width gap mask a b : ℕ) → b * 2 ^ gap < 2 ^ width → mask < 2 ^ width →
    parted gap (mask * 2 ^ width + mask) (a * 2 ^ width + b) ≡ parted gap mask a * 2 ^ width + parted gap mask b
parted-lanes width gap mask a b in_limit mask_bound =
    let own = below_moved b gap width in_limit in
    rw (
      scaled_block a b (2 ^ width) _,
      or_block width a (a * 2 ^ gap) b _ own in_limit,
      and_block width _ mask _ mask (or_lt width b _ own in_limit) mask_bound,
    )

or_above : (k high a b : ℕ) → a < 2 ^ k → b < 2 ^ k → bit_or a (high * 2 ^ k + b) ≡ high * 2 ^ k + bit_or a b
or_above k high a b a_bound b_bound = simp (zero-mul, zero-add) at (or_block k 0 high a b a_bound b_bound)

-- two fields of `bits` bits are parted by the gap
module _ (bits gap high low : ℕ) (high_fits : high < 2 ^ bits) (low_fits : low < 2 ^ bits) (apart : bits ≤ gap) where
  whole : 2 ^ (bits + gap) ≡ 2 ^ bits * 2 ^ gap
  whole = pow-add 2 bits gap

  abbrev both : ℕ
  both = bit_or (high * 2 ^ bits + low) (low * 2 ^ gap)

  low_bound : low * 2 ^ gap < 2 ^ (bits + gap)
  low_bound = rw whole (mul-lt-mul_of_pos_right low_fits (pow_pos gap))

  own_bound : high * 2 ^ bits + low < 2 ^ (bits + gap)
  own_bound =
      let least : 2 ^ bits * 2 ^ bits ≤ 2 ^ bits * 2 ^ gap = mul-le-mul_left (2 ^ bits) (pow-le-pow_right (omega arith) apart) in
      omega (arith, mul-add-lt high (2 ^ bits) low (2 ^ bits) high_fits low_fits, least, whole)

  moved_high : (high * 2 ^ bits + low) * 2 ^ gap ≡ high * 2 ^ (bits + gap) + low * 2 ^ gap
  moved_high = rw whole (add-mul (high * 2 ^ bits) low (2 ^ gap) ∙ ap (λ m. m + low * 2 ^ gap) (mul_assoc high (2 ^ bits) (2 ^ gap)))

  low_moved_away : low * 2 ^ gap % 2 ^ bits ≡ 0
  low_moved_away =
      let steps : gap ≡ gap - bits + bits = omega arith in
      let split : 2 ^ gap ≡ 2 ^ (gap - bits) * 2 ^ bits = ap (λ k. 2 ^ k) steps ∙ pow-add 2 (gap - bits) bits in
      rw (split, sym (mul_assoc low (2 ^ (gap - bits)) (2 ^ bits))) (mul-mod_left (low * 2 ^ (gap - bits)) (2 ^ bits))

  low_part : both % 2 ^ bits ≡ low
  low_part =
      or_mod (high * 2 ^ bits + low) (low * 2 ^ gap) bits
      ∙ rw (mod-mul-add high (2 ^ bits) low low_fits, low_moved_away) (or_zero_r low)

  mask_bound : 2 ^ bits - 1 < 2 ^ (bits + gap)
  mask_bound =
      let larger : bits ≤ bits + gap = omega arith in
      let least : 2 ^ bits ≤ 2 ^ (bits + gap) = pow-le-pow_right (omega arith) larger in
      omega (arith, least, pow_pos bits)

  joined : bit_or (high * 2 ^ bits + low) ((high * 2 ^ bits + low) * 2 ^ gap) ≡ high * 2 ^ (bits + gap) + both
  joined =
      ap (bit_or (high * 2 ^ bits + low)) moved_high
      ∙ or_above (bits + gap) high (high * 2 ^ bits + low) (low * 2 ^ gap) own_bound low_bound

  parted-fields : parted gap ((2 ^ bits - 1) * 2 ^ (bits + gap) + (2 ^ bits - 1)) (high * 2 ^ bits + low) ≡ high * 2 ^ (bits + gap) + low
  parted-fields =
      rw (
        joined,
        and_block (bits + gap) high (2 ^ bits - 1) both (2 ^ bits - 1) (or_lt (bits + gap) _ _ own_bound low_bound) mask_bound,
        and_mask high bits,
        and_mask both bits,
        low_part,
        mod-eq_of_lt high_fits,
      )

-- four digits in a number of 12 bits, each moved to a byte of its own
spread_half : (a b c d : ℕ) → (a < 8) × (b < 8) × (c < 8) × (d < 8) →
    parted 5 0x0707_0707 (parted 10 0x003F_003F ((a * 8 + b) * 64 + (c * 8 + d))) ≡ (a * 256 + b) * 65536 + (c * 256 + d)
spread_half a b c d fits =
    ap (parted 5 0x0707_0707) (parted-fields 6 10 (a * 8 + b) _ (omega arith) (omega arith) (omega arith))
    ∙ parted-lanes 16 5 0x0707 _ (c * 8 + d) (omega arith) (omega arith)
    ∙ ap₂ (λ x y. x * 65536 + y) (parted-fields 3 5 a b fits.0 fits.1 (omega arith)) (parted-fields 3 5 c d fits.2 fits.3 (omega arith))

-- two numbers of 12 bits side by side are each spread
spread_halves : (u v : ℕ) → v < 4096 → parted 5 0x0707_0707_0707_0707 (parted 10 0x003F_003F_003F_003F (u * 4294967296 + v))
    ≡ parted 5 0x0707_0707 (parted 10 0x003F_003F u) * 4294967296 + parted 5 0x0707_0707 (parted 10 0x003F_003F v)
spread_halves u v v_fits =
    ap (parted 5 _) (parted-lanes 32 10 _ u v (omega arith) (omega arith))
    ∙ parted-lanes 32 5 _ (parted 10 _ u) (parted 10 _ v)
    (omega (arith, and_le_r (bit_or v (v * 2 ^ 10)) 0x003F_003F)) (omega arith)

-- eight digits in a number of 24 bits, each moved to a byte of its own
spread_digits : (a b c d e f g h : ℕ) → Eight (λ d. d < 8) a b c d e f g h →
    parted 5 0x0707_0707_0707_0707 (parted 10 0x003F_003F_003F_003F (parted 20 0x0000_0FFF_0000_0FFF
    (value_of 8 8 (a ∷ b ∷ c ∷ d ∷ e ∷ f ∷ g ∷ h ∷ []))))
    ≡ value_of 256 8 (a ∷ b ∷ c ∷ d ∷ e ∷ f ∷ g ∷ h ∷ [])
unfolding value_of
spread_digits a b c d e f g h fits =
    let upper = (a * 8 + b) * 64 + (c * 8 + d) in
    let lower = (e * 8 + f) * 64 + (g * 8 + h) in
    let whole : value_of 8 8 (a ∷ b ∷ c ∷ d ∷ e ∷ f ∷ g ∷ h ∷ []) ≡ upper * 4096 + lower = omega arith in
    let bytes : ((a * 256 + b) * 65536 + (c * 256 + d)) * 4294967296 + ((e * 256 + f) * 65536 + (g * 256 + h))
    ≡ value_of 256 8 (a ∷ b ∷ c ∷ d ∷ e ∷ f ∷ g ∷ h ∷ []) = omega arith in
    ap (λ n. parted 5 0x0707_0707_0707_0707 (parted 10 0x003F_003F_003F_003F n))
    (ap (parted 20 _) whole ∙ parted-fields 12 20 upper lower (omega arith) (omega arith) (omega arith))
    ∙ spread_halves upper lower (omega arith)
    ∙ ap₂ (λ x y. x * 4294967296 + y) (spread_half a b c d (omega arith)) (spread_half e f g h (omega arith))
    ∙ bytes

spread_parts : (n : ℕ) → n < 16777216 →
    parted 5 0x0707_0707_0707_0707 (parted 10 0x003F_003F_003F_003F (parted 20 0x0000_0FFF_0000_0FFF n)) ≡ value_of 256 8 (digits_of 8 8 n)
unfolding digits_of
spread_parts n fits =
    ap (λ m. parted 5 0x0707_0707_0707_0707 (parted 10 0x003F_003F_003F_003F (parted 20 0x0000_0FFF_0000_0FFF m)))
    (sym (value_of-digits_of 8 8 n (omega arith) fits))
    ∙ spread_digits _ _ _ _ _ _ _ _ (omega arith)

-- a number parted by a shift of 64 bits
abbrev pub shifted : ℕ → ℕ → ℕ → ℕ
shifted gap mask n = bit_and (bit_or n (n * 2 ^ gap % 2 ^ 64)) mask

shifted-whole : (size gap mask n : ℕ) → n < 2 ^ size → size + gap ≤ 64 → shifted gap mask n ≡ parted gap mask n
shifted-whole size gap mask n fits in_limit = rw (shl_whole n size gap 64 fits in_limit)

pub spread-digits_of : (n : ℕ) → n < 16777216 →
    shifted 5 0x0707_0707_0707_0707 (shifted 10 0x003F_003F_003F_003F (shifted 20 0x0000_0FFF_0000_0FFF n)) ≡ value_of 256 8 (digits_of 8 8 n)
spread-digits_of n fits =
    let halves = parted 20 0x0000_0FFF_0000_0FFF n in
    let quarters = parted 10 0x003F_003F_003F_003F halves in
    let halves_fit : halves ≤ 0x0000_0FFF_0000_0FFF = and_le_r (bit_or n (n * 2 ^ 20)) 0x0000_0FFF_0000_0FFF in
    let quarters_fit : quarters ≤ 0x003F_003F_003F_003F = and_le_r (bit_or halves (halves * 2 ^ 10)) 0x003F_003F_003F_003F in
    ap (λ m. shifted 5 0x0707_0707_0707_0707 (shifted 10 0x003F_003F_003F_003F m)) (shifted-whole 24 20 0x0000_0FFF_0000_0FFF n fits (omega arith))
    ∙ ap (shifted 5 0x0707_0707_0707_0707) (shifted-whole 44 10 0x003F_003F_003F_003F halves (omega (arith, halves_fit)) (omega arith))
    ∙ shifted-whole 54 5 0x0707_0707_0707_0707 quarters (omega (arith, quarters_fit)) (omega arith)
    ∙ spread_parts n fits
