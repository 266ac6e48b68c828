use Rattle.nap_values.proofs.{All, All-cons, All-head, All-nil, All-replicate, All-tail, List, [], add-one, and_block, and_shr, and_zero_r, ap, ap₂, arith, bit_and, digits_of, div-add-mod', div-mul-add, div-one, div_below, drop, drop-cons, drop_of_length-le, get_or, length, map, mod-lt, mod-mul-add, mod_below, mul-add-lt, mul-div_cancel, mul-le-mul_right, mul-zero, one-le-pow, pow-add, pow-le-pow_right, pow-suc, pow-succ', pow-zero, pow_pos, refl, replicate, suc, sym, take, value_of, zero, ℕ, ◌%◌, ◌*◌, ◌++◌, ◌+◌, ◌-◌, ◌/◌, ◌<◌, ◌^◌, ◌∙◌, ◌∷◌, ◌≡◌, ◌≤◌}
use lib.Bits.{and_high}

-- The digits of a number and their value: sums, loops over them, and masks that keep some of their bits.

pub length-digits_of : (base places n : ℕ) → length (digits_of base places n) ≡ places
unfolding digits_of
length-digits_of _ zero n = refl
length-digits_of base (suc places) n = ap suc (length-digits_of base places (n % base ^ places))

pub digits_of-below : (base places n : ℕ) → 0 < base → n < base ^ places → All (λ d. d < base) (digits_of base places n)
unfolding digits_of
digits_of-below base zero n pos fits = All-nil _
digits_of-below base (suc places) n pos fits =
    let unit_pos = one-le-pow places base pos in
    let first : n / base ^ places < base = div_below n (base ^ places) base unit_pos (rw pow-succ' at fits) in
    All-cons (λ d. d < base) _ (digits_of base places _) first
    (digits_of-below base places (n % base ^ places) pos (mod_below n (base ^ places) unit_pos))

pub value_of-below : (base places : ℕ) (digits : List ℕ) → 0 < base → All (λ d. d < base) digits → value_of base places digits < base ^ places
unfolding value_of
value_of-below base zero digits _ _ = omega (arith, pow-zero base)
value_of-below base (suc places) [] pos _ = one-le-pow (suc places) base pos
value_of-below base (suc places) (digit ∷ digits) pos all =
    let first : digit < base = All-head (λ d. d < base) digit digits all in
    let rest = value_of-below base places digits pos (All-tail (λ d. d < base) digit digits all) in
    rw pow-suc (mul-add-lt digit (base ^ places) _ base first rest)

-- a number below the base to the power `places` is the value of its digits
pub value_of-digits_of : (base places n : ℕ) → 0 < base → n < base ^ places → value_of base places (digits_of base places n) ≡ n
unfolding value_of digits_of
value_of-digits_of base zero n pos fits = omega (arith, pow-zero base)
value_of-digits_of base (suc places) n pos fits =
    rw (value_of-digits_of base places (n % base ^ places) pos (mod_below n (base ^ places) (one-le-pow places base pos)))
    (div-add-mod' n (base ^ places))

-- `places` digits are those of their value
pub digits_of-value_of : (base places : ℕ) (digits : List ℕ) → 0 < base → All (λ d. d < base) digits → length digits ≡ places →
    digits_of base places (value_of base places digits) ≡ digits
unfolding value_of digits_of
digits_of-value_of base zero [] _ _ _ = refl
digits_of-value_of base (suc places) (digit ∷ digits) pos all len =
    let others = All-tail (λ d. d < base) digit digits all in
    let rest = value_of-below base places digits pos others in
    rw (
      div-mul-add digit (base ^ places) (value_of base places digits) rest,
      mod-mul-add digit (base ^ places) (value_of base places digits) rest,
      digits_of-value_of base places digits pos others (omega arith),
    )
digits_of-value_of base _ _ pos all len = absurd (omega arith)

value_of-zeros : (base places n : ℕ) → value_of base places (replicate n 0) ≡ 0
unfolding value_of
value_of-zeros base zero n = refl
value_of-zeros base (suc places) zero = refl
value_of-zeros base (suc places) (suc n) = omega (arith, value_of-zeros base places n)

-- zeros at the end don't change the value
pub value_of-append-zeros : (base places : ℕ) (digits : List ℕ) (n : ℕ) → value_of base places (digits ++ replicate n 0) ≡ value_of base places digits
unfolding value_of
value_of-append-zeros base zero digits n = refl
value_of-append-zeros base (suc places) [] zero = refl
value_of-append-zeros base (suc places) [] (suc n) = omega (arith, value_of-zeros base places n)
value_of-append-zeros base (suc places) (digit ∷ digits) n = ap (λ v. digit * base ^ places + v) (value_of-append-zeros base places digits n)

-- digits after the last place have no weight
pub value_of-take : (base places count : ℕ) (digits : List ℕ) → places ≤ count → value_of base places (take count digits) ≡ value_of base places digits
unfolding value_of
value_of-take base zero count digits _ = refl
value_of-take _ (suc places) zero digits few = absurd (omega arith)
value_of-take base (suc places) (suc count) [] few = refl
value_of-take base (suc places) (suc count) (digit ∷ digits) few = ap (λ v. digit * base ^ places + v) (value_of-take base places count digits (omega arith))

-- a statement that is true of each of eight numbers
abbrev pub Eight : (ℕ → Type 0) → ℕ → ℕ → ℕ → ℕ → ℕ → ℕ → ℕ → ℕ → Type 0
Eight P a b c d e f g h = P a × P b × P c × P d × P e × P f × P g × P h

module _ (P : ℕ → Type 0) (a b c d e f g h : ℕ) where
  pub all_eight : Eight P a b c d e f g h → All P (a ∷ b ∷ c ∷ d ∷ e ∷ f ∷ g ∷ h ∷ [])
  all_eight each =
      All-cons P a (b ∷ c ∷ d ∷ e ∷ f ∷ g ∷ h ∷ []) each.0 (All-cons P b (c ∷ d ∷ e ∷ f ∷ g ∷ h ∷ []) each.1
      (All-cons P c (d ∷ e ∷ f ∷ g ∷ h ∷ []) each.2 (All-cons P d (e ∷ f ∷ g ∷ h ∷ []) each.3
      (All-cons P e (f ∷ g ∷ h ∷ []) each.4 (All-cons P f (g ∷ h ∷ []) each.5 (All-cons P g (h ∷ []) each.6 (All-cons P h [] each.7 (All-nil P))))))))

  pub each_of_eight : All P (a ∷ b ∷ c ∷ d ∷ e ∷ f ∷ g ∷ h ∷ []) → Eight P a b c d e f g h
  each_of_eight all =
      (all 0 0 (omega arith), all 1 0 (omega arith), all 2 0 (omega arith), all 3 0 (omega arith), all 4 0 (omega arith), all 5 0 (omega arith), all 6 0 (omega arith), all 7 0 (omega arith))

-- The bits of each digit that a mask keeps.

pub pow_of_pow : (width places : ℕ) → (2 ^ width) ^ places ≡ 2 ^ (width * places)
pow_of_pow width zero = pow-zero _ ∙ ap (λ k. 2 ^ k) (sym (mul-zero width))
pow_of_pow width (suc places) =
    let steps : width * places + width ≡ width * suc places = omega arith in
    pow-suc _ places ∙ ap (λ n. n * 2 ^ width) (pow_of_pow width places)
    ∙ sym (pow-add 2 _ width) ∙ ap (λ k. 2 ^ k) steps

-- `bits` bits of each digit, with the others masked out
module _ (width bits low : ℕ) (within : bits + low ≤ width) where
  abbrev field : ℕ
  field = 2 ^ (bits + low) - 2 ^ low

  field_fits : field < 2 ^ width
  field_fits =
      let most : 2 ^ (bits + low) ≤ 2 ^ width = pow-le-pow_right (omega arith) within in
      omega (arith, most, pow_pos low, pow_pos width)

  pub masked : (places n : ℕ) →
      bit_and n (value_of (2 ^ width) places (replicate places field))
      ≡ value_of (2 ^ width) places (map (λ d. (d / 2 ^ low % 2 ^ bits) * 2 ^ low) (digits_of (2 ^ width) places n))
  unfolding value_of digits_of
  masked zero n = and_zero_r n
  masked (suc places) n =
      let unit = (2 ^ width) ^ places in
      let unit_is = pow_of_pow width places in
      let mask = value_of (2 ^ width) places (replicate places field) in
      let rest_fits : n % unit < 2 ^ (width * places) = omega (arith, unit_is, mod_below n unit (omega (arith, unit_is, pow_pos (width * places)))) in
      let mask_fits : mask < 2 ^ (width * places) =
      omega (arith, unit_is, value_of-below (2 ^ width) places (replicate places field) (pow_pos width) (All-replicate (λ d. d < 2 ^ width) places field field_fits)) in
      let whole : n / unit * unit + n % unit ≡ n = div-add-mod' n unit in
      ap (λ m. bit_and m (field * unit + mask)) (sym whole)
      ∙ ap (λ u. bit_and (n / unit * u + n % unit) (field * u + mask)) unit_is
      ∙ and_block (width * places) (n / unit) field (n % unit) mask rest_fits mask_fits
      ∙ ap₂ (λ x y. x * 2 ^ (width * places) + y) (and_high (n / unit) bits low) (masked places (n % unit))
      ∙ ap (λ u. ((n / unit / 2 ^ low % 2 ^ bits) * 2 ^ low) * u + value_of (2 ^ width) places (map (λ d. (d / 2 ^ low % 2 ^ bits) * 2 ^ low) (digits_of (2 ^ width) places (n % unit)))) (sym unit_is)

-- digits that are each `unit` times others have `unit` times their value
pub value_of-scaled : (base places unit : ℕ) (f g : ℕ → ℕ) (digits : List ℕ) → All (λ d. f d ≡ g d * unit) digits →
    value_of base places (map f digits) ≡ value_of base places (map g digits) * unit
unfolding value_of
value_of-scaled base zero _ f g _ all = omega arith
value_of-scaled _ (suc places) _ f g [] all = omega arith
value_of-scaled base (suc places) unit f g (d ∷ ds) all =
    let first : f d ≡ g d * unit = All-head (λ d. f d ≡ g d * unit) d ds all in
    let rest = value_of-scaled base places unit f g ds (All-tail (λ d. f d ≡ g d * unit) d ds all) in
    rw (first, rest) (omega arith)

-- two rules give the same digits
pub map_same : (f g : ℕ → ℕ) (xs : List ℕ) → All (λ x. f x ≡ g x) xs → map f xs ≡ map g xs
map_same f g [] _ = refl
map_same f g (x ∷ xs) same =
    ap₂ (λ y ys. y ∷ ys) (All-head (λ k. f k ≡ g k) x xs same) (map_same f g xs (All-tail (λ k. f k ≡ g k) x xs same))

-- the lowest bits of each digit
pub low_bits : (width bits places : ℕ) (digits : List ℕ) → bits ≤ width → All (λ d. d < 2 ^ width) digits → length digits ≡ places →
    bit_and (value_of (2 ^ width) places digits) (value_of (2 ^ width) places (replicate places (2 ^ bits - 1)))
    ≡ value_of (2 ^ width) places (map (λ d. d % 2 ^ bits) digits)
low_bits width bits places digits within fit len =
    let low : ℕ → ℕ = λ d. (d / 2 ^ 0 % 2 ^ bits) * 2 ^ 0 in
    let whole : bits + 0 ≡ bits = omega arith in
    let same : (d : ℕ) → low d ≡ d % 2 ^ bits = λ d. ap (λ m. (m % 2 ^ bits) * 1) (div-one d) ∙ omega arith in
    ap (λ k. bit_and (value_of (2 ^ width) places digits) (value_of (2 ^ width) places (replicate places (2 ^ k - 1)))) (sym whole)
    ∙ masked width bits 0 (omega arith) places (value_of (2 ^ width) places digits)
    ∙ ap (λ ds. value_of (2 ^ width) places (map low ds)) (digits_of-value_of (2 ^ width) places digits (pow_pos width) fit len)
    ∙ ap (value_of (2 ^ width) places) (map_same low (λ d. d % 2 ^ bits) digits (λ i d inside. same _))

-- the same bits of each of eight bytes, moved to the lowest place
pub moved_bits : (low n : ℕ) → 1 + low ≤ 8 → value_of 256 8 (replicate 8 (2 ^ (1 + low) - 2 ^ low)) / 2 ^ low ≡ 0x0101_0101_0101_0101 →
    bit_and (n / 2 ^ low) 0x0101_0101_0101_0101 ≡ value_of 256 8 (map (λ d. d / 2 ^ low % 2) (digits_of 256 8 n))
moved_bits low n within mask =
    let digits = digits_of 256 8 n in
    let fields = value_of 256 8 _ in
    ap (bit_and (n / 2 ^ low)) (sym mask)
    ∙ sym (and_shr n fields low)
    ∙ ap (λ m. m / 2 ^ low)
    (masked 8 1 low within 8 n
    ∙ value_of-scaled 256 8 (2 ^ low) _ (λ d. d / 2 ^ low % 2) digits
    (λ i d inside. refl))
    ∙ mul-div_cancel (value_of 256 8 (map (λ d. d / 2 ^ low % 2) digits)) (pow_pos low)

-- a mask of equal bytes keeps of each byte what it keeps of that byte alone
pub masked_bytes : (mask : ℕ) → mask < 256 → (places count : ℕ) (bytes : List ℕ) → All (λ b. b < 256) bytes → length bytes ≡ places →
    bit_and (value_of 256 places bytes) (value_of 256 places (replicate count mask)) ≡ value_of 256 places (map (λ b. bit_and b mask) (take count bytes))
unfolding value_of
masked_bytes _ fits zero count bytes all len = refl
masked_bytes mask fits (suc places) zero bytes all len = and_zero_r (value_of 256 (suc places) bytes)
masked_bytes mask fits (suc places) (suc count) (byte ∷ bytes) all len =
    let others = All-tail (λ b. b < 256) byte bytes all in
    let unit_is : 256 ^ places ≡ 2 ^ (8 * places) = pow_of_pow 8 places in
    let rest_fits : value_of 256 places bytes < 2 ^ (8 * places) = omega (arith, unit_is, value_of-below 256 places bytes (omega arith) others) in
    let mask_fits : value_of 256 places (replicate count mask) < 2 ^ (8 * places) =
    omega (arith, value_of-below 256 places (replicate count mask) (omega arith) (All-replicate (λ b. b < 256) count mask fits)) in
    rw (
      unit_is,
      and_block (8 * places) byte mask (value_of 256 places bytes) (value_of 256 places (replicate count mask)) rest_fits mask_fits,
      masked_bytes mask fits places count bytes others (omega arith),
    )
masked_bytes mask fits _ count bytes all len = absurd (omega arith)

-- Digits in bytes are added, and carries pass on to the next byte.

-- the digit above a unit, and the rest below it
module _ (n unit base top low : ℕ) (split : n ≡ top * unit + low) (fits : low < unit) (pos : 0 < base) where
  rearranged : n ≡ top / base * (unit * base) + (top % base * unit + low)
  rearranged = omega (arith, split, ap (λ t. t * unit) (div-add-mod' top base))

  rest_below : top % base * unit + low < unit * base
  rest_below = omega (arith, mul-add-lt (top % base) unit low base (mod_below top base pos) fits)

  rest_is : n % (unit * base) ≡ top % base * unit + low
  rest_is = rw rearranged (mod-mul-add (top / base) (unit * base) (top % base * unit + low) rest_below)

  carry_is : n / (unit * base) ≡ top / base
  carry_is = rw rearranged (div-mul-add (top / base) (unit * base) (top % base * unit + low) rest_below)

  digit_is : n % (unit * base) / unit ≡ top % base
  digit_is = rw rest_is (div-mul-add (top % base) unit low fits)

  low_is : n % (unit * base) % unit ≡ low
  low_is = rw rest_is (mod-mul-add (top % base) unit low fits)

-- Digits in base 8, one to a byte, each times a unit. If all other bits of one number are set, a carry passes on to the
-- next byte.
module _ (unit pad : ℕ) (byte : (sum carry : ℕ) → sum < 15 → carry < 2 →
    ((sum * unit + pad + carry) / 256 ≡ (sum + carry) / 8) × ((sum * unit + pad + carry) % 256 / unit % 8 ≡ (sum + carry) % 8)) where
  abbrev pub bytes_sum : ℕ → List ℕ → List ℕ → ℕ → ℕ
  bytes_sum places ds es carry =
      (value_of 256 places ds + value_of 256 places es) * unit + value_of 256 places (replicate places pad) + carry

  abbrev pub digits_sum : ℕ → List ℕ → List ℕ → ℕ → ℕ
  digits_sum places ds es carry = value_of 8 places ds + value_of 8 places es + carry

  record IsAdded (places : ℕ) (ds es : List ℕ) (carry : ℕ) : Type 0 where
    over : bytes_sum places ds es carry / 256 ^ places ≡ digits_sum places ds es carry / 8 ^ places
    digits : map (λ b. b / unit % 8) (digits_of 256 places (bytes_sum places ds es carry % 256 ^ places))
        ≡ digits_of 8 places (digits_sum places ds es carry % 8 ^ places)

  added : (places : ℕ) (ds es : List ℕ) (carry : ℕ) → length ds ≡ places → length es ≡ places →
      All (λ d. d < 8) ds → All (λ d. d < 8) es → carry < 2 → IsAdded places ds es carry
  unfolding value_of digits_of
  added zero ds es carry ds_len es_len ds_fit es_fit small = record { over = omega arith; digits = refl }
  added (suc places) (d ∷ ds) (e ∷ es) carry ds_len es_len ds_fit es_fit small =
      let d_fits : d < 8 = All-head (λ d. d < 8) d ds ds_fit in
      let e_fits : e < 8 = All-head (λ d. d < 8) e es es_fit in
      let ds_others = All-tail (λ d. d < 8) d ds ds_fit in
      let es_others = All-tail (λ d. d < 8) e es es_fit in
      let rest = added places ds es carry (omega arith) (omega arith) ds_others es_others small in
      let low_bytes = bytes_sum places ds es carry in
      let low_digits = digits_sum places ds es carry in
      let big = 256 ^ places in
      let small_unit = 8 ^ places in
      let big_pos : 0 < big = one-le-pow places 256 (omega arith) in
      let small_pos : 0 < small_unit = one-le-pow places 8 (omega arith) in
      let over = low_digits / small_unit in
      let below : low_digits < 2 * small_unit =
      omega (arith, value_of-below 8 places ds (omega arith) ds_others, value_of-below 8 places es (omega arith) es_others) in
      let over_fits : over < 2 = div_below low_digits small_unit 2 small_pos below in
      let in_byte = byte (d + e) over (omega arith) over_fits in
      let bytes_split : bytes_sum (suc places) (d ∷ ds) (e ∷ es) carry ≡ ((d + e) * unit + pad + over) * big + low_bytes % big =
      omega (arith, div-add-mod' low_bytes big, ap (λ c. c * big) rest.over) in
      let digits_split : digits_sum (suc places) (d ∷ ds) (e ∷ es) carry ≡ (d + e + over) * small_unit + low_digits % small_unit =
      omega (arith, div-add-mod' low_digits small_unit) in
      let bytes_low = mod_below low_bytes big big_pos in
      let digits_low = mod_below low_digits small_unit small_pos in
      record {
        over = rw (
          pow-suc 256 places,
          pow-suc 8 places,
          carry_is _ big 256 _ _ bytes_split bytes_low (omega arith),
          carry_is _ small_unit 8 _ _ digits_split digits_low (omega arith),
        ) in_byte.0;
        digits = rw (
          pow-suc 256 places,
          pow-suc 8 places,
          digit_is _ big 256 _ _ bytes_split bytes_low (omega arith),
          low_is _ big 256 _ _ bytes_split bytes_low (omega arith),
          digit_is _ small_unit 8 _ _ digits_split digits_low (omega arith),
          low_is _ small_unit 8 _ _ digits_split digits_low (omega arith),
        ) (ap₂ (λ x xs. x ∷ xs) in_byte.1 rest.digits);
      }
  added _ ds es carry ds_len es_len ds_fit es_fit small = absurd (omega arith)

  pub sum-digits : (ds es : List ℕ) (carry : ℕ) → length ds ≡ 8 → length es ≡ 8 →
      All (λ d. d < 8) ds → All (λ d. d < 8) es → carry < 2 →
      map (λ b. b / unit % 8) (digits_of 256 8 (bytes_sum 8 ds es carry % 256 ^ 8)) ≡ digits_of 8 8 (digits_sum 8 ds es carry % 8 ^ 8)
  sum-digits ds es carry ds_len es_len ds_fit es_fit small = (added 8 ds es carry ds_len es_len ds_fit es_fit small).digits

-- Loops over the digits of a number, from the first digit on.

-- the digit at an index, and those after it
value_of-drop : (base places : ℕ) (digit : ℕ → ℕ) (words : List ℕ) (i : ℕ) → i < length words → i < places →
    value_of base (places - i) (map digit (drop i words))
    ≡ digit (get_or words i 0) * base ^ (places - (i + 1)) + value_of base (places - (i + 1)) (map digit (drop (i + 1) words))
unfolding value_of
value_of-drop _ places _ words i inside within =
    let e : places - i ≡ suc (places - (i + 1)) = omega arith in
    rw (e, add-one, drop-cons words i 0)

-- no digits are left after the last one
value_of-past : (base places : ℕ) (digit : ℕ → ℕ) (words : List ℕ) (i : ℕ) → length words ≤ i →
    value_of base places (map digit (drop i words)) ≡ 0
unfolding value_of
value_of-past base zero _ words i _ = refl
value_of-past _ (suc places) digit words i past = rw (drop_of_length-le words past)

-- The unit of the place at an index, from the unit of the place before it.
module _ (base places i unit : ℕ) (pos : 0 < base) (within : i < places) (unit_is : unit ≡ base ^ (places - i)) where
  unit_split : unit ≡ base ^ (places - (i + 1)) * base
  unit_split =
      let e : places - i ≡ suc (places - (i + 1)) = omega arith in
      unit_is ∙ ap (λ k. base ^ k) e ∙ pow-suc base (places - (i + 1))

  pub next_unit : unit / base ≡ base ^ (places - (i + 1))
  next_unit = rw unit_split (mul-div_cancel (base ^ (places - (i + 1))) pos)

  pub next_unit_pos : 0 < unit / base
  next_unit_pos = rw next_unit (one-le-pow (places - (i + 1)) base pos)

  unit_least : base ≤ unit
  unit_least =
      let least : 1 * base ≤ base ^ (places - (i + 1)) * base = mul-le-mul_right base (one-le-pow (places - (i + 1)) base pos) in
      omega (arith, unit_split, least)

-- A loop has added the digits of the words before an index.
pub record IsSumSoFar (base places : ℕ) (digit : ℕ → ℕ) (words : List ℕ) (i unit sum : ℕ) : Type 0 where
  pub unit_is : unit ≡ base ^ (places - i)
  pub in_limit : sum + unit ≤ base ^ places
  pub below : sum < base ^ places
  pub whole : sum + value_of base (places - i) (map digit (drop i words)) ≡ value_of base places (map digit words)

module _ (base places : ℕ) (digit : ℕ → ℕ) (words : List ℕ) (i unit sum : ℕ) (so_far : IsSumSoFar base places digit words i unit sum) where
  -- the digit of the word at the index is added, with the next unit
  pub IsSumSoFar-more : (word : ℕ) → 0 < base → i < length words → i < places → word ≡ get_or words i 0 → digit word < base →
      IsSumSoFar base places digit words (i + 1) (unit / base) (sum + digit word * (unit / base))
  IsSumSoFar-more word pos inside within is below =
      let next = next_unit base places i unit pos within so_far.unit_is in
      let split : unit ≡ unit / base * base = unit_split base places i unit pos within so_far.unit_is ∙ ap (λ u. u * base) (sym next) in
      let some : 1 ≤ unit / base = next_unit_pos base places i unit pos within so_far.unit_is in
      let fits : suc (digit word) * (unit / base) ≤ base * (unit / base) = mul-le-mul_right (unit / base) below in
      let rest = value_of-drop base places digit words i inside within in
      let here : digit word * (unit / base) ≡ digit (get_or words i 0) * base ^ (places - (i + 1)) = rw (is, next) in
      record {
        unit_is = next;
        in_limit = omega (arith, split, fits, so_far.in_limit);
        below = omega (arith, split, fits, some, so_far.in_limit);
        whole = omega (arith, rest, here, so_far.whole);
      }

  -- at the end the sum is the value of all words
  pub IsSumSoFar-all : length words ≤ i → sum ≡ value_of base places (map digit words)
  IsSumSoFar-all past = omega (arith, value_of-past base (places - i) digit words i past, so_far.whole)

-- A loop has taken the digits of a number before an index.
pub record IsRestAt (base places i unit rest : ℕ) : Type 0 where
  pub unit_is : unit ≡ base ^ (places - i)
  pub least : i < places → base ≤ unit
  pub in_limit : rest < unit

module _ (base places i unit rest : ℕ) (at : IsRestAt base places i unit rest) (pos : 0 < base) (within : i < places) where
  pub IsRestAt-more : IsRestAt base places (i + 1) (unit / base) (rest % (unit / base))
  IsRestAt-more =
      let next = next_unit base places i unit pos within at.unit_is in
      record {
        unit_is = next;
        least = λ more. unit_least base places (i + 1) (unit / base) pos more next;
        in_limit = mod-lt rest (next_unit_pos base places i unit pos within at.unit_is);
      }

  pub digits_of-more : digits_of base (places - i) rest ≡ rest / (unit / base) ∷ digits_of base (places - (i + 1)) (rest % (unit / base))
  unfolding digits_of
  digits_of-more =
      let e : places - i ≡ suc (places - (i + 1)) = omega arith in
      rw (e, next_unit base places i unit pos within at.unit_is)
