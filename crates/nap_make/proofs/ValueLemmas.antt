-- The texts of values: numbers, points, colours and other attributes, and how they are cut into parts.

use Rattle.nap_make.proofs.{All, All-append, All-cons, All-head, All-nil, All-tail, All-weaker, AllDigits, AnyValue, Bool, BothFit, CharSize, Colour, ColourInRange, Components, Coordinates, Displacement, HasSixteenBitParts, IfSome, IsAddress, IsByte, IsCode, IsInRange, IsInSquare, IsNibble, IsNumbered, IsNumeralOf, IsParsed, IsShort, IsSigned, IsSome, IsWord, IsWritten, List, MaskInRange, MatchOption, Option, Origin, PenInRange, Preset, Size, SizeInRange, SplitsAtByte, TextInRange, TextLook, TextModes, Texture, TextureInRange, WritesNone, [], ap, append_assoc, append_cancel_left, arith, code_text, codes, colour_text, cond, decimal, decimal-digits_value, decimal_digit, decimal_injective, decimal_is_IsNumeral, decimal_nonempty, digit_char, digit_from_value, digit_value, digit_value-digit_char, digits_value, digits_value-lt, drop, first_decimal, flag_text, get_or, grb_text, ints, length, length-decimal-le, length-take-le, look_text, mag, mask_size_text, modes_text, move_text, nat_tests, negsuc, numerals_by_value, pair_text, pen_text, point_text, pos, pow-le-pow_right, refl, rules, signed_decimal, signed_decimal_injective, size_text, subst, suc, sym, take, take_all, take_more, tells_digits, texture_text, w32, zero, ℕ, ℤ, ◌%◌, ◌*◌, ◌++◌, ◌+◌, ◌-◌, ◌/◌, ◌<◌, ◌^◌, ◌↔◌, ◌∙◌, ◌∷◌, ◌≡◌, ◌≢◌, ◌≤◌}
use mir.Val.{SFits}

-- A list is split at the first byte of a value in one way.

pub one_cut : (b : ℕ) (f k g l : List ℕ) → All (λ x. x ≢ b) f → All (λ x. x ≢ b) g → f ++ b ∷ k ≡ g ++ b ∷ l → (f ≡ g) × (k ≡ l)
one_cut b [] k [] l none also same = (refl, cc)
one_cut b [] k (y ∷ g) l none also same = absurd (All-head (λ x. x ≢ b) y g also (cc))
one_cut b (x ∷ f) k [] l none also same = absurd (All-head (λ z. z ≢ b) x f none (cc))
one_cut b (x ∷ f) k (y ∷ g) l none also same = grind (arith, All-tail, one_cut b f k g l (All-tail (λ z. z ≢ b) x f none) (All-tail (λ z. z ≢ b) y g also) (cc))

-- the parts of a split list are those of a text whose first part doesn't contain the byte
pub cut_text : {b : ℕ} {xs f k g l : List ℕ} → SplitsAtByte b xs f k → All (λ x. x ≢ b) g → xs ≡ g ++ b ∷ l → (f ≡ g) × (k ≡ l)
cut_text cut none is = one_cut _ _ _ _ _ cut.first none (sym cut.joins ∙ is)

-- a list that doesn't contain the byte isn't split
pub no_cut : (b : ℕ) (xs f k : List ℕ) → All (λ x. x ≢ b) xs → xs ≡ f ++ b ∷ k → ⊥
no_cut b xs f k none is = never f (subst (All (λ x. x ≢ b)) is none)
  where
    never : (f : List ℕ) → All (λ x. x ≢ b) (f ++ b ∷ k) → ⊥
    never [] none = All-head (λ x. x ≢ b) b k none refl
    never (x ∷ f) none = never f (All-tail (λ z. z ≢ b) x (f ++ b ∷ k) none)

-- a list that isn't split doesn't contain the byte
pub uncut : (b : ℕ) (xs : List ℕ) → ((f k : List ℕ) → SplitsAtByte b xs f k → ⊥) → All (λ x. x ≢ b) xs
uncut b [] none = All-nil (λ x. x ≢ b)
uncut b (x ∷ xs) none =
    let head : x ≢ b = λ is. none [] xs (record { joins = ap (◌∷ xs) is; first = All-nil (λ z. z ≢ b) }) in
    All-cons (λ z. z ≢ b) x xs head
    (uncut b xs (λ f k cuts. none (x ∷ f) k (record { joins = ap (x ∷◌) cuts.joins; first = All-cons (λ z. z ≢ b) x f head cuts.first })))

-- the first bytes and one more don't contain the byte
pub one_more : (b : ℕ) (xs : List ℕ) (i : ℕ) → i < length xs → All (λ x. x ≢ b) (take i xs) → get_or xs i 0 ≢ b → All (λ x. x ≢ b) (take (i + 1) xs)
one_more b xs i within none other =
    subst (All (λ x. x ≢ b)) (sym (take_more xs i 0 within)) (All-append (λ x. x ≢ b) (take i xs) (get_or xs i 0 ∷ []) none (All-cons (λ x. x ≢ b) (get_or xs i 0) [] other (All-nil (λ x. x ≢ b))))

-- no byte does
pub no_split : (b : ℕ) (xs f k : List ℕ) (i : ℕ) → length xs ≤ i → All (λ x. x ≢ b) (take i xs) → xs ≡ f ++ b ∷ k → ⊥
no_split b xs f k i past none is = no_cut b xs f k (subst (All (λ x. x ≢ b)) (take_all i xs past) none) is

-- Values in range with equal texts are equal.
abbrev pub Tells : {V : Type 0} → (V → Type 0) → (V → List ℕ) → Type 0
Tells {V = V} P f = (v w : V) → P v → P w → f v ≡ f w → v ≡ w

-- A text of two parts, separated by a byte that the first doesn't contain.
pub record Layout {A B : Type 0} (P : A → Type 0) (f : A → List ℕ) (b : ℕ) (Q : B → Type 0) (g : B → List ℕ) : Type 0 where
  pub apart : (v : A) → P v → All (λ x. x ≢ b) (f v)

module _ {A B : Type 0} {P : A → Type 0} {f : A → List ℕ} {b : ℕ} {Q : B → Type 0} {g : B → List ℕ} (layout : Layout P f b Q g) where
  -- Bytes are no such text if they don't contain the byte, or if one part is no value's.

  pub no_byte : {xs : List ℕ} → ((x y : List ℕ) → SplitsAtByte b xs x y → ⊥) → WritesNone (BothFit P Q) (pair_text f b g) xs
  no_byte none v fits is = none (f v.0) (g v.1) (record { joins = is; first = layout.apart v.0 fits.0 })

  pub no_first : {xs x y : List ℕ} → SplitsAtByte b xs x y → WritesNone P f x → WritesNone (BothFit P Q) (pair_text f b g) xs
  no_first cut none v fits is = none v.0 fits.0 (cut_text cut (layout.apart v.0 fits.0) is).0

  pub no_second : {xs x y : List ℕ} → SplitsAtByte b xs x y → WritesNone Q g y → WritesNone (BothFit P Q) (pair_text f b g) xs
  no_second cut none v fits is = none v.1 fits.1 (cut_text cut (layout.apart v.0 fits.0) is).1

  -- bytes are such a text if each part is a value's
  pub both_written : {xs x y : List ℕ} {v : A} {w : B} → SplitsAtByte b xs x y → IsWritten P f x v → IsWritten Q g y w → IsWritten (BothFit P Q) (pair_text f b g) xs (v, w)
  both_written cut one two = grind arith

  pub both_tell : Tells P f → Tells Q g → Tells (BothFit P Q) (pair_text f b g)
  both_tell one two v w v_fits w_fits is = grind (arith, one_cut)

-- Values of one type have the texts of values of another.
pub record Alike {V W : Type 0} (to : V → W) (P : V → Type 0) (f : V → List ℕ) (Q : W → Type 0) (g : W → List ℕ) : Type 0 where
  pub there : (v : V) → P v → Q (to v)
  pub back : (v : V) → Q (to v) → P v
  pub same : (v : V) → f v ≡ g (to v)

module _ {V W : Type 0} {to : V → W} {P : V → Type 0} {f : V → List ℕ} {Q : W → Type 0} {g : W → List ℕ} (alike : Alike to P f Q g) where
  pub none_alike : {xs : List ℕ} → WritesNone Q g xs → WritesNone P f xs
  none_alike none v fits is = none (to v) (alike.there v fits) (is ∙ alike.same v)

  pub written_alike : {xs : List ℕ} (v : V) → IsWritten Q g xs (to v) → IsWritten P f xs v
  written_alike v ensured = record { fitting = alike.back v ensured.fitting; written = ensured.written ∙ sym (alike.same v) }

  pub alike_tell : (from : W → V) → ((v : V) → from (to v) ≡ v) → Tells Q g → Tells P f
  alike_tell from again tells v w v_fits w_fits is = grind arith

-- a value with this text, tried whether it is in range
pub reads_tried : {V : Type 0} {P : V → Type 0} {f : V → List ℕ} {xs : List ℕ} {v : V} (r : Option V) → IsWritten P f xs v → (IsSome r ↔ P v) → IfSome r (λ w. w ≡ v) → IsParsed P f xs r
reads_tried r is fits h = grind arith

pub fits64 : (n : ℕ) → IsShort n → n < 2 ^ 64
fits64 n short = omega (arith, short)

-- The text of a number.

-- the decimal digits of a number are a numeral of it
pub numeral_of : {ds : List ℕ} (n : ℕ) → IsShort n → ds ≡ decimal n → IsNumeralOf ds n
numeral_of n short is =
    let P : List ℕ → Type 0 = λ xs. IsNumeralOf xs n in
    let written = decimal_is_IsNumeral n (fits64 n short) in
    subst P (sym is) (record { numeral = written.0; few = length-decimal-le 8 n (omega arith) short (fits64 n short); value = written.1 })

pub digit_at : (ds : List ℕ) (i : ℕ) → AllDigits 10 ds → i < length ds → digit_value (get_or ds i 0) < 10
digit_at [] i all within = absurd (omega (arith, within))
digit_at (d ∷ ds) zero all within = all.0
digit_at (d ∷ ds) (suc i) all within = digit_at ds i all.1 (omega (arith, within))

-- The value of fewer than eight digits.

-- the value of fewer than eight digits is below 10^7, so one more digit fits
pub small : (ds : List ℕ) (i : ℕ) → AllDigits 10 (take i ds) → i < length ds → length ds ≤ 8 → digits_value 10 (take i ds) < 10 ^ 7
small ds i all within few = grind (arith, digits_value-lt, length-take-le, pow-le-pow_right)

pub short_value : (ds : List ℕ) → AllDigits 10 ds → length ds ≤ 8 → IsShort (digits_value 10 ds)
short_value ds all few = grind (arith, digits_value-lt, pow-le-pow_right)

-- Numbers by their digits.

-- digits have one value
pub numeral_tells : {ds : List ℕ} {m n : ℕ} → IsNumeralOf ds m → IsShort n → ds ≡ decimal n → m ≡ n
numeral_tells {n = n} ensured short is = sym ensured.value ∙ ap (digits_value 10) is ∙ (decimal_is_IsNumeral n (fits64 n short)).1

-- digits without leading zeros are the decimal digits of their value
pub no_zero : {ds : List ℕ} {n : ℕ} → IsNumeralOf ds n → (get_or ds 0 0 ≡ 48 → length ds ≡ 1) → ds ≡ decimal n
no_zero {ds = ds} {n = n} ensured lone =
    sym (ap decimal (sym ensured.value) ∙ decimal-digits_value (numerals_by_value (AllDigits 10) tells_digits) ds ensured.numeral.1 ensured.numeral.0 lone (subst (λ m. m < 2 ^ 64) (sym ensured.value) (fits64 n (subst IsShort ensured.value (short_value ds ensured.numeral.1 (omega (arith, ensured.few)))))))

-- digits with a leading zero are the decimal digits of no number
pub zero_first : {ds : List ℕ} (n : ℕ) → IsShort n → ds ≡ decimal n → get_or ds 0 0 ≡ 48 → length ds ≢ 1 → ⊥
zero_first n is fits h also = grind (arith, decimal_digit, first_decimal, fits64)

-- a text is the decimal digits of one number
pub same_number : {ds : List ℕ} {m n : ℕ} → ds ≡ decimal m → ds ≡ decimal n → m < 2 ^ 64 → n < 2 ^ 64 → m ≡ n
same_number one two m_fits n_fits = decimal_injective _ _ m_fits n_fits (sym one ∙ two)

-- The bytes of a text.

-- each byte of the texts of values in range has this property
abbrev pub Spells : {V : Type 0} → (ℕ → Type 0) → (V → Type 0) → (V → List ℕ) → Type 0
Spells {V = V} R P f = (v : V) → P v → All R (f v)

-- each digit has this property
abbrev pub OfDigits : (ℕ → Type 0) → Type 0
OfDigits R = (d : ℕ) → 48 ≤ d → d < 58 → R d

digits_spell : (R : ℕ → Type 0) → OfDigits R → (ds : List ℕ) → AllDigits 10 ds → All R ds
digits_spell R digit [] all = All-nil R
digits_spell R digit (d ∷ ds) all = let range = digit_from_value d all.0 in All-cons R d ds (digit d (omega (arith, range)) (omega (arith, range))) (digits_spell R digit ds all.1)

pub decimal_spells : (R : ℕ → Type 0) → OfDigits R → (n : ℕ) → n < 2 ^ 64 → All R (decimal n)
decimal_spells R digit n fits = digits_spell R digit (decimal n) (decimal_is_IsNumeral n fits).0.1

pub low_pos : (n : ℕ) → IsSigned (pos n) → n < 8388608
low_pos n fits = omega (arith, ints, fits.1)

pub low_neg : (n : ℕ) → IsSigned (negsuc n) → n < 8388608
low_neg n fits = omega (arith, ints, fits.0)

pub signed_spells : (R : ℕ → Type 0) → OfDigits R → R 45 → Spells R IsSigned signed_decimal
signed_spells R digit minus (pos n) fits = decimal_spells R digit n (omega (arith, low_pos n fits))
signed_spells R digit minus (negsuc n) fits = All-cons R 45 (decimal (suc n)) minus (decimal_spells R digit (suc n) (omega (arith, low_neg n fits)))

pub both_spell : {A B : Type 0} {P : A → Type 0} {Q : B → Type 0} (R : ℕ → Type 0) (f : A → List ℕ) (b : ℕ) (g : B → List ℕ) → Spells R P f → R b → Spells R Q g → Spells R (BothFit P Q) (pair_text f b g)
both_spell R f b g one byte two v fits = All-append R (f v.0) (b ∷ g v.1) (one v.0 fits.0) (All-cons R b (g v.1) byte (two v.1 fits.1))

-- each byte of a list is above this, as a product that computes
abbrev pub EachAbove : ℕ → List ℕ → Type 0
EachAbove low [] = Unit {0}
EachAbove low (x ∷ xs) = (low < x) × EachAbove low xs

pub above : (low : ℕ) (xs : List ℕ) → EachAbove low xs → All (λ x. low < x) xs
above low [] all = All-nil (λ x. low < x)
above low (x ∷ xs) all = All-cons (λ x. low < x) x xs all.0 (above low xs all.1)

-- a list whose bytes are above this doesn't contain a byte that isn't
pub apart_below : (low b : ℕ) (xs : List ℕ) → b ≤ low → All (λ x. low < x) xs → All (λ x. x ≢ b) xs
apart_below low b xs least all = All-weaker (λ x. low < x) (λ x. x ≢ b) (λ x high is. omega (arith, high, is, least)) xs all

-- a visible byte, which isn't a space
abbrev pub IsVisible : ℕ → Type 0
IsVisible b = 32 < b

-- the texts of values with visible bytes contain no space
pub spaceless : {V : Type 0} {P : V → Type 0} (f : V → List ℕ) → Spells IsVisible P f → (v : V) → P v → All (λ x. x ≢ 32) (f v)
spaceless f spells v fits = apart_below 32 32 (f v) (omega arith) (spells v fits)

pub key_spells : {V : Type 0} {P : V → Type 0} (f : V → List ℕ) (key : List ℕ) → EachAbove 32 key → Spells IsVisible P f → Spells IsVisible P (λ v. key ++ f v)
key_spells f key visible spells v fits = All-append IsVisible key (f v) (above 32 key visible) (spells v fits)

-- Codes by two hexadecimal digits.

pub digit_tells : (d e : ℕ) → IsNibble d → IsNibble e → digit_char d ≡ digit_char e → d ≡ e
digit_tells d e d_fits e_fits is = sym (digit_value-digit_char d (omega (arith, d_fits))) ∙ ap digit_value is ∙ digit_value-digit_char e (omega (arith, e_fits))

two_bytes : (xs : List ℕ) → length xs ≡ 2 → xs ≡ get_or xs 0 0 ∷ get_or xs 1 0 ∷ []
two_bytes (x ∷ y ∷ []) two = refl
two_bytes _ two = absurd (omega (arith, two))

-- two bytes of which one is no hexadecimal digit are no code's
pub no_high : {xs : List ℕ} → ((d : ℕ) → IsNibble d → get_or xs 0 0 ≢ digit_char d) → WritesNone IsCode code_text xs
no_high none n fits is = none (n / 16) (omega (arith, fits)) (ap (λ s. get_or s 0 0) is)

pub no_low : {xs : List ℕ} → ((d : ℕ) → IsNibble d → get_or xs 1 0 ≢ digit_char d) → WritesNone IsCode code_text xs
no_low none n fits is = none (n % 16) (omega arith) (ap (λ s. get_or s 1 0) is)

-- the first digit of a code is from 2 to 7
pub high_digit : {xs : List ℕ} {high : ℕ} (n : ℕ) → IsNibble high → get_or xs 0 0 ≡ digit_char high → IsCode n → xs ≡ code_text n → high ≡ n / 16
high_digit n fits first made is = digit_tells _ (n / 16) fits (omega (arith, made)) (sym first ∙ ap (λ s. get_or s 0 0) is)

pub code_written : (xs : List ℕ) (high low : ℕ) → length xs ≡ 2 → get_or xs 0 0 ≡ digit_char high → get_or xs 1 0 ≡ digit_char low → 2 ≤ high → high ≤ 7 → IsNibble low →
    IsWritten IsCode code_text xs (high * 16 + low)
code_written xs high low two first second least most nibble = grind (arith, two_bytes)

digit_visible : (d : ℕ) → IsNibble d → 32 < digit_char d
digit_visible d fits = grind (arith, nat_tests)

pub code_visible : Spells IsVisible IsByte code_text
code_visible n fits = above 32 (code_text n) (digit_visible (n / 16) (omega (arith, fits)), (digit_visible (n % 16) (omega arith), tt))

-- no digits begin with a minus
no_minus : (n : ℕ) (ds : List ℕ) → n < 2 ^ 64 → 45 ∷ ds ≡ decimal n → ⊥
no_minus n ds fits is =
    let all = subst (AllDigits 10) (sym is) (decimal_is_IsNumeral n fits).0.1 in
    let range = digit_from_value 45 all.0 in
    omega (arith, range)

pub with_minus : (bytes digits : List ℕ) (r : Option ℤ) → bytes ≡ 45 ∷ digits →
    MatchOption r ((n : ℕ) → IsSigned (negsuc n) → digits ≢ decimal (suc n)) (λ z. IsSigned z × (45 ∷ digits ≡ signed_decimal z)) →
    IsParsed IsSigned signed_decimal bytes r
with_minus bytes digits r is fits = grind (arith, no_minus, low_pos)

pub without_minus : (bytes : List ℕ) (r : Option ℤ) → get_or bytes 0 0 ≢ 45 →
    MatchOption r ((n : ℕ) → IsSigned (pos n) → bytes ≢ decimal n) (λ z. IsSigned z × (bytes ≡ signed_decimal z)) →
    IsParsed IsSigned signed_decimal bytes r
without_minus bytes r is fits = grind arith

-- what follows a minus
pub after_minus : (bytes : List ℕ) → 0 < length bytes → get_or bytes 0 0 ≡ 45 → bytes ≡ 45 ∷ take (length bytes - 1) (drop 1 bytes)
after_minus bytes is fits = grind (arith, take_all)

pub no_sign : (bytes : List ℕ) → length bytes ≡ 0 → WritesNone IsSigned signed_decimal bytes
no_sign bytes is fits h also = grind (arith, low_pos, decimal_nonempty)

pub signed_fits : (z : ℤ) → IsSigned z → SFits w32 z
signed_fits z fits = search rules

mag_below : (z : ℤ) → IsSigned z → mag z < 2 ^ 63
mag_below z is = grind (arith, low_pos, low_neg)

pub signed_tells : (y z : ℤ) → IsSigned y → IsSigned z → signed_decimal y ≡ signed_decimal z → y ≡ z
signed_tells y z y_fits z_fits is = signed_decimal_injective y z (mag_below y y_fits) (mag_below z z_fits) is

-- Numbers separated by commas.

before_comma : (n : ℕ) → n < 2 ^ 64 → All (λ x. x ≢ 44) (decimal n)
before_comma n fits = decimal_spells (λ x. x ≢ 44) (λ d low high is. omega (arith, low, is)) n fits

pub coordinates : Layout (λ n. n < 8388608) decimal 44 (λ n. n < 8388608) decimal
coordinates = record { apart = λ n fits. before_comma n (omega (arith, fits)) }

pub word_pair : Layout IsWord decimal 44 IsWord decimal
word_pair = record { apart = λ n fits. before_comma n (omega (arith, fits)) }

pub word_triple : Layout IsWord decimal 44 (BothFit IsWord IsWord) (pair_text decimal 44 decimal)
word_triple = record { apart = word_pair.apart }

pub addr_pair : Layout IsAddress decimal 44 IsAddress decimal
addr_pair = record { apart = λ n fits. before_comma n (omega (arith, fits)) }

pub signs : Layout IsSigned signed_decimal 44 IsSigned signed_decimal
signs = record { apart = signed_spells (λ x. x ≢ 44) (λ d low high is. omega (arith, low, is)) (λ is. omega (arith, is)) }

-- Points and displacements as pairs of numbers.

pub point_pair : Alike (λ (p : Coordinates). (p.x, p.y)) IsInSquare point_text (BothFit (λ n. n < 8388608) (λ n. n < 8388608)) (pair_text decimal 44 decimal)
point_pair = record { there = λ p fits. fits; back = λ p fits. fits; same = λ p. append_assoc (decimal p.x) (codes ",") (decimal p.y) }

pub move_pair : Alike (λ (m : Displacement). (m.x, m.y)) IsInRange move_text (BothFit IsSigned IsSigned) (pair_text signed_decimal 44 signed_decimal)
move_pair = grind (arith, append_assoc)

-- a displacement that equals one with this text, tried whether it is in range
pub move_tried : {xs : List ℕ} {m n : Displacement} (r : Option Displacement) → n ≡ m → IsWritten IsInRange move_text xs m → (IsSome r ↔ IsInRange n) → IfSome r (λ d. d ≡ n) →
    IsParsed IsInRange move_text xs r
move_tried r same ensured found value = reads_tried r (subst (IsWritten IsInRange move_text _) (sym same) ensured) found value

-- Bytes of points and displacements.

number_spells : (R : ℕ → Type 0) → OfDigits R → Spells R (λ n. n < 8388608) decimal
number_spells R digit n fits = decimal_spells R digit n (omega (arith, fits))

pub point_spells : (R : ℕ → Type 0) → OfDigits R → R 44 → Spells R IsInSquare point_text
point_spells R digit comma p fits = rw (append_assoc (decimal p.x) (codes ",") (decimal p.y))
    (both_spell R decimal 44 decimal (number_spells R digit) comma (number_spells R digit) (p.x, p.y) fits)

pub point_visible : Spells IsVisible IsInSquare point_text
point_visible = point_spells IsVisible (λ d low high. omega (arith, low)) (omega arith)

pub move_spells : (R : ℕ → Type 0) → OfDigits R → R 44 → R 45 → Spells R IsInRange move_text
move_spells R digit comma minus m fits = rw (append_assoc (signed_decimal m.x) (codes ",") (signed_decimal m.y))
    (both_spell R signed_decimal 44 signed_decimal (signed_spells R digit minus) comma (signed_spells R digit minus) (m.x, m.y) ((fits.0, fits.1), (fits.2, fits.3)))

pub move_visible : Spells IsVisible IsInRange move_text
move_visible = move_spells IsVisible (λ d low high. omega (arith, low)) (omega arith) (omega arith)

-- Points and displacements with equal texts are equal.

pub point_tells : Tells IsInSquare point_text
point_tells = alike_tell point_pair (λ (p : ℕ × ℕ). record { x = p.0; y = p.1 }) (λ p. refl) (both_tell coordinates below_tells below_tells)
  where
    below_tells : Tells (λ n. n < 8388608) decimal
    below_tells m n m_fits n_fits is = decimal_injective m n (omega (arith, m_fits)) (omega (arith, n_fits)) is

pub move_tells : Tells IsInRange move_text
move_tells = alike_tell move_pair (λ (p : ℤ × ℤ). record { x = p.0; y = p.1 }) (λ m. refl) (both_tell signs signed_tells signed_tells)

-- lists joined from the left, and from the right
pub from_right : (a b c d e : List ℕ) → a ++ b ++ c ++ d ++ e ≡ a ++ (b ++ (c ++ (d ++ e)))
from_right a b c d e = append_assoc (a ++ b ++ c) d e ∙ append_assoc (a ++ b) c (d ++ e) ∙ append_assoc a b (c ++ (d ++ e))

-- Colours by their parts.

pub part_pair : Layout (λ n. n < 65536) decimal 44 (λ n. n < 65536) decimal
part_pair = record { apart = λ n fits. before_comma n (omega (arith, fits)) }

pub part_triple : Layout (λ n. n < 65536) decimal 44 (BothFit (λ n. n < 65536) (λ n. n < 65536)) (pair_text decimal 44 decimal)
part_triple = record { apart = part_pair.apart }

pub grb_triple : Alike (λ (c : Components). (c.g, (c.r, c.b))) HasSixteenBitParts grb_text (BothFit (λ n. n < 65536) (BothFit (λ n. n < 65536) (λ n. n < 65536))) (pair_text decimal 44 (pair_text decimal 44 decimal))
grb_triple = grind (arith, from_right)

-- Colours by their numbers.

-- the first letter of a colour
abbrev pub letter_of : Colour → ℕ
letter_of (Colour.Own origin) = 111
letter_of (Colour.Direct grb) = 100
letter_of (Colour.Front addr) = 102
letter_of (Colour.Pair prefix back) = 112
letter_of (Colour.ByReset preset) = 114

pub first_letter : (c : Colour) → get_or (colour_text c) 0 0 ≡ letter_of c
first_letter c = grind arith

pub no_direct : {bytes more : List ℕ} → bytes ≡ codes "direct:" ++ more → WritesNone HasSixteenBitParts grb_text more → WritesNone IsNumbered colour_text bytes
no_direct is fits h also same = grind (arith, append_cancel_left, first_letter)

pub no_front : {bytes more : List ℕ} → bytes ≡ codes "front:" ++ more → WritesNone IsAddress decimal more → WritesNone IsNumbered colour_text bytes
no_front is fits h also same = grind (arith, append_cancel_left, first_letter)

pub no_pair : {bytes more : List ℕ} → bytes ≡ codes "pair:" ++ more → WritesNone (BothFit IsAddress IsAddress) (pair_text decimal 44 decimal) more → WritesNone IsNumbered colour_text bytes
no_pair {more = more} is none (Colour.Pair prefix back) fits also =
    none (prefix, back) fits (append_cancel_left (codes "pair:") more (decimal prefix ++ codes "," ++ decimal back) (sym is ∙ also) ∙ append_assoc (decimal prefix) (codes ",") (decimal back))
no_pair is none c fits also = let letter : letter_of c ≡ 112 = sym (first_letter c) ∙ ap (λ s. get_or s 0 0) (sym also ∙ is) in omega (arith, letter)

pub no_key : {bytes : List ℕ} → ((more : List ℕ) → bytes ≢ codes "direct:" ++ more) → ((more : List ℕ) → bytes ≢ codes "front:" ++ more) → ((more : List ℕ) → bytes ≢ codes "pair:" ++ more) →
    WritesNone IsNumbered colour_text bytes
no_key is fits h also same more = grind arith

-- The four flags by their bytes.

pub flag_byte : (on : Bool) (letter : ℕ) → flag_text on (letter ∷ []) ≡ cond on letter 45 ∷ []
flag_byte on letter = grind arith

abbrev flags : TextModes → List ℕ
flags m = cond m.reverse 114 45 ∷ cond m.underline 117 45 ∷ cond m.wrap 119 45 ∷ cond m.scroll 115 45 ∷ []

pub modes_bytes : (m : TextModes) → modes_text m ≡ flags m
modes_bytes m = rw (flag_byte m.reverse 114, flag_byte m.underline 117, flag_byte m.wrap 119, flag_byte m.scroll 115) refl

-- a byte that is neither the letter of a flag nor `-` is no flag's
pub no_flag : {xs : List ℕ} (i letter : ℕ) (on : TextModes → Bool) → ((m : TextModes) → get_or (flags m) i 0 ≡ cond (on m) letter 45) →
    ((b : Bool) → get_or xs i 0 ∷ [] ≢ flag_text b (letter ∷ [])) → WritesNone AnyValue modes_text xs
no_flag i letter on at none m fits is = none (on m) (ap (◌∷ []) (ap (λ s. get_or s i 0) (is ∙ modes_bytes m) ∙ at m) ∙ sym (flag_byte (on m) letter))

pub not_four : {xs : List ℕ} → length xs ≢ 4 → WritesNone AnyValue modes_text xs
not_four other m fits is = other (ap length (is ∙ modes_bytes m))

four_bytes : (xs : List ℕ) → length xs ≡ 4 → xs ≡ get_or xs 0 0 ∷ get_or xs 1 0 ∷ get_or xs 2 0 ∷ get_or xs 3 0 ∷ []
four_bytes (a ∷ b ∷ c ∷ d ∷ []) four = refl
four_bytes _ four = absurd (omega (arith, four))

-- a byte that is this flag's
flag_is : (x letter : ℕ) (on : Bool) → x ∷ [] ≡ flag_text on (letter ∷ []) → x ≡ cond on letter 45
flag_is x letter on is = ap (λ s. get_or s 0 0) (is ∙ flag_byte on letter)

pub modes_written : {xs : List ℕ} {m : TextModes} → length xs ≡ 4 → get_or xs 0 0 ∷ [] ≡ flag_text m.reverse (114 ∷ []) → get_or xs 1 0 ∷ [] ≡ flag_text m.underline (117 ∷ []) →
    get_or xs 2 0 ∷ [] ≡ flag_text m.wrap (119 ∷ []) → get_or xs 3 0 ∷ [] ≡ flag_text m.scroll (115 ∷ []) → IsWritten AnyValue modes_text xs m
modes_written four r u w s = grind (arith, flag_is, four_bytes, modes_bytes)

-- Text attributes by their parts.

-- a text without a slash has none in its parts
pub size_spells : (R : ℕ → Type 0) → OfDigits R → R 44 → R 45 → ((x : ℕ) → 96 < x → R x) → Spells R SizeInRange size_text
size_spells R digit comma minus letter (CharSize.Named Size.Small) fits = All-weaker (λ x. 96 < x) R letter (codes "small") (above 96 (codes "small") (omega arith))
size_spells R digit comma minus letter (CharSize.Named n) fits = let name = size_text (CharSize.Named n) in All-weaker (λ x. 96 < x) R letter name (above 96 name (omega arith))
size_spells R digit comma minus letter (CharSize.Given size) fits = move_spells R digit comma minus size fits

words_spell : (R : ℕ → Type 0) → OfDigits R → R 44 → Spells R (BothFit IsWord IsWord) (pair_text decimal 44 decimal)
words_spell R digit comma =
    both_spell R decimal 44 decimal (λ n fits. decimal_spells R digit n (omega (arith, fits))) comma (λ n fits. decimal_spells R digit n (omega (arith, fits)))

pub size_modes : Layout SizeInRange size_text 47 AnyValue modes_text
size_modes = record { apart = size_spells (λ x. x ≢ 47) (λ d low high is. omega (arith, low, is)) (λ is. omega (arith, is)) (λ is. omega (arith, is)) (λ x low is. omega (arith, low, is)) }

pub look_parts : Layout (BothFit IsWord IsWord) (pair_text decimal 44 decimal) 47 (BothFit SizeInRange AnyValue) (pair_text size_text 47 modes_text)
look_parts = record { apart = words_spell (λ x. x ≢ 47) (λ d low high is. omega (arith, low, is)) (λ is. omega (arith, is)) }

abbrev pub modes_of : TextLook → TextModes
modes_of look = record { reverse = look.reverse; underline = look.underline; wrap = look.wrap; scroll = look.scroll }

look_joined : (first second size modes : List ℕ) → first ++ codes "," ++ second ++ codes "/" ++ size ++ codes "/" ++ modes ≡ (first ++ 44 ∷ second) ++ 47 ∷ (size ++ 47 ∷ modes)
look_joined first second size modes = grind (arith, from_right, append_assoc)

pub look_triple : Alike (λ (t : TextLook). ((t.first, t.second), (t.size, modes_of t))) TextInRange look_text
    (BothFit (BothFit IsWord IsWord) (BothFit SizeInRange AnyValue)) (pair_text (pair_text decimal 44 decimal) 47 (pair_text size_text 47 modes_text))
look_triple = grind (arith, look_joined)

flag_visible : (on : Bool) (letter : ℕ) → 32 < letter → All IsVisible (flag_text on (letter ∷ []))
flag_visible on letter is = grind (arith, above)

modes_visible : (m : TextModes) → All IsVisible (modes_text m)
modes_visible m = grind (arith, All-append, flag_visible)

pub look_visible : Spells IsVisible TextInRange look_text
look_visible t fits = rw (look_joined (decimal t.first) (decimal t.second) (size_text t.size) (modes_text (modes_of t)))
    (both_spell IsVisible (pair_text decimal 44 decimal) 47 (pair_text size_text 47 modes_text)
    (words_spell IsVisible (λ d low high. omega (arith, low)) (omega arith)) (omega arith)
    (both_spell {Q = AnyValue} IsVisible size_text 47 modes_text
    (size_spells IsVisible (λ d low high. omega (arith, low)) (omega arith) (omega arith) (λ x low. omega (arith, low))) (omega arith) (λ m any. modes_visible m))
    ((t.first, t.second), (t.size, modes_of t)) ((fits.first, fits.second), (fits.size, tt)))

-- the digits of a number are visible
pub number_visible : (n : ℕ) → n < 16777216 → All IsVisible (decimal n)
number_visible n fits = decimal_spells IsVisible (λ d low high. omega (arith, low)) n (omega (arith, fits))

-- Textures.

pub texture_parts : Layout IsWord decimal 47 MaskInRange mask_size_text
texture_parts = record { apart = λ n fits. decimal_spells (λ x. x ≢ 47) (λ d low high is. omega (arith, low, is)) n (omega (arith, fits)) }

pub texture_pair : Alike (λ (t : Texture). (t.word, t.mask)) TextureInRange texture_text (BothFit IsWord MaskInRange) (pair_text decimal 47 mask_size_text)
texture_pair = grind (arith, append_assoc)

mask_visible : Spells IsVisible MaskInRange mask_size_text
mask_visible is fits = grind (arith, above, move_visible)

pub texture_visible : Spells IsVisible TextureInRange texture_text
texture_visible t fits = rw (append_assoc (decimal t.word) (codes "/") (mask_size_text t.mask))
    (both_spell {P = IsWord} IsVisible decimal 47 mask_size_text (λ n less. number_visible n (omega (arith, less))) (omega arith) mask_visible (t.word, t.mask) (fits.word, fits.mask))

-- Visible bytes of fields.

pub grb_visible : Spells IsVisible HasSixteenBitParts grb_text
grb_visible c fits = rw (from_right (decimal c.g) (codes ",") (decimal c.r) (codes ",") (decimal c.b))
    (All-append IsVisible (decimal c.g) (44 ∷ (decimal c.r ++ 44 ∷ decimal c.b)) (number_visible c.g (omega (arith, fits.0)))
    (All-cons IsVisible 44 (decimal c.r ++ 44 ∷ decimal c.b) (omega arith)
    (All-append IsVisible (decimal c.r) (44 ∷ decimal c.b) (number_visible c.r (omega (arith, fits.1)))
    (All-cons IsVisible 44 (decimal c.b) (omega arith) (number_visible c.b (omega (arith, fits.2)))))))

pub colour_visible : Spells IsVisible ColourInRange colour_text
colour_visible (Colour.Own Origin.AtStart) fits = above 32 (codes "own-start") (omega arith)
colour_visible (Colour.Direct grb) fits = All-append IsVisible (codes "direct:") (grb_text grb) (above 32 (codes "direct:") (omega arith)) (grb_visible grb fits)
colour_visible (Colour.Front addr) fits = All-append IsVisible (codes "front:") (decimal addr) (above 32 (codes "front:") (omega arith)) (number_visible addr fits)
colour_visible (Colour.Pair prefix back) fits =
    All-append IsVisible (codes "pair:" ++ decimal prefix ++ codes ",") (decimal back)
    (All-append IsVisible (codes "pair:" ++ decimal prefix) (codes ",")
    (All-append IsVisible (codes "pair:") (decimal prefix) (above 32 (codes "pair:") (omega arith)) (number_visible prefix fits.0))
    (above 32 (codes ",") (omega arith)))
    (number_visible back fits.1)
colour_visible (Colour.ByReset Preset.Two) fits = above 32 (codes "reset-2") (omega arith)
colour_visible colour fits = above 32 (colour_text colour) (omega arith)

pub pen_visible : Spells IsVisible PenInRange pen_text
pen_visible is fits = grind (arith, point_visible, above)
