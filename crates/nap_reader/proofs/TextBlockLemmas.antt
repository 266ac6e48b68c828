use Rattle.nap_reader.proofs.Common.{Bool, EndsAt, GoesThrough, List, [], and_block, and_mask, and_self, ap, ap₂, arith, bit_and, bit_at, bit_at-pow_other, bit_at-pow_same, bit_at-trailing_zeros, bit_at-zero, bit_at_above, bit_at_cat_high, bit_at_cat_low, bit_mask_l, cases_lt, cond, div-add-mod', drop, drop-drop, false, format_effector, get_or, get_or-drop, get_or-map, get_or-take, inl, inr, is_from, is_of_text, is_other, is_some, length, length-chunk, length-drop, length-map, map, mask_l-lt, mod_below, mod_self, pow-suc, pow_pos, prefix_len, prefix_len_is, prefix_len_passes, refl, same_from_bits_below, suc, sym, trailing_zeros, true, zero, ℕ, ◌%◌, ◌*◌, ◌+◌, ◌-◌, ◌/◌, ◌<◌, ◌^◌, ◌∙◌, ◌∷◌, ◌≡◌, ◌≤◌, ◌⊎◌}
use Rattle.nap_reader.proofs.OperandLemmas.{past_block}
use lib.Lanes.{chunk, mask_l}
use mir.Syntax.{w64}

-- The bits of a block that tell its format effectors and the end of its text.

-- a number with its lowest bit cleared
module _ (n : ℕ) (some : 0 < n) (fits : n < 2 ^ 64) where
  abbrev low : ℕ
  low = trailing_zeros w64 n

  abbrev high : ℕ
  high = n / 2 ^ (low + 1)

  lowest : (low < 64) × (bit_at n low ≡ 1) × ((i : ℕ) → i < low → bit_at n i ≡ 0)
  lowest = bit_at-trailing_zeros w64 n some fits

  low_fits : 2 ^ low < 2 ^ (low + 1)
  low_fits = omega (arith, pow_pos low, pow-suc 2 low, ap (λ k. 2 ^ k) (let e : suc low ≡ low + 1 = omega arith in e))

  whole : high * 2 ^ (low + 1) + n % 2 ^ (low + 1) ≡ n
  whole = div-add-mod' n (2 ^ (low + 1))

  low_bit : (i : ℕ) → i < low + 1 → bit_at (n % 2 ^ (low + 1)) i ≡ bit_at n i
  low_bit i less = sym (bit_at_cat_low high (low + 1) (n % 2 ^ (low + 1)) i less) ∙ ap (λ m. bit_at m i) whole

  by_place : (i : ℕ) → i < low + 1 → (i < low) ⊎ (low ≤ i) → bit_at n i ≡ bit_at (2 ^ low) i
  by_place i h k = grind (arith, lowest, bit_at-pow_same, bit_at-pow_other)

  lowest_is : n % 2 ^ (low + 1) ≡ 2 ^ low
  lowest_is = search (arith, same_from_bits_below, mod_below, pow_pos, low_fits, low_bit, by_place, cases_lt) steps 100000

  split : high * 2 ^ (low + 1) + 2 ^ low ≡ n
  split = ap (λ m. high * 2 ^ (low + 1) + m) (sym lowest_is) ∙ whole

  cleared : bit_and n (n - 1) ≡ high * 2 ^ (low + 1)
  cleared =
      let one_less : n - 1 ≡ high * 2 ^ (low + 1) + (2 ^ low - 1) = omega (arith, split, pow_pos low) in
      ap₂ bit_and (sym split) one_less ∙ and_block (low + 1) high high (2 ^ low) (2 ^ low - 1) low_fits (omega (arith, low_fits))
      ∙ ap₂ (λ a b. a * 2 ^ (low + 1) + b) (and_self high) (and_mask (2 ^ low) low ∙ mod_self (2 ^ low)) ∙ omega arith

  -- fewer bits are left
  pub cleared_less : bit_and n (n - 1) < n
  cleared_less = omega (arith, cleared, split, pow_pos low)

  pub cleared_low : (i : ℕ) → i < low + 1 → bit_at (bit_and n (n - 1)) i ≡ 0
  cleared_low i less = ap (λ m. bit_at m i) (cleared ∙ omega arith) ∙ bit_at_cat_low high (low + 1) 0 i less ∙ bit_at-zero i

  pub cleared_high : (i : ℕ) → low < i → bit_at (bit_and n (n - 1)) i ≡ bit_at n i
  cleared_high i more =
      ap (λ m. bit_at m i) (cleared ∙ omega arith) ∙ bit_at_cat_high high (low + 1) 0 i (pow_pos (low + 1)) (omega arith)
      ∙ sym (ap (λ m. bit_at m i) (sym split) ∙ bit_at_cat_high high (low + 1) (2 ^ low) i low_fits (omega arith))

-- A bit is left for each byte of the block of which it isn't known that it belongs to the text. None of these is from
-- 20 to 7F.
pub record LeavesOthers (piece : List ℕ) (at rest : ℕ) : Type 0 where
  pub few : rest < 2 ^ 32
  pub passed : (i : ℕ) → i < 32 → bit_at rest i ≡ 0 → is_of_text (get_or piece (at + i) 0) ≡ true
  pub others : (i : ℕ) → bit_at rest i ≡ 1 → (i < 32) × (is_from 32 (get_or piece (at + i) 0) ≡ false)

-- the mask of the other bytes
module _ (piece : List ℕ) (at : ℕ) (within : at + 32 ≤ length piece) where
  abbrev block : List ℕ
  block = chunk at 32 piece

  long : length block ≡ 32
  long = length-chunk at 32 piece within

  bit_is : (i : ℕ) → i < 32 → bit_at (mask_l (map (is_other 32) block)) i ≡ cond (is_other 32 (get_or piece (at + i) 0)) 1 0
  bit_is i less =
      bit_mask_l (map (is_other 32) block) i
      ∙ ap (λ b. cond b 1 0) (get_or-map (is_other 32) block i 0 false (omega (arith, long)) ∙ ap (is_other 32) (get_or-take 32 (drop at piece) i 0 less ∙ get_or-drop at piece i 0))

  abbrev bit_of : ℕ → ℕ
  bit_of b = cond (is_other 32 b) 1 0

  bit_passes : (b : ℕ) → bit_of b ≡ 0 → is_of_text b ≡ true
  bit_passes b none = grind arith

  bit_tells : (b : ℕ) → bit_of b ≡ 1 → is_from 32 b ≡ false
  bit_tells b one = grind arith

  mask_few : mask_l (map (is_other 32) block) < 2 ^ 32
  mask_few = omega (arith, mask_l-lt (map (is_other 32) block), ap (λ n. 2 ^ n) (length-map block (is_other 32) ∙ long))

  other_at : (i : ℕ) → bit_at (mask_l (map (is_other 32) block)) i ≡ 1 → (i < 32) ⊎ (32 ≤ i) → (i < 32) × (is_from 32 (get_or piece (at + i) 0) ≡ false)
  other_at i one (inl less) = (less, bit_tells (get_or piece (at + i) 0) (sym (bit_is i less) ∙ one))
  other_at i one (inr more) = absurd (omega (arith, one, bit_at_above (mask_l (map (is_other 32) block)) 32 i mask_few more))

  pub leaves_others : LeavesOthers piece at (mask_l (map (is_other 32) block))
  leaves_others = record {
    few = mask_few;
    passed = λ i less none. bit_passes (get_or piece (at + i) 0) (sym (bit_is i less) ∙ none);
    others = λ i one. other_at i one (cases_lt i 32);
  }

-- the first bytes pass a test
pub all_pass_first : (p : ℕ → Bool) (xs : List ℕ) (n : ℕ) → n ≤ length xs → ((k : ℕ) → k < n → p (get_or xs k 0) ≡ true) → prefix_len p xs ≡ n + prefix_len p (drop n xs)
all_pass_first p xs zero few pass = omega arith
all_pass_first p [] (suc n) few pass = absurd (omega arith)
all_pass_first p (x ∷ xs) (suc n) few pass = rw (pass 0 (omega arith)) (omega (arith, (all_pass_first p xs n (omega arith) (λ k less. pass (suc k) (omega arith)))))

-- a byte from 20 to 7F is of a text
of_range : (b : ℕ) → is_from 32 b ≡ true → is_of_text b ≡ true
of_range b is = grind arith

-- the bytes of a block that are all from 20 to 7F are of a text
pub past_text : (n : ℕ) (piece : List ℕ) (at : ℕ) → at + n ≤ length piece → mask_l (map (is_other 32) (chunk at n piece)) ≡ 0 → prefix_len is_of_text (drop at piece) ≡ n + prefix_len is_of_text (drop (at + n) piece)
past_text n piece at within none =
    all_pass_first is_of_text (drop at piece) n (omega (arith, length-drop at piece, within))
    (λ k less. of_range (get_or (drop at piece) k 0) (prefix_len_passes (is_from 32) (drop at piece) k 0 (omega (arith, less, past_block 32 n piece at within none))))
    ∙ ap (λ xs. n + prefix_len is_of_text xs) (drop-drop n at piece)

-- what is known once some bits are left
module _ {piece : List ℕ} {at rest : ℕ} (within : at + 32 ≤ length piece) (k : LeavesOthers piece at rest) where
  pub goes_through : rest ≡ 0 → GoesThrough piece at
  goes_through none =
      all_pass_first is_of_text (drop at piece) 32 (omega (arith, length-drop at piece, within))
      (λ i less. ap is_of_text (get_or-drop at piece i 0) ∙ k.passed i less (ap (λ m. bit_at m i) none ∙ bit_at-zero i))
      ∙ ap (λ xs. 32 + prefix_len is_of_text xs) (drop-drop 32 at piece ∙ ap (λ i. drop i piece) (let e : at + 32 ≡ at + 32 = refl in e))

  module _ (some : 0 < rest) where
    fits : rest < 2 ^ 64
    fits = omega (arith, k.few)

    abbrev next : ℕ
    next = trailing_zeros w64 rest

    pub next_within : next < 32
    next_within = (k.others next (lowest rest some fits).1).0

    next_other : is_from 32 (get_or piece (at + next) 0) ≡ false
    next_other = (k.others next (lowest rest some fits).1).1

    neither : (b : ℕ) → is_some (format_effector b) ≡ false → is_from 32 b ≡ false → is_of_text b ≡ false
    neither b other none = grind arith

    effector_passes : (b : ℕ) → is_some (format_effector b) ≡ true → is_of_text b ≡ true
    effector_passes b is = grind arith

    pub ends_at : is_some (format_effector (get_or piece (at + next) 0)) ≡ false → EndsAt piece at (at + next)
    ends_at other = grind (arith, prefix_len_is, length-drop, next_within, get_or-drop, lowest, fits, neither, next_other)

    past_low : (i : ℕ) → i < 32 → bit_at (bit_and rest (rest - 1)) i ≡ 0 → is_some (format_effector (get_or piece (at + next) 0)) ≡ true → (i < next) ⊎ (next ≤ i) → (next < i) ⊎ (i ≤ next) → is_of_text (get_or piece (at + i) 0) ≡ true
    past_low i less none is before after = grind (arith, lowest, fits, effector_passes, cleared_high)

    still_other : (i : ℕ) → bit_at (bit_and rest (rest - 1)) i ≡ 1 → (i < next + 1) ⊎ (next + 1 ≤ i) → (i < 32) × (is_from 32 (get_or piece (at + i) 0) ≡ false)
    still_other i one which = grind (arith, cleared_low, fits, cleared_high)

    pub leaves_fewer : is_some (format_effector (get_or piece (at + next) 0)) ≡ true → LeavesOthers piece at (bit_and rest (rest - 1))
    leaves_fewer is = grind (arith, cleared_less, fits, past_low, cases_lt, still_other)
