use Rattle.nap_reader.proofs.Common.{All, All-head, All-tail, Bool, Fits, IsOver, IsTextByte, IsWholeRun, List, OpenRun, Option, Some, [], ap, append_assoc, ap₂, arith, chunk-drop, cond, count_trailing_zeros, drop, eq-eqb, eqb, get_or, get_or-drop, get_or-take, is_from, is_of_text, is_operand_byte, is_other, leading_from_mask_l, leb, length, length-chunk, length-drop, length-map, length-prefix_len, length-take-le, map, map-append, mask_l-mod, nat_tests, ne_eqb, not, operand_words, prefix_len, prefix_len-append, prefix_len-le-length, prefix_len_passes, prefix_len_stops, refl, replicate, run_by, sym, take, take-append-drop, trailing_mask_l, true, w8, ℕ, ◌%◌, ◌*◌, ◌++◌, ◌+◌, ◌-◌, ◌<◌, ◌^◌, ◌∙◌, ◌∷◌, ◌≡◌, ◌≢◌, ◌≤◌}
use lib.Lanes.{Each1, chunk, mask_l, top, zip2}

-- Operand bytes of a prefix, and their words. Bytes of a range in a prefix, counted in blocks by the mask of the
-- others.

-- what a test tells of elements is true of all elements of a prefix that passes it
pub prefix_all : {X : Type 0} (P : X → Type 0) (test : X → Bool) (xs : List X) (n : ℕ) → ((x : X) → test x ≡ true → P x) → n ≤ prefix_len test xs → All P (take n xs)
prefix_all P test xs n passes few k d less =
    let fewer : k < n = omega (arith, less, length-take-le n xs (omega (arith, few, prefix_len-le-length test xs))) in
    rw (get_or-take n xs k d fewer) (passes (get_or xs k d) (prefix_len_passes test xs k d (omega arith)))

pub operands_prefix : (bytes : List ℕ) (n : ℕ) → n ≤ prefix_len is_operand_byte bytes → All (λ b. is_operand_byte b ≡ true) (take n bytes)
operands_prefix bytes n few = prefix_all (λ b. is_operand_byte b ≡ true) is_operand_byte bytes n (λ b is. is) few

-- no operand comes after the operand bytes of a prefix
pub run_over : (piece following : List ℕ) (n : ℕ) → n ≡ prefix_len is_operand_byte piece → (n ≡ length piece → IsOver following) → IsOver (drop n piece ++ following)
run_over piece following n counted over = by (drop n piece) refl
  where
    by : (bs : List ℕ) → drop n piece ≡ bs → IsOver (drop n piece ++ following)
    by [] none = rw none (over (omega (arith, counted, prefix_len-le-length is_operand_byte piece, ap length none, length-drop n piece)))
    by (b ∷ bs) some =
        let here = ap (λ (bs : List ℕ). get_or bs 0 0) (sym some) ∙ get_or-drop n piece 0 0 ∙ ap (λ (i : ℕ). get_or piece i 0) (let e : n + 0 ≡ prefix_len is_operand_byte piece = omega (arith, counted) in e) in
        record { byte = b; rest = bs ++ following; is = rw some; other = rw here (prefix_len_stops is_operand_byte piece 0 (omega (arith, counted, ap length some, length-drop n piece))) }

-- the operand bytes of a prefix are a complete run if another byte comes after them
pub whole_run_is : (piece following : List ℕ) (n : ℕ) → n ≡ prefix_len is_operand_byte piece → (n ≡ length piece → IsOver following) → IsWholeRun piece following (take n piece)
whole_run_is piece following n counted over =
    let few : n ≤ length piece = omega (arith, counted, prefix_len-le-length is_operand_byte piece) in
    record {
      within = omega (arith, length-take-le n piece few, few);
      operands = operands_prefix piece n (omega (arith, counted));
      rest = drop n piece ++ following;
      front = ap (λ (bs : List ℕ). bs ++ following) (sym (take-append-drop n piece)) ∙ append_assoc (take n piece) (drop n piece) following;
      over = run_over piece following n counted over;
    }

same_word : (b : ℕ) → is_operand_byte b ≡ true → b % 64 ≡ b - 64
same_word b is = grind (arith, nat_tests)

-- operand bytes carry the words that they are read as
pub same_words : (bytes : List ℕ) → All (λ b. is_operand_byte b ≡ true) bytes → operand_words bytes ≡ map (λ b. b - 64) bytes
same_words [] all = refl
same_words (b ∷ bytes) all =
    ap₂ (λ w ws. w ∷ ws) (same_word b (All-head (λ x. is_operand_byte x ≡ true) b bytes all))
    (same_words bytes (All-tail (λ x. is_operand_byte x ≡ true) b bytes all))

-- The operand bytes that an open run keeps.

-- operand bytes after those of an open run are as many further words
pub more_words : (open_run : Option OpenRun) (opened : OpenRun) (bytes more : List ℕ) → open_run ≡ Some opened → All (λ b. is_operand_byte b ≡ true) more →
    run_by open_run (bytes ++ more) ≡ run_by open_run bytes ++ map (λ b. b - 64) more
more_words open_run opened bytes more is all = rw is (map-append (λ b. b % 64) bytes more ∙ ap (λ (ys : List ℕ). operand_words bytes ++ ys) (same_words more all))

-- ---- the mask of a block

abbrev pub at_most : ℕ → ℕ → ℕ
at_most a b = cond (leb a b) 255 0

abbrev pub minus : ℕ → ℕ → ℕ
minus a b = (a + (256 - b)) % 256

other_byte : (least b : ℕ) → least < 128 → b < 256 → top 7 (at_most (128 - least) (minus b least)) ≡ is_other least b
other_byte least b small fits = grind (arith, nat_tests)

other_lanes : (least : ℕ) (v : List ℕ) → least < 128 → Each1 (Fits w8) v → map (top 7) (zip2 at_most (replicate (length v) (128 - least)) (zip2 minus v (replicate (length v) least))) ≡ map (is_other least) v
other_lanes least [] small fits = refl
other_lanes least (b ∷ v) small fits = ap₂ (λ x xs. x ∷ xs) (other_byte least b small fits.0.fits) (other_lanes least v small fits.1)

pub other_mask : (least n : ℕ) (v : List ℕ) → least < 128 → n ≤ 64 → length v ≡ n → Each1 (Fits w8) v → mask_l (map (top 7) (zip2 at_most (replicate n (128 - least)) (zip2 minus v (replicate n least)))) % 2 ^ 64 ≡ mask_l (map (is_other least) v)
other_mask least n v small few long fits =
    ap (λ n. mask_l (map (top 7) (zip2 at_most (replicate n (128 - least)) (zip2 minus v (replicate n least)))) % 2 ^ 64) (sym long)
    ∙ ap (λ l. mask_l l % 2 ^ 64) (other_lanes least v small fits)
    ∙ mask_l-mod (map (is_other least) v) 64 (omega (arith, length-map v (is_other least), long, few))

-- ---- the first of the bytes that are left

not-not : (b : Bool) → not (not b) ≡ b
not-not b = grind arith

none_other : (x : Bool) (n l m : ℕ) → n ≤ l → cond (not x) (1 + n) 0 ≡ 1 + l → (n ≡ l → m ≡ 0) → cond x 1 0 + 2 * m ≡ 0
none_other x n l m le e rest = grind arith

all_pass : (least : ℕ) (bytes : List ℕ) → prefix_len (λ b. not (is_other least b)) bytes ≡ length bytes → mask_l (map (is_other least) bytes) ≡ 0
all_pass least [] e = refl
all_pass least (b ∷ bytes) e = none_other (is_other least b) _ (length bytes) _ (prefix_len-le-length (λ x. not (is_other least x)) bytes) (omega arith) (all_pass least bytes)

-- a block of n bytes from an index on
module _ (least n : ℕ) (piece : List ℕ) (i : ℕ) (space : i + n ≤ length piece) where
  abbrev block : List ℕ
  block = chunk i n piece

  by_block : prefix_len (is_from least) (drop i piece) ≡ cond (eqb (prefix_len (is_from least) block) (length block)) (length block + prefix_len (is_from least) (drop (i + n) piece)) (prefix_len (is_from least) block)
  by_block = ap (prefix_len (is_from least)) (chunk-drop i n piece) ∙ prefix_len-append (is_from least) block (drop (i + n) piece)

  -- a block with bytes of the range alone
  pub past_block : mask_l (map (is_other least) block) ≡ 0 → prefix_len (is_from least) (drop i piece) ≡ n + prefix_len (is_from least) (drop (i + n) piece)
  past_block none =
      let all = simp not-not at (leading_from_mask_l (is_other least) block none) in
      by_block ∙ rw (all, eq-eqb (length block) (length block) refl, length-chunk i n piece space)

  -- A block with another byte ends the bytes of the range.

  ends : 0 < mask_l (map (is_other least) block) → prefix_len (is_from least) block ≢ length block
  ends some all = omega (arith, some, all_pass least block (simp not-not all))

  pub in_block : (others : ℕ) → others ≡ mask_l (map (is_other least) block) → n ≤ 64 → 0 < others → prefix_len (is_from least) (drop i piece) ≡ count_trailing_zeros 64 others
  in_block others is few some = grind (arith, not-not, trailing_mask_l, length-chunk, by_block, ne_eqb, all_pass)

  pub ends_in_block : 0 < mask_l (map (is_other least) block) → prefix_len (is_from least) (drop i piece) < n
  ends_in_block some =
      let whole = rw (ne_eqb (prefix_len (is_from least) block) (length block) (ends some)) at by_block in
      omega (arith, whole, ends some, prefix_len-le-length (is_from least) block, length-chunk i n piece space)

-- ---- the first bytes

pub at_prefix : (test : ℕ → Bool) (piece bytes : List ℕ) → bytes ≡ take (prefix_len test piece) piece → (length bytes ≤ length piece) × (take (length bytes) piece ≡ bytes)
at_prefix test piece bytes is = rw (is, length-prefix_len test piece) (prefix_len-le-length test piece, refl)

-- ---- bytes of a text

-- a byte of a text is a format effector of one byte, or a code of a set
pub of_text_is : (b : ℕ) → is_of_text b ≡ true → IsTextByte b
of_text_is b is none = grind (arith, nat_tests)
