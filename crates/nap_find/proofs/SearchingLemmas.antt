use Rattle.std.proofs.Common.{Bool, None, Some, ap, arith, false, if◌then◌else◌, inl, inr, refl, subst, suc, sym, true, zero, ℕ, ◌+◌, ◌-◌, ◌<◌, ◌==◌, ◌∙◌, ◌≡◌, ◌≤◌}
use Rattle.std.proofs.Math.Nat.{zero-add}
use Rattle.std.proofs.lemmas.Bool.{cases_lt, ne_eqb}
use Rattle.nap_find.specs.Searching.{count_from, first_down, first_from, greatest, last_few}

-- Steps of searches, as loops take them.

pub if_true : {A : Type 0} (b : Bool) (x y : A) → b ≡ true → (if b then x else y) ≡ x
if_true true x y is = refl
if_true false x y is = cc

pub if_false : {A : Type 0} (b : Bool) (x y : A) → b ≡ false → (if b then x else y) ≡ y
if_false true x y is = cc
if_false false x y is = refl

module _ (passes : ℕ → Bool) where
  pub first_from-end : (at n : ℕ) → n ≡ 0 → first_from passes at n ≡ None
  unfolding first_from
  first_from-end at n is = rw is refl

  pub first_from-hit : (at n m : ℕ) → n ≡ suc m → passes at ≡ true → first_from passes at n ≡ Some at
  unfolding first_from
  first_from-hit at n m is hit = rw is (if_true (passes at) (Some at) (first_from passes (at + 1) m) hit)

  pub first_from-miss : (at n m : ℕ) → n ≡ suc m → passes at ≡ false → first_from passes at n ≡ first_from passes (at + 1) m
  unfolding first_from
  first_from-miss at n m is miss = rw is (if_false (passes at) (Some at) (first_from passes (at + 1) m) miss)

  pub first_down-end : (at n : ℕ) → n ≡ 0 → first_down passes at n ≡ None
  unfolding first_down
  first_down-end at n is = rw is refl

  pub first_down-hit : (at n m : ℕ) → n ≡ suc m → passes at ≡ true → first_down passes at n ≡ Some at
  unfolding first_down
  first_down-hit at n m is hit = rw is (if_true (passes at) (Some at) (first_down passes (at - 1) m) hit)

  pub first_down-miss : (at n m : ℕ) → n ≡ suc m → passes at ≡ false → first_down passes at n ≡ first_down passes (at - 1) m
  unfolding first_down
  first_down-miss at n m is miss = rw is (if_false (passes at) (Some at) (first_down passes (at - 1) m) miss)

  pub greatest-end : (n : ℕ) → n ≡ 0 → greatest passes n ≡ 0
  unfolding greatest
  greatest-end n is = rw is refl

  pub greatest-hit : (n : ℕ) → 0 < n → passes n ≡ true → greatest passes n ≡ n
  unfolding greatest
  greatest-hit zero some hit = absurd (omega arith)
  greatest-hit (suc n) some hit = if_true (passes (suc n)) (suc n) (greatest passes n) hit

  pub greatest-miss : (n m : ℕ) → n ≡ suc m → passes n ≡ false → greatest passes n ≡ greatest passes m
  unfolding greatest
  greatest-miss n m is miss = rw is (if_false (passes (suc m)) (suc m) (greatest passes m) (rw is at miss))

  pub greatest-is : (n k : ℕ) → k ≤ n → passes k ≡ true → ((i : ℕ) → k < i → i ≤ n → passes i ≡ false) → greatest passes n ≡ k
  unfolding greatest
  greatest-is zero k within hit others = omega arith
  greatest-is (suc n) k within hit others =
      elim (cases_lt k (suc n)) [
        | inl below ↦
            if_false (passes (suc n)) (suc n) (greatest passes n) (others (suc n) below (omega arith))
            ∙ greatest-is n k (omega arith) hit (λ i above most. others i above (omega arith))
        | inr last ↦
            let same : k ≡ suc n = omega arith in
            if_true (passes (suc n)) (suc n) (greatest passes n) (subst (λ (i : ℕ). passes i ≡ true) same hit) ∙ sym same
      ]

  pub count_from-end : (at n : ℕ) → n ≡ 0 → count_from passes at n ≡ 0
  unfolding count_from
  count_from-end at n is = rw is refl

  pub count_from-hit : (at n m : ℕ) → n ≡ suc m → passes at ≡ true → count_from passes at n ≡ 1 + count_from passes (at + 1) m
  unfolding count_from
  count_from-hit at n m is hit = rw is (ap (λ (i : ℕ). i + count_from passes (at + 1) m) (if_true (passes at) 1 0 hit))

  pub count_from-miss : (at n m : ℕ) → n ≡ suc m → passes at ≡ false → count_from passes at n ≡ count_from passes (at + 1) m
  unfolding count_from
  count_from-miss at n m is miss = rw is (ap (λ (i : ℕ). i + count_from passes (at + 1) m) (if_false (passes at) 1 0 miss) ∙ zero-add (count_from passes (at + 1) m))

  pub last_few-end : (k at n : ℕ) → n ≡ 0 → last_few passes k at n ≡ at
  unfolding last_few
  last_few-end k at n is = rw is refl

  pub last_few-stop : (k at n m i : ℕ) → n ≡ suc m → i ≡ at + m → passes i ≡ true → k ≡ 0 → last_few passes k at n ≡ at + suc m
  unfolding last_few
  last_few-stop k at n m i is there hit none =
      rw (is, none) (if_true (passes (at + m)) (at + suc m) (last_few passes 0 at m) (subst (λ (j : ℕ). passes j ≡ true) there hit))

  pub last_few-hit : (k j at n m i : ℕ) → n ≡ suc m → i ≡ at + m → passes i ≡ true → k ≡ suc j → last_few passes k at n ≡ last_few passes j at m
  unfolding last_few
  last_few-hit k j at n m i is there hit some =
      let one : suc j - 1 ≡ j = omega arith in
      rw (is, some) (
      if_true (passes (at + m)) (if suc j == 0 then at + suc m else last_few passes (suc j - 1) at m) (last_few passes (suc j) at m) (subst (λ (j : ℕ). passes j ≡ true) there hit)
      ∙ if_false (suc j == 0) (at + suc m) (last_few passes (suc j - 1) at m) (ne_eqb (suc j) 0 (λ e. absurd (omega (arith, e))))
      ∙ ap (λ (k : ℕ). last_few passes k at m) one
      )

  pub last_few-miss : (k at n m i : ℕ) → n ≡ suc m → i ≡ at + m → passes i ≡ false → last_few passes k at n ≡ last_few passes k at m
  unfolding last_few
  last_few-miss k at n m i is there miss =
      rw is (if_false (passes (at + m)) (if k == 0 then at + suc m else last_few passes (k - 1) at m) (last_few passes k at m) (subst (λ (j : ℕ). passes j ≡ false) there miss))

  pub last_few-least : (k at n : ℕ) → at ≤ last_few passes k at n
  unfolding last_few
  last_few-least k at zero = omega arith
  last_few-least k at (suc n) =
      let h : at ≤ last_few passes k at n = last_few-least k at n in
      let i : at ≤ last_few passes (k - 1) at n = last_few-least (k - 1) at n in
      let j : at ≤ at + suc n = omega arith in
      elim (passes (at + n)) as (λ b. at ≤ (if b then (if k == 0 then at + suc n else last_few passes (k - 1) at n) else last_few passes k at n)) [
        | true ↦ elim (k == 0) as (λ b. at ≤ (if b then at + suc n else last_few passes (k - 1) at n)) [ true ↦ j | false ↦ i ]
        | false ↦ h
      ]

  pub last_few-most : (k at n : ℕ) → last_few passes k at n ≤ at + n
  unfolding last_few
  last_few-most k at zero = omega arith
  last_few-most k at (suc n) =
      let h : last_few passes k at n ≤ at + n = last_few-most k at n in
      let i : last_few passes (k - 1) at n ≤ at + n = last_few-most (k - 1) at n in
      elim (passes (at + n)) as (λ b. (if b then (if k == 0 then at + suc n else last_few passes (k - 1) at n) else last_few passes k at n) ≤ at + suc n) [
        | true ↦ elim (k == 0) as (λ b. (if b then at + suc n else last_few passes (k - 1) at n) ≤ at + suc n) [ true ↦ omega arith | false ↦ omega (arith, i) ]
        | false ↦ omega (arith, h)
      ]
