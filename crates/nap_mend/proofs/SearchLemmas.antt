use Rattle.std.proofs.Common.{Bool, None, Some, false, if◌then◌else◌, refl, suc, true, ℕ, ◌+◌, ◌≡◌}
use Rattle.nap_find.specs.Searching.{first_from, greatest}

-- Steps of searches, as loops take them.

pub if_true : {A : Type 0} (b : Bool) (x y : A) → b ≡ true → (if b then x else y) ≡ x
if_true true x y is = refl
if_true false x y is = cc

pub if_false : {A : Type 0} (b : Bool) (x y : A) → b ≡ false → (if b then x else y) ≡ y
if_false true x y is = cc
if_false false x y is = refl

module _ (passes : ℕ → Bool) where
  pub first_ends : (at n : ℕ) → n ≡ 0 → first_from passes at n ≡ None
  unfolding first_from
  first_ends at n is = rw is refl

  pub first_hits : (at n m : ℕ) → n ≡ suc m → passes at ≡ true → first_from passes at n ≡ Some at
  unfolding first_from
  first_hits at n m is hit = rw is (if_true (passes at) (Some at) (first_from passes (at + 1) m) hit)

  pub first_misses : (at n m : ℕ) → n ≡ suc m → passes at ≡ false → first_from passes at n ≡ first_from passes (at + 1) m
  unfolding first_from
  first_misses at n m is miss = rw is (if_false (passes at) (Some at) (first_from passes (at + 1) m) miss)

  pub greatest_ends : (n : ℕ) → n ≡ 0 → greatest passes n ≡ 0
  unfolding greatest
  greatest_ends n is = rw is refl

  pub greatest_hits : (n m : ℕ) → n ≡ suc m → passes n ≡ true → greatest passes n ≡ n
  unfolding greatest
  greatest_hits n m is hit = rw is (if_true (passes (suc m)) (suc m) (greatest passes m) (rw is at hit))

  pub greatest_misses : (n m : ℕ) → n ≡ suc m → passes n ≡ false → greatest passes n ≡ greatest passes m
  unfolding greatest
  greatest_misses n m is miss = rw is (if_false (passes (suc m)) (suc m) (greatest passes m) (rw is at miss))
