use Rattle.std.specs.Prelude.{Bool, None, Option, Some, if◌then◌else◌, suc, zero, ℕ, ◌+◌, ◌-◌, ◌==◌}

-- Searches for numbers that pass a test.

-- the greatest number up to n that passes, or 0 if none does
unfoldable pub greatest : (ℕ → Bool) → ℕ → ℕ
greatest passes zero = zero
greatest passes (suc n) = if passes (suc n) then suc n else greatest passes n

-- the first of n numbers from `at` upwards that passes
unfoldable pub first_from : (ℕ → Bool) → ℕ → ℕ → Option ℕ
first_from passes at zero = None
first_from passes at (suc n) = if passes at then Some at else first_from passes (at + 1) n

-- the first of n numbers from `at` downwards that passes
unfoldable pub first_down : (ℕ → Bool) → ℕ → ℕ → Option ℕ
first_down passes at zero = None
first_down passes at (suc n) = if passes at then Some at else first_down passes (at - 1) n

-- how many of n numbers from `at` upwards pass
unfoldable pub count_from : (ℕ → Bool) → ℕ → ℕ → ℕ
count_from passes at zero = 0
count_from passes at (suc n) = (if passes at then 1 else 0) + count_from passes (at + 1) n

-- the least number from `at` upwards such that, of the numbers from it to before at + n, at most k pass
unfoldable pub last_few : (ℕ → Bool) → ℕ → ℕ → ℕ → ℕ
last_few passes k at zero = at
last_few passes k at (suc n) =
    if passes (at + n) then (if k == 0 then at + suc n else last_few passes (k - 1) at n) else last_few passes k at n
