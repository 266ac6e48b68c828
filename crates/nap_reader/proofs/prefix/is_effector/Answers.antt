use Rattle.nap_reader.proofs.{Bool, List, None, Option, Some, TextStep, [], ap, arith, bit_and, cases_lt, control0_rows, drop, false, format_effector, format_effector_front, get_or, inl, inr, is_some, nat_tests, refl, row_of, suc, zero, ℕ, ◌/◌, ◌<◌, ◌^◌, ◌∷◌, ◌≡◌, ◌≤◌, ◌⊎◌}
use Rattle.std.proofs.Common.{nat_eq}
use Rattle.nap_reader.proofs.prefix.is_effector.Goals as goal

-- the answers of a test at the numbers below one, the greatest first
abbrev answers : (ℕ → Bool) → ℕ → List Bool
answers test zero = []
answers test (suc n) = test n ∷ answers test n

-- Two tests with the same answers agree.
agree : (f g : ℕ → Bool) (n k : ℕ) → answers f n ≡ answers g n → k < n → f k ≡ g k
agree f g zero k same less = absurd (omega arith)
agree f g (suc n) k same less = at (cases_lt k n) (agree f g n k (ap (drop 1) same))
  where
    at : (k < n) ⊎ (n ≤ k) → (k < n → f k ≡ g k) → f k ≡ g k
    at (inl lower) below = below lower
    at (inr upper) below = let here : k ≡ n = omega arith in rw here (ap (λ (bs : List Bool). get_or bs 0 false) same)

abbrev has_bit : ℕ → Bool
has_bit b = nat_eq (bit_and (0x4000_2F00 / 2 ^ b) 1) 1

abbrev is_named : ℕ → Bool
is_named b = is_some (format_effector b)

same_answers : answers has_bit 32 ≡ answers is_named 32
unfolding row_of control0_rows
same_answers = refl

-- No byte from 20 on is a format effector.
none_above : (b : ℕ) (step : Option TextStep) → format_effector b ≡ step → 32 ≤ b → is_some step ≡ false
none_above b None is above = refl
none_above b (Some step) is above = absurd (omega (arith, (format_effector_front b step is).0))

pub returns-then-byte-lt32 : goal.returns-then-byte-lt32
returns-then-byte-lt32 c = agree has_bit is_named 32 c.args.byte same_answers (omega arith)

pub returns-else-byte-lt32 : goal.returns-else-byte-lt32
returns-else-byte-lt32 c = rw (none_above c.args.byte _ refl (omega arith)) (grind (arith, nat_tests))
