use Rattle.std.specs.Prelude.{ℕ, suc, zero, ◌+◌, ◌*◌, ◌/◌, ◌%◌, ◌^◌, List, [], ◌∷◌}

-- the value of a list of digits in a base, most significant first, at a given number of places; missing digits count as
-- zero
unfoldable pub value_of : ℕ → ℕ → List ℕ → ℕ
value_of base zero digits = 0
value_of base (suc places) [] = 0
value_of base (suc places) (digit ∷ digits) = digit * base ^ places + value_of base places digits

-- the digits of a number in a base, most significant first, at a given number of places
unfoldable pub digits_of : ℕ → ℕ → ℕ → List ℕ
digits_of base zero n = []
digits_of base (suc places) n = n / base ^ places ∷ digits_of base places (n % base ^ places)
