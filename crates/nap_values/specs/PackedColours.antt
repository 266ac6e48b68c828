use Rattle.std.specs.Prelude.{ℕ, map}
use Rattle.nap_values.specs.{Digits.value_of, Digits.digits_of, Operands.g_digit, Operands.r_digit, Operands.b_digit, Spellings.words_of_triples, PackedCoordinates.words_in}

-- the 16 bits of green in the words that a number holds
unfoldable pub g_in : ℕ → ℕ
g_in n = value_of 4 8 (map g_digit (words_in n))

-- the 16 bits of red in the words that a number holds
unfoldable pub r_in : ℕ → ℕ
r_in n = value_of 4 8 (map r_digit (words_in n))

-- the 16 bits of blue in the words that a number holds
unfoldable pub b_in : ℕ → ℕ
b_in n = value_of 4 8 (map b_digit (words_in n))

-- the number whose words hold these 16 bits of green, red and blue
unfoldable pub packed_colour : ℕ → ℕ → ℕ → ℕ
packed_colour g r b = value_of 256 8 (words_of_triples (digits_of 4 8 g) (digits_of 4 8 r) (digits_of 4 8 b))
