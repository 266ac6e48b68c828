use Rattle.std.specs.Prelude.{ℕ, List, map, All}
use Rattle.nap_values.specs.{Digits.value_of, Digits.digits_of, Operands.x_digit, Operands.y_digit, Spellings.words_of_pairs, Laws.IsWord}

-- the eight words that a number holds, one to a byte, the first in the highest
unfoldable pub words_in : ℕ → List ℕ
words_in n = digits_of 256 8 n

-- each byte of the number holds a word
abbrev pub HoldsWords : ℕ → Type 0
HoldsWords n = All IsWord (words_in n)

-- the 24 bits of x in the words that a number holds
unfoldable pub x_in : ℕ → ℕ
x_in n = value_of 8 8 (map x_digit (words_in n))

-- the 24 bits of y in the words that a number holds
unfoldable pub y_in : ℕ → ℕ
y_in n = value_of 8 8 (map y_digit (words_in n))

-- the number whose words hold these 24 bits of x and of y
unfoldable pub packed_coordinates : ℕ → ℕ → ℕ
packed_coordinates x y = value_of 256 8 (words_of_pairs (digits_of 8 8 x) (digits_of 8 8 y))
