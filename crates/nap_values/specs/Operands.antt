use Rattle.std.specs.Prelude.{ℕ, ◌+◌, ◌*◌, ◌/◌, ◌%◌, List, map}
use Rattle.nap_values.specs.{TwosComplement.signed_of, Digits.value_of, Coordinates.Displacement, Colours.Components}

-- the words that bytes carry: the low six bits of each
abbrev pub operand_words : List ℕ → List ℕ
operand_words bytes = map (λ byte. byte % 64) bytes

-- the three bits of a word that belong to x
abbrev pub x_digit : ℕ → ℕ
x_digit word = word / 8

-- the three bits of a word that belong to y
abbrev pub y_digit : ℕ → ℕ
y_digit word = word % 8

-- the displacement that the words of a multi-value operand spell: three bits of each word belong to x and three to y,
-- most significant first, in two's complement
unfoldable pub multi_of : List ℕ → Displacement
multi_of words = record {
  x = signed_of (value_of 8 8 (map x_digit words));
  y = signed_of (value_of 8 8 (map y_digit words));
}

-- the number that the words of a single-value operand spell, most significant first
unfoldable pub single_of : List ℕ → ℕ
single_of words = value_of 64 4 words

-- the two bits of a word that belong to each component; the bits of a word are green, red, blue, green, red, blue
abbrev pub g_digit : ℕ → ℕ
g_digit word = word / 32 * 2 + word / 4 % 2

abbrev pub r_digit : ℕ → ℕ
r_digit word = word / 16 % 2 * 2 + word / 2 % 2

abbrev pub b_digit : ℕ → ℕ
b_digit word = word / 8 % 2 * 2 + word % 2

-- the colour that the words of a multi-value operand spell: two bits of each word belong to each component, most
-- significant first
unfoldable pub colour_of : List ℕ → Components
colour_of words = record {
  g = value_of 4 8 (map g_digit words);
  r = value_of 4 8 (map r_digit words);
  b = value_of 4 8 (map b_digit words);
}
