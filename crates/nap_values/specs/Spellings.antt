use Rattle.std.specs.Prelude.{ℕ, ◌+◌, ◌-◌, ◌*◌, ◌/◌, ◌%◌, List, [], ◌∷◌, map}
use Rattle.nap_values.specs.{TwosComplement.bits_of, Digits.digits_of, Coordinates.Coordinates, Coordinates.Displacement, Colours.Components}

-- the operand bytes that carry words
abbrev pub operand_bytes : List ℕ → List ℕ
operand_bytes words = map (λ word. 64 + word) words

-- the words that operand bytes carry
abbrev pub words_of : List ℕ → List ℕ
words_of bytes = map (λ byte. byte - 64) bytes

-- the words made of these three-bit digits of x and of y
unfoldable pub words_of_pairs : List ℕ → List ℕ → List ℕ
words_of_pairs [] ys = []
words_of_pairs (x ∷ xs) [] = []
words_of_pairs (x ∷ xs) (y ∷ ys) = (8 * x + y) ∷ words_of_pairs xs ys

-- the word made of these two-bit digits of green, red and blue
abbrev pub colour_word : ℕ → ℕ → ℕ → ℕ
colour_word g r b = g / 2 * 32 + r / 2 * 16 + b / 2 * 8 + g % 2 * 4 + r % 2 * 2 + b % 2

-- the words made of these two-bit digits of green, red and blue
unfoldable pub words_of_triples : List ℕ → List ℕ → List ℕ → List ℕ
words_of_triples [] rs bs = []
words_of_triples (g ∷ gs) [] bs = []
words_of_triples (g ∷ gs) (r ∷ rs) [] = []
words_of_triples (g ∷ gs) (r ∷ rs) (b ∷ bs) = colour_word g r b ∷ words_of_triples gs rs bs

-- the eight operand bytes that spell a displacement
unfoldable pub move_bytes : Displacement → List ℕ
move_bytes m = operand_bytes (words_of_pairs (digits_of 8 8 (bits_of m.x)) (digits_of 8 8 (bits_of m.y)))

-- the eight operand bytes that spell a point
unfoldable pub point_bytes : Coordinates → List ℕ
point_bytes p = operand_bytes (words_of_pairs (digits_of 8 8 p.x) (digits_of 8 8 p.y))

-- the four operand bytes that spell an address
unfoldable pub addr_bytes : ℕ → List ℕ
addr_bytes number = operand_bytes (digits_of 64 4 number)

-- the eight operand bytes that spell a colour
unfoldable pub grb_bytes : Components → List ℕ
grb_bytes c = operand_bytes (words_of_triples (digits_of 4 8 c.g) (digits_of 4 8 c.r) (digits_of 4 8 c.b))
