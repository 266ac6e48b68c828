use Rattle.std.specs.Prelude.{Bool, List, drop, is_some, length, nat_le, nat_lt, not, ℕ, ◌&&◌, ◌+◌, ◌<◌, ◌==◌, ◌||◌, ◌≡◌}
use Rattle.nap_reader.specs.Names.{format_effector, prefix_len}

-- whether a byte is from this least one to 7F
abbrev pub is_from : ℕ → ℕ → Bool
is_from least b = nat_le least b && nat_lt b 128

-- whether a byte isn't from this least one to 7F
abbrev pub is_other : ℕ → ℕ → Bool
is_other least b = not (is_from least b)

-- whether a byte belongs to a text: a format effector of one byte, or from 20 to 7F
abbrev pub is_of_text : ℕ → Bool
is_of_text b = is_some (format_effector b) || is_from 0x20 b

-- whether a byte of a body is neither ESC nor above 7F
abbrev pub is_of_body : ℕ → Bool
is_of_body b = not (b == 0x1B) && nat_lt b 128

-- the 32 bytes from an index on all belong to a text
abbrev pub GoesThrough : List ℕ → ℕ → Type 0
GoesThrough piece at = prefix_len is_of_text (drop at piece) ≡ 32 + prefix_len is_of_text (drop (at + 32) piece)

-- the byte at this index is the first one from another index on that doesn't belong to a text
abbrev pub EndsAt : List ℕ → ℕ → ℕ → Type 0
EndsAt piece at end = (at + prefix_len is_of_text (drop at piece) ≡ end) × (end < length piece)
