use Rattle.std.specs.Prelude.{Bool, List, [], drop, get_or, if◌then◌else◌, length, nat_le, nat_lt, ℕ, ◌&&◌, ◌*◌, ◌+◌, ◌-◌, ◌==◌, ◌∷◌}
use Rattle.std.specs.List.{starts_with}
use Rattle.nap_find.specs.Beginnings.{is_within}
use Rattle.nap_mend.specs.declared.sets.Span.{Span}

-- What a file has around its data: a container, and a record at the end.

-- the number of four bytes, the most significant first
abbrev pub number_at : List ℕ → ℕ → ℕ
number_at p at = get_or p at 0 * 16777216 + get_or p (at + 1) 0 * 65536 + get_or p (at + 2) 0 * 256 + get_or p (at + 3) 0

-- A MacBinary header has 128 bytes: 00, the length of a name, 00 at 74 and 82, and from 83 on the length of the data
-- fork, which fits.
abbrev pub is_macbinary : List ℕ → Bool
is_macbinary p =
    nat_le 128 (length p) && (get_or p 0 0 == 0) && is_within 1 64 (get_or p 1 0) && (get_or p 74 0 == 0) && (get_or p 82 0 == 0)
    && nat_le (128 + number_at p 83) (length p)

-- the data of a file: the data fork of a MacBinary file, else all bytes
abbrev pub data_of : List ℕ → Span
data_of p =
    if is_macbinary p then record { begin = 128; end = 128 + number_at p 83 } else record { begin = 0; end = length p }

-- whether these bytes begin with a word
abbrev pub begins_with_word : List ℕ → List ℕ → Bool
begins_with_word word p = starts_with (λ a b. a == b) p word

-- SAUCE00
abbrev pub sauce_word : List ℕ
sauce_word = 0x53 ∷ 0x41 ∷ 0x55 ∷ 0x43 ∷ 0x45 ∷ 0x30 ∷ 0x30 ∷ []

-- COMNT
abbrev pub comment_word : List ℕ
comment_word = 0x43 ∷ 0x4F ∷ 0x4D ∷ 0x4E ∷ 0x54 ∷ []

-- A SAUCE record is the last 128 bytes, and begins with SAUCE00.
abbrev pub has_sauce : List ℕ → Bool
has_sauce p = nat_le 128 (length p) && begins_with_word sauce_word (drop (length p - 128) p)

-- the number of bytes of its comments: COMNT and lines of 64, their number in byte 104 of the record
abbrev pub comment_length : List ℕ → ℕ → ℕ
comment_length p at = 5 + 64 * get_or p (at + 104) 0

-- whether comments stand before a record that begins there
abbrev pub has_comments : List ℕ → ℕ → Bool
has_comments p at =
    nat_lt 0 (get_or p (at + 104) 0) && nat_le (comment_length p at) at && begins_with_word comment_word (drop (at - comment_length p at) p)

-- the number of bytes before the comments
abbrev pub before_comments : List ℕ → ℕ → ℕ
before_comments p at = if has_comments p at then at - comment_length p at else at

-- the number of bytes before the 1A that ends n bytes, if one does
abbrev pub before_mark : List ℕ → ℕ → ℕ
before_mark p n = if nat_lt 0 n && (get_or p (n - 1) 0 == 0x1A) then n - 1 else n

-- the number of bytes before the record, its comments and the 1A before them
abbrev pub before_sauce : List ℕ → ℕ
before_sauce p = if has_sauce p then before_mark p (before_comments p (length p - 128)) else length p
