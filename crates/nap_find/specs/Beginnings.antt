use Rattle.std.specs.Prelude.{Bool, List, get_or, nat_le, nat_lt, ℕ, ◌&&◌, ◌+◌, ◌-◌, ◌==◌, ◌||◌}

-- Where a page can begin.

-- whether a number is from the first to before the last
abbrev pub is_within : ℕ → ℕ → ℕ → Bool
is_within first last b = nat_le first b && nat_lt b last

-- CS, SO or ESC
abbrev pub is_opener : ℕ → Bool
is_opener b = (b == 0x0C) || (b == 0x0E) || (b == 0x1B)

-- after ESC: DEF MACRO, DEFP MACRO or DEF DRCS with a name, or DEF TEXTURE with a mask
abbrev pub defines : ℕ → ℕ → Bool
defines c d = ((c == 0x40 || c == 0x41 || c == 0x43) && is_within 0x20 0x80 d) || (c == 0x44 && is_within 0x41 0x45 d)

-- a page begins with CS, with SO before an opcode, or with a definition
abbrev pub begins_with : ℕ → ℕ → ℕ → Bool
begins_with b c d = (b == 0x0C) || (b == 0x0E && is_within 0x20 0x40 c) || (b == 0x1B && defines c d)

-- whether a page can begin at this index
abbrev pub begins : List ℕ → ℕ → Bool
begins p at = begins_with (get_or p at 0) (get_or p (at + 1) 0) (get_or p (at + 2) 0)

-- whether a page begins anew at this index: with CS, or with SO before RESET or DOMAIN
abbrev pub begins_anew : List ℕ → ℕ → Bool
begins_anew p at = (get_or p at 0 == 0x0C) || (get_or p at 0 == 0x0E && is_within 0x20 0x22 (get_or p (at + 1) 0))

-- whether a beginning at this index only goes on with another: it comes after CS, or after SO, DOMAIN and a byte
abbrev pub goes_on : List ℕ → ℕ → Bool
goes_on p at = (get_or p (at - 1) 0 == 0x0C) || (get_or p (at - 3) 0 == 0x0E && get_or p (at - 2) 0 == 0x21)
