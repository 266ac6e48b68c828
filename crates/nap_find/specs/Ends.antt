use Rattle.std.specs.Prelude.{Bool, List, None, Option, Some, drop, get_or, if◌then◌else◌, length, min, nat_lt, not, take, ℕ, ◌&&◌, ◌+◌, ◌-◌, ◌≡◌, ◌≤◌}
use Rattle.nap_find.specs.Beginnings.{begins, begins_anew, goes_on}
use Rattle.nap_find.specs.Readings.{accepts, is_page, reads_and_draws}
use Rattle.nap_find.specs.Searching.{first_down, first_from, greatest, last_few}
use Rattle.nap_find.specs.declared.{end.End.End, find.Asked.Asked}

-- Where a page ends, of bytes that begin with it. The first r bytes are read, and the next one is refused.

-- the number of readings that begin before a refused byte and are tried, the first of them included
abbrev pub most_readings : ℕ
most_readings = 16

-- the number of other beginnings before a refused byte at which another page may begin
abbrev pub most_others : ℕ
most_others = 7

-- the number of ends that are tried, one before another
abbrev pub end_tries : ℕ
end_tries = 32

-- the number of further bytes in which another page draws a shape
abbrev pub draw_limit : ℕ
draw_limit = 1024

-- whether the byte at this index can be an opcode, and no operand
abbrev pub is_code_byte : List ℕ → ℕ → Bool
is_code_byte p at = nat_lt (get_or p at 0) 0x40

-- the index of the last code byte before r
abbrev pub last_code : List ℕ → ℕ → ℕ
last_code p r = greatest (is_code_byte p) (r - 1)

-- the first accepted end at or before this one
abbrev pub end_before : List ℕ → ℕ → Option ℕ
end_before p e = first_down (accepts p) e end_tries

-- the first of two that is there
abbrev pub either : Option ℕ → Option ℕ → Option ℕ
either None other = other
either (Some n) other = Some n

-- The end by the bytes that are read: the first accepted one before a refused byte; else before the last code byte.
abbrev pub own_end : List ℕ → ℕ → Option ℕ
own_end p r = either (end_before p r) (end_before p (last_code p r))

-- the first of the last beginnings before r
abbrev pub retry_from : List ℕ → ℕ → ℕ
retry_from p r = last_few (begins p) (most_readings - 1) 1 (r - 1)

-- the first of the last few of them
abbrev pub others_from : List ℕ → ℕ → ℕ
others_from p r = last_few (begins p) most_others 1 (r - 1)

-- the bytes from an index on by which another page is known
abbrev pub bytes_of_next : Asked → List ℕ → ℕ → ℕ → List ℕ
bytes_of_next asked p r at = take (min (length p) (r + asked.bytes + draw_limit) - at) (drop at p)

-- whether another page begins at this index: what is before it is a page; and what is after it draws a shape, and is
-- read past r, by the least length of a page
abbrev pub is_next : Asked → List ℕ → ℕ → ℕ → Bool
is_next asked p r at =
    begins p at && not (goes_on p at) && reads_and_draws (bytes_of_next asked p r at) (r + asked.bytes - at) && is_page asked (take at p)

-- the last beginning anew at which another page begins
abbrev pub next_anew : Asked → List ℕ → ℕ → Option ℕ
next_anew asked p r = first_down (λ at. begins_anew p at && is_next asked p r at) (r - 1) (r - retry_from p r)

-- the first other beginning at which another page begins
abbrev pub next_other : Asked → List ℕ → ℕ → Option ℕ
next_other asked p r = first_from (λ at. not (begins_anew p at) && is_next asked p r at) (others_from p r) (r - others_from p r)

-- where another page begins before r, if more bytes follow r than a page has at least
abbrev pub next_page : Asked → List ℕ → ℕ → Option ℕ
next_page asked p r = if nat_lt (r + asked.bytes) (length p) then either (next_anew asked p r) (next_other asked p r) else None

-- the end of a page, given its own end
abbrev pub end_by : Asked → List ℕ → ℕ → Option ℕ → Option ℕ
end_by asked p r None = next_page asked p r
end_by asked p r (Some e) = if is_page asked (take e p) then either (next_page asked p r) (Some e) else None

-- the end of the page that the bytes begin with, if there is one
unfoldable pub page_end_of : Asked → List ℕ → ℕ → Option ℕ
page_end_of asked p r = end_by asked p r (own_end p r)

-- this is the accepted end, if there is one, with the answer whether the bytes before it are a page
abbrev pub IsEndFound : Asked → List ℕ → Option ℕ → Option End → Type 0
IsEndFound asked p o None = o ≡ None
IsEndFound asked p o (Some end) = (o ≡ Some end.at) × (end.is_page ≡ is_page asked (take end.at p)) × (end.at ≤ length p)
