use Rattle.std.specs.Prelude.{Bool, List, drop, false, get_or, if◌then◌else◌, length, nat_lt, not, suc, zero, ℕ, ◌&&◌, ◌+◌, ◌==◌, ◌||◌}
use Rattle.nap_find.specs.Beginnings.{is_within}
use Rattle.nap_mend.specs.Codes.{is_placed, is_placing, lead_length}
use Rattle.nap_mend.specs.Sets.{is_blank_byte}
use Rattle.nap_mend.specs.declared.header.Header.{Header}

-- Headers: what a program wrote before a page.

-- CS, SO, SS2, ESC and SS3, which no header has
abbrev pub is_of_page : ℕ → Bool
is_of_page b = (b == 0x0C) || (b == 0x0E) || (b == 0x19) || (b == 0x1B) || (b == 0x1D)

-- C0 bytes without effect; SI is one while G0 is in use
abbrev pub has_no_effect : ℕ → Bool
has_no_effect b = nat_lt b 7 || is_within 0x0F 0x18 b

-- before any byte
abbrev pub no_header : Header
no_header = record { end = 0; acts = false; placed = false; bad = false }

-- whether something acts after one more byte, which is no code or fill; from 80 on it ends what acts
abbrev pub acts_after : Bool → ℕ → Bool
acts_after acts b = nat_lt b 128 && (acts || not (has_no_effect b))

-- the header with one more byte, which is no code or fill
abbrev pub header_with_byte : Header → ℕ → Header
header_with_byte h b = record { end = h.end + 1; acts = acts_after h.acts b; placed = h.placed && nat_lt b 128; bad = h.bad || is_of_page b }

-- the header with a code or fill of n bytes, which ends what acts unless it is blank
abbrev pub header_with_code : List ℕ → Header → ℕ → Header
header_with_code p h n =
    if is_blank_byte (get_or p h.end 0) then record h { end = h.end + 1 }
    else record { end = h.end + n; acts = false; placed = is_placed p h.end n; bad = h.bad }

abbrev pub header_with : List ℕ → Header → ℕ → Header
header_with p h n = if n == 0 then header_with_byte h (get_or p h.end 0) else header_with_code p h n

-- the header with at most so many more bytes, codes and fills
unfoldable pub header_within : List ℕ → ℕ → Header → Header
header_within p zero h = h
header_within p (suc n) h =
    if nat_lt h.end (length p) then header_within p n (header_with p h (lead_length (drop h.end p))) else h

abbrev pub header_of : List ℕ → Header
header_of p = header_within p (length p) no_header

-- whether bytes can be a header, with what leads, before a page that begins with this byte: none is of a page, and after
-- the last one that no page has nothing acts
abbrev pub is_header : List ℕ → ℕ → Bool
is_header p b = not (header_of p).bad && not (header_of p).acts && (not (header_of p).placed || is_placing b)
