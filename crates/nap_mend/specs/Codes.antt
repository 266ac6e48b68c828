use Rattle.std.specs.Prelude.{Bool, List, None, Option, Some, drop, false, get_or, if◌then◌else◌, length, max, not, suc, zero, ℕ, ◌%◌, ◌&&◌, ◌+◌, ◌==◌, ◌||◌}
use Rattle.nap_find.specs.Beginnings.{is_within}
use Rattle.nap_mend.specs.Sets.{before_run, first_in, is_in}
use Rattle.nap_mend.specs.declared.{codes.Lead.Lead, sets.ByteSet.ByteSet, sets.Span.Span}

-- What may come before a page and isn't of it: CAN, NSR, announcers and fills.

-- whether the place of NSR follows: two bytes from 40 to 7F
abbrev pub has_place : List ℕ → Bool
has_place p = is_within 0x40 0x80 (get_or p 1 0) && is_within 0x40 0x80 (get_or p 2 0)

abbrev pub announcer_by : List ℕ → Option ℕ → ℕ
announcer_by p None = 0
announcer_by p (Some k) = if is_within 0x30 0x7F (get_or p k 0) then k + 1 else 0

-- the number of bytes of an announcer: ESC, a byte from 20 to 27, any number of them from 20 to 2F, and one from 30 to 7E
abbrev pub announcer_length : List ℕ → ℕ
announcer_length p = if is_within 0x20 0x28 (get_or p 1 0) then announcer_by p (first_in ByteSet.NotIntermediate p 2) else 0

-- the number of bytes of CAN, of NSR with its place or of an announcer
abbrev pub code_length : List ℕ → ℕ
code_length p =
    if get_or p 0 0 == 0x18 then 1
    else (if get_or p 0 0 == 0x1F then (if has_place p then 3 else 1) else (if get_or p 0 0 == 0x1B then announcer_length p else 0))

-- the number of bytes of such a code, or of a fill, that these bytes begin with; or 0
abbrev pub lead_length : List ℕ → ℕ
lead_length p = if length p == 0 then 0 else (if is_in ByteSet.Fills (get_or p 0 0) then 1 else code_length p)

-- whether NSR with a place begins there, if this is its length
abbrev pub is_placed : List ℕ → ℕ → ℕ → Bool
is_placed p at n = (n == 3) && (get_or p at 0 == 0x1F)

-- after CS, APS or APH text has a place of the page's own
abbrev pub is_placing : ℕ → Bool
is_placing b = (b % 128 == 0x0C) || (b % 128 == 0x1C) || (b % 128 == 0x1E)

-- before any byte
abbrev pub no_lead : Lead
no_lead = record { end = 0; placed = false; codes = false }

-- what leads, with one more code or fill of n bytes
abbrev pub with_lead : List ℕ → Lead → ℕ → Lead
with_lead p lead n = record {
  end = lead.end + n;
  placed = lead.placed || is_placed p lead.end n;
  codes = lead.codes || not (is_in ByteSet.Fills (get_or p lead.end 0));
}

-- what leads, with at most so many more codes and fills
unfoldable pub lead_within : List ℕ → ℕ → Lead → Lead
lead_within p zero lead = lead
lead_within p (suc n) lead =
    if lead_length (drop lead.end p) == 0 then lead
    else lead_within p n (with_lead p lead (lead_length (drop lead.end p)))

-- NSR with a place leads only where the page says itself where its text begins.
abbrev pub placed_lead : List ℕ → Lead → Lead
placed_lead p lead = if lead.placed && not (is_placing (get_or p lead.end 0)) then no_lead else lead

-- the codes and fills that bytes begin with
abbrev pub lead_of : List ℕ → Lead
lead_of p = placed_lead p (lead_within p (length p) no_lead)

-- Blanks after the last code stay with the page.
abbrev pub content_begin : List ℕ → ℕ
content_begin p = before_run ByteSet.Blanks p (lead_of p).end

abbrev pub stop_or : ℕ → Option ℕ → ℕ
stop_or n None = n
stop_or n (Some k) = k

-- Of the fills at the end those from the first one on that no page has aren't of the page.
abbrev pub content_end : List ℕ → ℕ
content_end p = stop_or (length p) (first_in ByteSet.Stops p (before_run ByteSet.Fills p (length p)))

-- bytes without the codes and fills around them
abbrev pub content_of : List ℕ → Span
content_of p = record { begin = content_begin p; end = max (content_begin p) (content_end p) }
