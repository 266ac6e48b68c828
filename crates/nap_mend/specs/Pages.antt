use Rattle.std.specs.Prelude.{Bool, List, None, Option, Some, [], drop, false, get_or, if◌then◌else◌, is_none, length, nat_lt, take, ℕ, ◌&&◌, ◌∷◌}
use Rattle.nap_reader.specs.Stream.{means}
use Rattle.nap_find.specs.Beginnings.{is_opener}
use Rattle.nap_find.specs.Rows.{finds_of}
use Rattle.nap_find.specs.declared.find.{Asked.Asked, Find.Find}
use Rattle.nap_mend.specs.Codes.{content_of, lead_of}
use Rattle.nap_mend.specs.Headers.{is_header}
use Rattle.nap_mend.specs.Sets.{bytes_in, first_in, has_none}
use Rattle.nap_mend.specs.declared.{bits.Bits.Bits, mended.PartKind.PartKind, page.Grade.Grade, page.Place.Place, sets.ByteSet.ByteSet, sets.Span.Span}

-- Where the page is in bytes without eighth bits.

-- the bytes of macro bodies that a page may be charged
abbrev pub mend_budget : ℕ
mend_budget = 1048576

-- whether bytes are an accepted stream
unfoldable pub is_stream : List ℕ → Bool
is_stream p = is_none (means mend_budget p).refusal

-- whether bytes are an accepted stream with an entry
unfoldable pub is_whole_page : List ℕ → Bool
is_whole_page p = is_stream p && nat_lt 0 (length (means mend_budget p).entries)

-- what is asked of finds
abbrev pub asked : Asked
asked = record { bytes = 4; entries = 1; shapes = 1 }

abbrev pub opens_at : List ℕ → Option ℕ → Bool
opens_at p None = false
opens_at p (Some k) = is_opener (get_or p k 0)

-- whether the first control is CS, SO or ESC
abbrev pub opens : List ℕ → Bool
opens p = opens_at p (first_in ByteSet.Controls p 0)

-- Whether bytes are the page, if they are what is left of the content. Where eighth bits came off, nobody knows which
-- bytes had one before: their first control must be one that begins a page.
abbrev pub is_content : Bits → List ℕ → Bool
is_content Bits.None p = is_whole_page p
is_content bits p = opens p && is_whole_page p

-- what leads before the content
abbrev pub lead_kind : List ℕ → PartKind
lead_kind p = if (lead_of p).codes then PartKind.Code else PartKind.Fill

-- the place of the content
abbrev pub content_place : List ℕ → Place
content_place p = record {
  grade = Grade.Around;
  before = lead_kind p;
  begin = (content_of p).begin;
  end = (content_of p).end;
  after = PartKind.Fill;
}

-- whether what is around a find isn't of the page: a header before it, and fills after it
abbrev pub is_around : List ℕ → Span → Bool
is_around p find = is_header (take find.begin p) (get_or p find.begin 0) && has_none ByteSet.NotFill (drop find.end p)

-- the place of a find
abbrev pub find_place : List ℕ → Span → Place
find_place p find = record {
  grade = if is_around p find then Grade.Around else Grade.Alone;
  before = PartKind.Header;
  begin = find.begin;
  end = find.end;
  after = if is_around p find then PartKind.Fill else PartKind.Rest;
}

-- where a page is that has this place
abbrev pub span_of : Place → Span
span_of place = record { begin = place.begin; end = place.end }

-- the only find, if there is one
abbrev pub only_of : List Find → Option Span
only_of (find ∷ []) = Some (record { begin = find.begin; end = find.end })
only_of _ = None

-- the place of the only find, if there is one, and it is a page
abbrev pub place_by_find : List ℕ → Option Span → Option Place
place_by_find p None = None
place_by_find p (Some find) = if is_whole_page (bytes_in find p) then Some (find_place p find) else None

-- the place of the page in bytes that had these eighth bits: the content, if that is one, else the only find
unfoldable pub place_of : Bits → List ℕ → Option Place
place_of bits p =
    if is_content bits (bytes_in (content_of p) p) then Some (content_place p) else place_by_find p (only_of (finds_of asked p))
