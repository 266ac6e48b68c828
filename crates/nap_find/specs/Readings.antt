use Rattle.std.specs.Prelude.{Bool, List, None, Option, Some, is_none, length, nat_le, nat_lt, take, ℕ, false, true, ◌&&◌, ◌+◌, ◌<◌, ◌==◌, ◌||◌, ◌≡◌, ◌≤◌}
use Rattle.nap_list.specs.declared.entry.Entry.{Entry}
use Rattle.nap_reader.specs.Stream.{begun, means}
use Rattle.nap_find.specs.Searching.{greatest}
use Rattle.nap_list.specs.State.{start}
use Rattle.nap_find.specs.Shapes.{shapes_in}
use Rattle.nap_find.specs.declared.drawn_sink.DrawnSink.{DrawnSink}
use Rattle.nap_find.specs.declared.{find.Asked.Asked, reading.Extent.Extent}

-- Readings of bytes as a page.

-- the bytes of macro bodies that a reading may be charged
abbrev pub find_budget : ℕ
find_budget = 65536

-- the bytes in which a page has drawn a shape, if it is longer
abbrev pub idle_limit : ℕ
idle_limit = 8192

-- whether none of the bytes is refused
unfoldable pub is_read : List ℕ → Bool
is_read p = is_none (begun find_budget p).refusal

-- whether the first k bytes are read
abbrev pub reads : List ℕ → ℕ → Bool
reads p k = is_read (take k p)

-- how many of the bytes are read before one is refused
abbrev pub reach : List ℕ → ℕ
reach p = greatest (reads p) (length p)

-- the byte with this index is the first one that is refused
pub record IsRefusedAt (p : List ℕ) (n : ℕ) : Type 0 where
  pub within : n < length p
  pub before : reads p n ≡ true
  pub refused : reads p (n + 1) ≡ false

-- the first byte that is refused has this index, or none is refused
abbrev pub IsReadTo : List ℕ → Option ℕ → Type 0
IsReadTo p None = is_read p ≡ true
IsReadTo p (Some n) = IsRefusedAt p n

-- whether bytes draw a shape before one is refused
abbrev pub draws_shape : List ℕ → Bool
draws_shape p = nat_lt 0 (shapes_in (begun find_budget p).entries)

-- whether so many of the bytes are read, and they or the further ones draw a shape
unfoldable pub reads_and_draws : List ℕ → ℕ → Bool
reads_and_draws p least = reads p least && (draws_shape (take least p) || draws_shape p)

-- whether the bytes are an accepted stream
unfoldable pub is_accepted : List ℕ → Bool
is_accepted p = is_none (means find_budget p).refusal

-- whether the first k bytes are accepted
abbrev pub accepts : List ℕ → ℕ → Bool
accepts p k = is_accepted (take k p)

-- a sink that has counted nothing
abbrev pub nothing_drawn : DrawnSink
nothing_drawn = record { entries = 0; shapes = 0; state = record { state = start } }

-- whether a list has as many entries and shapes as are asked for
abbrev pub draws : Asked → List Entry → Bool
draws asked list = nat_le asked.entries (length list) && nat_le asked.shapes (shapes_in list)

-- whether the bytes are an accepted stream of the length asked for that draws what is asked for
unfoldable pub is_page : Asked → List ℕ → Bool
is_page asked p = nat_le asked.bytes (length p) && is_accepted p && draws asked (means find_budget p).entries

-- whether the first bytes, as many as the limit, are read and have drawn no shape, and more bytes follow
unfoldable pub is_idle : List ℕ → Bool
is_idle p = nat_lt idle_limit (length p) && reads p idle_limit && (shapes_in (begun find_budget (take idle_limit p)).entries == 0)

-- the bytes are accepted, and this says whether they are a page; or they are refused
abbrev pub IsTried : Asked → List ℕ → Option Bool → Type 0
IsTried asked p None = is_accepted p ≡ false
IsTried asked p (Some found) = (is_accepted p ≡ true) × (found ≡ is_page asked p)

-- how far bytes are read, or that they are idle; and if all are read, whether they are a page
abbrev pub IsExtent : Asked → List ℕ → Extent → Type 0
IsExtent asked p Extent.Idle = is_idle p ≡ true
IsExtent asked p (Extent.Refused n) = (is_idle p ≡ false) × (reach p ≡ n) × (n ≤ length p)
IsExtent asked p (Extent.Whole tried) = (is_idle p ≡ false) × (reach p ≡ length p) × IsTried asked p tried
