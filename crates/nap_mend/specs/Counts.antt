use Rattle.std.specs.Prelude.{List, None, Option, Some, false, length, true, ℕ, ◌≡◌}
use Rattle.nap_reader.specs.Stream.{means}
use Rattle.nap_mend.specs.Pages.{is_stream, mend_budget}

-- the bytes are an accepted stream with this number of entries; or they are refused
abbrev pub CountsStream : List ℕ → Option ℕ → Type 0
CountsStream p None = is_stream p ≡ false
CountsStream p (Some n) = (is_stream p ≡ true) × (n ≡ length (means mend_budget p).entries)
