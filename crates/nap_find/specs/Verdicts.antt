use Rattle.std.specs.Prelude.{Bool, List, None, Option, Some, [], drop, if◌then◌else◌, length, max, nat_lt, not, suc, zero, ℕ, ◌&&◌, ◌+◌, ◌-◌, ◌==◌, ◌∷◌, ◌≤◌, ⊤}
use Rattle.nap_find.specs.Beginnings.{begins}
use Rattle.nap_find.specs.Ends.{page_end_of, retry_from}
use Rattle.nap_find.specs.Readings.{idle_limit, is_idle, reach}
use Rattle.nap_find.specs.Searching.{count_from, first_from}
use Rattle.nap_find.specs.declared.{find.Asked.Asked, verdict.Verdict.Verdict}

-- What is decided about the bytes of a row.

abbrev pub verdict_by_end : ℕ → Option ℕ → Verdict
verdict_by_end r None = Verdict.None r
verdict_by_end r (Some e) = Verdict.Page e

-- the verdict speaks of no more than n bytes
abbrev pub IsWithinBytes : ℕ → Verdict → Type 0
IsWithinBytes n (Verdict.Page e) = e ≤ n
IsWithinBytes n (Verdict.None r) = r ≤ n
IsWithinBytes n Verdict.Waits = ⊤

-- the verdict about bytes of which the first r are read; more of the row may follow
abbrev pub verdict_at : Asked → Bool → List ℕ → ℕ → Verdict
verdict_at asked more p r =
    if more && (r == length p) then Verdict.Waits
    else (if nat_lt r asked.bytes then Verdict.None r else verdict_by_end r (page_end_of asked p r))

-- whether there are fewer bytes than a page has, and no more follow
abbrev pub lacks_bytes : Bool → ℕ → ℕ → Bool
lacks_bytes more count least = not more && nat_lt count least

-- the verdict about bytes that may be idle
abbrev pub verdict_read : Asked → Bool → List ℕ → Verdict
verdict_read asked more p = if is_idle p then Verdict.None idle_limit else verdict_at asked more p (reach p)

-- the verdict about the bytes from a beginning on
unfoldable pub verdict : Asked → Bool → List ℕ → Verdict
verdict asked more p = if lacks_bytes more (length p) asked.bytes then Verdict.None 0 else verdict_read asked more p

-- a page, from its first byte to before its end
pub record Span : Type 0 where
  pub from : ℕ
  pub to : ℕ

-- the pages of a block; how many beginnings were passed over since too many came before a refused byte; and how many
-- bytes are decided
pub record Block : Type 0 where
  pub pages : List Span
  pub passed : ℕ
  pub decided : ℕ

abbrev pub with_page : ℕ → ℕ → Block → Block
with_page from to block = record block { pages = record { from = from; to = to } ∷ block.pages }

abbrev pub with_passed : ℕ → Block → Block
with_passed n block = record block { passed = n + block.passed }

-- what is decided when this many bytes are
abbrev pub decided_to : ℕ → Block
decided_to n = record { pages = []; passed = 0; decided = n }

-- the number of beginnings after the first byte and before the one that is tried next
abbrev pub passed_over : List ℕ → ℕ → ℕ
passed_over p r = count_from (begins p) 1 (retry_from p r - 1)

-- what follows from the verdict about a beginning, by what is decided from a place on
abbrev pub block_by : (ℕ → Block) → List ℕ → ℕ → Verdict → Block
block_by next p at (Verdict.Page e) = with_page at (at + e) (next (at + max e 1))
block_by next p at (Verdict.None r) = with_passed (passed_over p r) (next (at + retry_from p r))
block_by next p at Verdict.Waits = decided_to at

abbrev pub block_at : Asked → Bool → List ℕ → (ℕ → Block) → Option ℕ → Block
block_at asked more row next None = decided_to (length row)
block_at asked more row next (Some at) =
    block_by next (drop at row) at (verdict asked (more && nat_lt 0 at) (drop at row))

-- the next beginning
abbrev pub next_beginning : List ℕ → ℕ → Option ℕ
next_beginning row at = first_from (begins row) at (length row - at)

-- what is decided from a place on, in at most so many steps
unfoldable pub block_within : Asked → Bool → List ℕ → ℕ → ℕ → Block
block_within asked more row zero at = decided_to (length row)
block_within asked more row (suc fuel) at =
    block_at asked more row (block_within asked more row fuel) (next_beginning row at)

-- what is decided of a block of a row, of which more may follow
unfoldable pub block_of : Asked → Bool → List ℕ → Block
block_of asked more row =
    if nat_lt (length row) asked.bytes then decided_to (length row) else block_within asked more row (suc (length row)) 0
