use Rattle.std.specs.Prelude.{List, [], drop, length, take, true, ℕ, ◌++◌, ◌-◌, ◌∷◌, ◌≡◌, ◌≤◌}
use Rattle.nap_find.specs.Readings.{is_page}
use Rattle.nap_find.specs.Rows.{Finding, find_on, finds_of}
use Rattle.nap_find.specs.declared.{find.Asked.Asked, find.Find.Find}

-- Laws about finds.

-- the bytes from a place to before another are a page
abbrev pub IsPageIn : Asked → List ℕ → ℕ → ℕ → Type 0
IsPageIn asked bytes begin end = is_page asked (take (end - begin) (drop begin bytes)) ≡ true

-- The finds come in order from one place to before another, none overlaps the next, and each is a page.
abbrev pub ArePages : Asked → List ℕ → ℕ → ℕ → List Find → Type 0
ArePages asked bytes from to [] = from ≤ to
ArePages asked bytes from to (f ∷ fs) =
    (from ≤ f.begin) × (f.begin ≤ f.end) × IsPageIn asked bytes f.begin f.end × ArePages asked bytes f.end to fs

-- The finds of bytes are pages, in order and apart.
abbrev pub FindsArePages : Type 0
FindsArePages = (asked : Asked) (bytes : List ℕ) → ArePages asked bytes 0 (length bytes) (finds_of asked bytes)

-- What is known of bytes doesn't depend on how they are cut into pieces.
abbrev pub FoundInPieces : Type 0
FoundInPieces = (asked : Asked) (f : Finding) (p q : List ℕ) → find_on asked f (p ++ q) ≡ find_on asked (find_on asked f p) q
