use Rattle.std.specs.Prelude.{ℕ, suc, ◌≡◌, ◌<◌, ◌≤◌, ◌⊎◌, ◌↔◌, List, length, take, slice_index}
use Rattle.nap_codes.specs.Types.{Code, CodeFault, CodeSets}
use Rattle.nap_codes.specs.Front.{unfinished, complete, refused, front}
use Rattle.nap_codes.specs.Spelling.{Spells, SpellsRefused, IsPrefix, IsProperPrefix, bad_byte_fault}

-- A code is at the front exactly if the first bytes spell it.
abbrev pub CodeIsSpelled : Type 0
CodeIsSpelled = (sets : CodeSets) (xs : List ℕ) (code : Code) (n : ℕ) (after : CodeSets) →
    (front sets xs ≡ complete code n after) ↔ ((n ≤ length xs) × Spells sets (take n xs) code after)

-- The bytes before this index begin a spelling, and with the byte at it they don't.
pub record IsBadByte (sets : CodeSets) (xs : List ℕ) (i : ℕ) (fault : CodeFault) : Type 0 where
  pub begins : IsProperPrefix sets (take i xs)
  pub continues_none : ¬ IsPrefix sets (take (suc i) xs)
  pub fault_is : fault ≡ bad_byte_fault (take i xs) (slice_index xs i)

-- A byte is refused exactly if it is the last of a spelling that is refused, or continues no spelling.
abbrev pub RefusedIsSpelled : Type 0
RefusedIsSpelled = (sets : CodeSets) (xs : List ℕ) (fault : CodeFault) (i : ℕ) →
    (front sets xs ≡ refused fault i)
    ↔ ((i < length xs) × (SpellsRefused sets (take (suc i) xs) fault ⊎ IsBadByte sets xs i fault))

-- A list is unfinished exactly if it is a proper prefix of a spelling.
abbrev pub UnfinishedIsPrefix : Type 0
UnfinishedIsPrefix = (sets : CodeSets) (xs : List ℕ) → (front sets xs ≡ unfinished) ↔ IsProperPrefix sets xs
