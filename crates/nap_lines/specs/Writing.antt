use Rattle.std.specs.Prelude.{ℕ, ◌≡◌, ◌<◌, ◌≤◌, ◌+◌, ◌*◌, ◌++◌, List, Result, Ok, Err, length, take, vec_len, vec_capacity}
use Rattle.std.specs.{declared.vec.Vec.Vec, Str.IsUtf8}
use Rattle.nap_list.specs.declared.entry.Entry.{Entry}

-- the greatest number of bytes of a line, if the entry isn't a shape
abbrev pub line_limit : ℕ
line_limit = 256

-- These bytes, at most n, were prepended to a buffer.
pub record Pushes (n : ℕ) (bytes old new : List ℕ) : Type 0 where
  pub text : new ≡ bytes ++ old
  pub size : length new ≤ length old + n

-- A text grew by at most n bytes; or memory ran out, since its memory had no room for so many. No memory was given back.
abbrev pub NeedsUpTo : {X Z E : Type 0} → ℕ → Vec X Z → Vec X Z → Result (Unit {0}) E → Type 0
NeedsUpTo n old new (Ok done) = (vec_capacity old ≤ vec_capacity new) × (vec_len new ≤ vec_len old + n)
NeedsUpTo n old new (Err fault) = (vec_capacity old ≤ vec_capacity new) × (vec_capacity old < vec_len old + n)

-- A text grew by `written` of n lines, of at most 256 bytes each; if these are fewer, its memory had no room for n lines.
abbrev pub NeedsLines : {X Z : Type 0} → ℕ → Vec X Z → Vec X Z → ℕ → Type 0
NeedsLines n old new written = (vec_capacity old ≤ vec_capacity new) × (vec_len new ≤ vec_len old + line_limit * written)
    × (written < n → vec_capacity old < vec_len old + line_limit * n)

-- The bytes were appended to a text, which stays UTF-8; or memory ran out, and the text begins as before.
abbrev pub AppendsText : {E : Type 0} → List ℕ → List ℕ → List ℕ → Result (Unit {0}) E → Type 0
AppendsText old bytes new (Ok done) = (new ≡ old ++ bytes) × (IsUtf8 old → IsUtf8 new)
AppendsText old bytes new (Err fault) = take (length old) new ≡ old

-- the number of points of an entry, if it is a shape
abbrev pub shape_size : Entry → ℕ
shape_size (Entry.Arc filled points ink) = length points
shape_size (Entry.Poly filled points ink) = length points
shape_size _ = 0
