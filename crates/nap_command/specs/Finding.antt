use Rattle.nap_find.specs.declared.{find.Asked.Asked, find.Find.Find}
use Rattle.nap_find.specs.Rows.{finds_of, found_of, open_of}
use Rattle.std.specs.Prelude.{List, [], codes, decimal, flat_map, length, ℕ, ◌*◌, ◌++◌, ◌∷◌, ◌≡◌}

-- What is found in the bytes of a request.

-- a find has at least this number of entries, twice as many bytes, and one shape
abbrev pub asked_for : ℕ → Asked
asked_for least = record { bytes = 2 * least; entries = least; shapes = 1 }

-- the line with the number of finds
abbrev pub found_line : ℕ → List ℕ
found_line n = codes "found " ++ decimal n ++ codes " pages" ++ 10 ∷ []

-- the line of a find: the offset of its first byte, and that after its last
abbrev pub find_line : Find → List ℕ
find_line find = decimal find.begin ++ 32 ∷ (decimal find.end ++ 10 ∷ [])

abbrev pub find_lines : List Find → List ℕ
find_lines finds = flat_map find_line finds

-- the last line: the offset from which on more bytes may change the finds, and the number of beginnings passed over
abbrev pub open_line : ℕ → ℕ → List ℕ
open_line place passed = codes "open " ++ decimal place ++ codes " passed " ++ decimal passed ++ 10 ∷ []

-- a line for each find, and the last line
abbrev pub finds_text : ℕ → List ℕ → List ℕ
finds_text least p = find_lines (finds_of (asked_for least) p) ++ open_line (open_of (asked_for least) p) (found_of (asked_for least) p).passed

-- the line has the number of finds, and the body their offsets
pub record AnswersFinds (least : ℕ) (p line body : List ℕ) : Type 0 where
  pub line_is : line ≡ found_line (length (finds_of (asked_for least) p))
  pub body_is : body ≡ finds_text least p
