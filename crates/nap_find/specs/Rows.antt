use Rattle.std.specs.Prelude.{Bool, List, [], drop, false, get_or, if◌then◌else◌, length, map, min, nat_le, nat_lt, not, take, true, ℕ, ◌&&◌, ◌++◌, ◌+◌, ◌-◌, ◌==◌, ◌||◌, ◌∷◌}
use Rattle.nap_find.specs.Beginnings.{is_opener}
use Rattle.nap_find.specs.Shapes.{capped_sum}
use Rattle.nap_find.specs.Verdicts.{Block, Span, block_of}
use Rattle.nap_find.specs.declared.find.{Asked.Asked, Find.Find}

-- Rows, and the finds in them.

-- the number of bytes of a block
abbrev pub block_limit : ℕ
block_limit = 1048576

-- What is known of bytes: their finds; the row that is open, with its place and the number of equal bytes at its end, if
-- they can be a fill; and the number of beginnings that were passed over. If no row is open, the place is that of the
-- next byte.
pub record Finding : Type 0 where
  pub finds : List Find
  pub passed : ℕ
  pub place : ℕ
  pub row : List ℕ
  pub same : ℕ

-- before any byte
abbrev pub nothing_found : Finding
nothing_found = record { finds = []; passed = 0; place = 0; row = []; same = 0 }

-- a page of a row at this place
abbrev pub find_at : ℕ → Span → Find
find_at place span = record { begin = place + span.from; end = place + span.to }

-- what is known with the pages of a block of the open row
abbrev pub with_block : Finding → Block → Finding
with_block f block = record f { finds = f.finds ++ map (find_at f.place) block.pages; passed = capped_sum f.passed block.passed }

-- no row is open, and the next byte has this place
abbrev pub closed_at : ℕ → Finding → Finding
closed_at place f = record f { place = place; row = []; same = 0 }

-- the row ends: these bytes of it can be pages, and the next byte has this place
abbrev pub end_row : Asked → Finding → List ℕ → ℕ → Finding
end_row asked f bytes place = closed_at place (with_block f (block_of asked false bytes))

-- whether equal bytes can be a fill
abbrev pub can_fill : ℕ → Bool
can_fill b = (b == 0x00) || (b == 0x1A) || (b == 0x20)

-- whether a byte only makes a row longer
abbrev pub is_row_byte : ℕ → Bool
is_row_byte b = nat_lt b 128 && not (can_fill b)

-- the number of equal bytes at the end of a row that can be a fill, counted to 256, once this byte comes
abbrev pub same_with : List ℕ → ℕ → ℕ → ℕ
same_with row same b = if can_fill b then (if b == get_or row (length row - 1) 0 then min (same + 1) 256 else 1) else 0

-- whether so many equal bytes are a fill: 16 of 00, 8 of 1A, 256 of 20
abbrev pub makes_fill : ℕ → ℕ → Bool
makes_fill b n = (b == 0x00 && nat_le 16 n) || (b == 0x1A && nat_le 8 n) || (b == 0x20 && nat_le 256 n)

-- the row goes on from the first byte that isn't decided
abbrev pub go_on : Finding → Block → Finding
go_on f block = record (with_block f block) { place = f.place + block.decided; row = drop block.decided f.row }

-- the row has one more byte, which may make a fill or fill the block
abbrev pub lengthened : Asked → Finding → ℕ → Finding
lengthened asked f b =
    if makes_fill b f.same then end_row asked f (take (length f.row - f.same) f.row) (f.place + length f.row)
    else (if length f.row == block_limit then go_on f (block_of asked true f.row) else f)

-- what is known with one more byte of the row
abbrev pub with_byte : Finding → ℕ → Finding
with_byte f b = record f { row = f.row ++ b ∷ []; same = same_with f.row f.same b }

-- a byte comes while a row is open
abbrev pub step_in_row : Asked → Finding → ℕ → Finding
step_in_row asked f b =
    if nat_lt b 128 then lengthened asked (with_byte f b) b
    else end_row asked f (take (length f.row) f.row) (f.place + length f.row + 1)

-- a byte comes while no row is open
abbrev pub step_outside : Finding → ℕ → Finding
step_outside f b = if is_opener b then record f { row = f.row ++ b ∷ []; same = 1 } else record f { place = f.place + 1 }

-- what is known after one more byte
unfoldable pub step : Asked → Finding → ℕ → Finding
step asked f b = if length f.row == 0 then step_outside f b else step_in_row asked f b

-- what is known after more bytes
unfoldable pub find_on : Asked → Finding → List ℕ → Finding
find_on asked f [] = f
find_on asked f (b ∷ bs) = find_on asked (step asked f b) bs

-- what is known at the end of the bytes
abbrev pub find_ended : Asked → Finding → Finding
find_ended asked f = end_row asked f (take (length f.row) f.row) (f.place + length f.row)

-- what is known of these bytes, and no more
abbrev pub found_of : Asked → List ℕ → Finding
found_of asked bytes = find_ended asked (find_on asked nothing_found bytes)

-- the finds of these bytes
abbrev pub finds_of : Asked → List ℕ → List Find
finds_of asked bytes = (found_of asked bytes).finds

-- the place from which on the bytes that follow these may change what is found
abbrev pub open_of : Asked → List ℕ → ℕ
open_of asked bytes = (find_on asked nothing_found bytes).place
