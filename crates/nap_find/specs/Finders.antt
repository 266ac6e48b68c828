use Rattle.std.specs.Prelude.{Bool, length, ℕ, ◌+◌}
use Rattle.nap_find.specs.Rows.{Finding}
use Rattle.nap_find.specs.declared.{find.Asked.Asked, find.Found.Found, finder.Finder.Finder}

-- What a finder knows.

-- what is asked of finds
abbrev pub asked_of : Finder → Asked
asked_of finder = finder.asked

-- whether it has lacked memory
abbrev pub lacks : Finder → Bool
lacks finder = finder.lacks

-- the place of the first byte that isn't decided
abbrev pub open_in : Finder → ℕ
open_in finder = finder.place

-- the number of bytes so far
abbrev pub length_so_far : Finder → ℕ
length_so_far finder = finder.place + length finder.row.items

-- what is known of the bytes so far, whose finds are these
abbrev pub finding_of : Finder → Found → Finding
finding_of finder found = record {
  finds = found.finds.items;
  passed = found.passed;
  place = finder.place;
  row = finder.row.items;
  same = finder.same;
}
