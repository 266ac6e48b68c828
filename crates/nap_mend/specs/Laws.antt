use Rattle.std.specs.Prelude.{List, Some, [], ℕ, ◌<◌, ◌∷◌, ◌≡◌}
use Rattle.nap_find.specs.Rows.{finds_of}
use Rattle.nap_find.specs.declared.find.Find.{Find}
use Rattle.nap_mend.specs.Pages.{asked, place_of}
use Rattle.nap_mend.specs.Plain.{without_bits}
use Rattle.nap_mend.specs.Sets.{bytes_in}
use Rattle.nap_mend.specs.declared.{bits.Bits.Bits, mended.Mended.Mended, mended.Part.Part, mended.PartKind.PartKind, page.Place.Place}

-- Laws about pages in files.

-- the page that an answer tells of: these bytes of the file, without their eighth bits
abbrev pub copy_of : List ℕ → Mended → List ℕ
copy_of file m = without_bits m.bits (bytes_in (record { begin = m.begin; end = m.end }) file)

-- The parts follow each other from one index to before another, and none is empty.
abbrev pub Covers : ℕ → ℕ → List Part → Type 0
Covers from to [] = from ≡ to
Covers from to (p ∷ ps) = (p.begin ≡ from) × (p.begin < p.end) × Covers p.end to ps

-- A page after a header is the only find.
abbrev pub HeadersHaveOneFind : Type 0
HeadersHaveOneFind = (bits : Bits) (p : List ℕ) (place : Place) → place_of bits p ≡ Some place → place.before ≡ PartKind.Header →
    (find : Find) × (finds_of asked p ≡ find ∷ []) × (place.begin ≡ find.begin) × (place.end ≡ find.end)
