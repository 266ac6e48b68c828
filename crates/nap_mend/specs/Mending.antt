use Rattle.std.specs.Prelude.{List, None, Option, [], if◌then◌else◌, length, nat_lt, option_map, ℕ, ◌++◌, ◌+◌, ◌∷◌}
use Rattle.nap_mend.specs.Files.{before_sauce, data_of}
use Rattle.nap_mend.specs.Pages.{is_stream, lead_kind, place_of}
use Rattle.nap_mend.specs.Plain.{coded_of, without_bits}
use Rattle.nap_mend.specs.Sets.{bytes_in}
use Rattle.nap_mend.specs.declared.{bits.Bits.Bits, mended.Border.Border, mended.Mended.Mended, mended.Part.Part, mended.PartKind.PartKind, page.Grade.Grade, page.Place.Place, plain.Coded.Coded, sets.Span.Span}

-- Where the page is in a file.

-- the grade, the eighth bits, where the page is, and the parts of the file
pub record Mending : Type 0 where
  pub grade : Grade
  pub bits : Bits
  pub begin : ℕ
  pub end : ℕ
  pub parts : List Part

-- what an answer says
abbrev pub mending_in : Mended → Mending
mending_in m = record { grade = m.grade; bits = m.bits; begin = m.begin; end = m.end; parts = m.parts.items }

-- a part, if it isn't empty
abbrev pub part_list : PartKind → ℕ → ℕ → List Part
part_list kind begin end = if nat_lt begin end then record { kind = kind; begin = begin; end = end } ∷ [] else []

abbrev pub part_end : PartKind → ℕ → Border
part_end kind end = record { kind = kind; end = end }

-- the parts with these ends, from an index on
abbrev pub parts_from : ℕ → List Border → List Part
parts_from at [] = []
parts_from at (b ∷ bs) = part_list b.kind at b.end ++ parts_from b.end bs

-- the data of a file without its SAUCE record
abbrev pub body_span : List ℕ → Span
body_span file = record { begin = (data_of file).begin; end = (data_of file).begin + before_sauce (bytes_in (data_of file) file) }

-- the eighth bits of the body, and where in the file the bytes begin and end that have them
abbrev pub bits_in : List ℕ → Coded
bits_in file = coded_of (bytes_in (body_span file) file)

abbrev pub bits_begin : List ℕ → ℕ
bits_begin file = (data_of file).begin + (bits_in file).begin

abbrev pub bits_end : List ℕ → ℕ
bits_end file = (data_of file).begin + (bits_in file).end

-- these bytes without their eighth bits
abbrev pub plain_in : List ℕ → List ℕ
plain_in file = without_bits (bits_in file).bits (bytes_in (record { begin = bits_begin file; end = bits_end file }) file)

-- the parts of a file whose page has this place among these bytes
abbrev pub borders_of : List ℕ → Place → List Border
borders_of file place =
    part_end PartKind.Container (data_of file).begin ∷ part_end (lead_kind (bytes_in (body_span file) file)) (bits_begin file)
    ∷ part_end place.before (bits_begin file + place.begin) ∷ part_end PartKind.Page (bits_begin file + place.end)
    ∷ part_end place.after (bits_end file) ∷ part_end PartKind.Fill (body_span file).end ∷ part_end PartKind.Sauce (data_of file).end
    ∷ part_end PartKind.Container (length file) ∷ []

abbrev pub mending_at : List ℕ → Place → Mending
mending_at file place = record {
  grade = place.grade;
  bits = (bits_in file).bits;
  begin = bits_begin file + place.begin;
  end = bits_begin file + place.end;
  parts = parts_from 0 (borders_of file place);
}

-- where the page is in a file, unless it is accepted as it is
unfoldable pub mended_of : List ℕ → Option Mending
mended_of file = if is_stream file then None else option_map (mending_at file) (place_of (bits_in file).bits (plain_in file))
