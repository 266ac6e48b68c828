use Rattle.std.proofs.Common.{ℕ, zero, suc, ◌≡◌, List, [], ◌∷◌, map, take, drop, length, refl, sym, ap}
use Rattle.std.proofs.lemmas.List.{length-map}
use Rattle.std.specs.List.{take-map}
use Rattle.nap_list.specs.{Names.CharSet, Names.Coordinates, Names.drop-map, Types.Batch, Types.Drawing, Types.Hand, declared.attribute.Pen.TheVariants.After, State.hand_of}
use Rattle.nap_list.specs.Batches.{point_entry, line_entry, polyline_entries, text_entries_in, text_entry, batch_entries, last_point}

-- Laws about the entries of a batch: their number and their parts.

pub lines_count : (d : Drawing) (from : Coordinates) (points : List Coordinates) → length (polyline_entries d from points) ≡ length points
unfolding polyline_entries
lines_count d from [] = refl
lines_count d from (p ∷ ps) = ap suc (lines_count d p ps)

pub text_count : (set : CharSet) (hand : Hand) (codes : List ℕ) → length (text_entries_in set hand codes) ≡ length codes
unfolding text_entries_in
text_count set hand [] = refl
text_count set hand (c ∷ cs) = ap suc (text_count set (record hand { pen = After }) cs)

-- a batch has as many entries as points or codes

pub sized_points : (b : Batch) (points : _) (d : _) → b ≡ Batch.Points points d → length (batch_entries b) ≡ length points.now
sized_points b points d is = rw is (length-map points.now (point_entry d.now))

pub sized_lines : (b : Batch) (from : _) (points : _) (d : _) → b ≡ Batch.Lines from points d → length (batch_entries b) ≡ length points.now
sized_lines b from points d is = rw is (lines_count d.now from points.now)

pub sized_text : (b : Batch) (set : _) (codes : _) (pen : _) (d : _) → b ≡ Batch.Text set codes pen d → length (batch_entries b) ≡ length codes.now
sized_text b set codes pen d is = rw is (text_count set (record (hand_of d.now) { pen = pen }) codes.now)

pub points_prefix : (d : Drawing) (points : List Coordinates) (n : ℕ) → map (point_entry d) (take n points) ≡ take n (map (point_entry d) points)
points_prefix d points n = sym (take-map (point_entry d) n points)

pub lines_prefix : (d : Drawing) (from : Coordinates) (points : List Coordinates) (n : ℕ) → polyline_entries d from (take n points) ≡ take n (polyline_entries d from points)
unfolding polyline_entries
lines_prefix d from points zero = refl
lines_prefix d from [] (suc n) = refl
lines_prefix d from (p ∷ ps) (suc n) = ap (λ list. line_entry d from p ∷ list) (lines_prefix d p ps n)

pub text_prefix : (set : CharSet) (hand : Hand) (codes : List ℕ) (n : ℕ) → text_entries_in set hand (take n codes) ≡ take n (text_entries_in set hand codes)
unfolding text_entries_in
text_prefix set hand codes zero = refl
text_prefix set hand [] (suc n) = refl
text_prefix set hand (c ∷ cs) (suc n) = ap (λ list. text_entry set hand c ∷ list) (text_prefix set (record hand { pen = After }) cs n)

pub points_rest : (d : Drawing) (points : List Coordinates) (n : ℕ) → map (point_entry d) (drop n points) ≡ drop n (map (point_entry d) points)
points_rest d points n = sym (drop-map (point_entry d) n points)

pub lines_rest : (d : Drawing) (from : Coordinates) (points : List Coordinates) (n : ℕ) → polyline_entries d (last_point from (take n points)) (drop n points) ≡ drop n (polyline_entries d from points)
unfolding polyline_entries last_point
lines_rest d from points zero = refl
lines_rest d from [] (suc n) = refl
lines_rest d from (p ∷ ps) (suc n) = lines_rest d p ps n
