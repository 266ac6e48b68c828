use Rattle.std.proofs.Common.{List, None, Option, ap, arith, drop, false, length, length-take, map, min, option_map, refl, subst, sym, take, true, ℕ, ◌%◌, ◌+◌, ◌-◌, ◌∙◌, ◌≡◌, ◌≤◌}
use Rattle.std.proofs.lemmas.List.{drop-drop, drop-map, drop-take, length-map, take-map, take-take}
use Rattle.nap_mend.specs.Files.{data_of}
use Rattle.nap_mend.specs.Laws.{Covers, copy_of}
use Rattle.nap_mend.specs.Mending.{Mending, bits_begin, bits_end, bits_in, body_span, borders_of, mended_of, mending_at, mending_in, parts_from, plain_in}
use Rattle.nap_mend.specs.Pages.{is_whole_page, is_stream, place_of, span_of}
use Rattle.nap_mend.specs.Plain.{without_bits}
use Rattle.nap_mend.specs.Sets.{bytes_in}
use Rattle.nap_mend.specs.declared.{bits.Bits.Bits, mended.Mended.Mended, page.Place.Place, plain.Coded.Coded, sets.Span.Span}
use Rattle.nap_mend.proofs.PartLemmas.{parts_cover}
use Rattle.nap_mend.proofs.SearchLemmas.{if_false}

-- What is in a file.

-- a part of the first n bytes
slice_first : (p : List ℕ) (n a k : ℕ) → a + k ≤ n → take k (drop a (take n p)) ≡ take k (drop a p)
slice_first p n a k few =
    let e : n ≡ a + (n - a) = omega arith in
    ap (λ (m : ℕ). take k (drop a (take m p))) e ∙ ap (take k) (drop-take a (n - a) p) ∙ take-take k (n - a) (drop a p) (omega arith)

bits_length : (bits : Bits) (p : List ℕ) → length (without_bits bits p) ≡ length p
bits_length Bits.None p = refl
bits_length Bits.Even p = length-map p (λ (b : ℕ). b % 128)
bits_length Bits.Odd p = length-map p (λ (b : ℕ). b % 128)
bits_length Bits.Mark p = length-map p (λ (b : ℕ). b % 128)

low_slice : (p : List ℕ) (k a : ℕ) → take k (drop a (map (λ (b : ℕ). b % 128) p)) ≡ map (λ (b : ℕ). b % 128) (take k (drop a p))
low_slice p k a = ap (take k) (drop-map (λ (b : ℕ). b % 128) a p) ∙ take-map (λ (b : ℕ). b % 128) k (drop a p)

bits_slice : (bits : Bits) (p : List ℕ) (k a : ℕ) → take k (drop a (without_bits bits p)) ≡ without_bits bits (take k (drop a p))
bits_slice Bits.None p k a = refl
bits_slice Bits.Even p k a = low_slice p k a
bits_slice Bits.Odd p k a = low_slice p k a
bits_slice Bits.Mark p k a = low_slice p k a

module _ (file : List ℕ) where
  -- the bytes that have eighth bits, without them
  pub plain_is : (body : Span) (coded : Coded) → body ≡ body_span file → coded ≡ bits_in file →
      without_bits coded.bits (take (body.begin + coded.end - (body.begin + coded.begin)) (drop (body.begin + coded.begin) file)) ≡ plain_in file
  plain_is body coded first second =
      ap (λ (s : Span). without_bits coded.bits (take (s.begin + coded.end - (s.begin + coded.begin)) (drop (s.begin + coded.begin) file))) first
      ∙ ap (λ (k : Coded). without_bits k.bits (take ((data_of file).begin + k.end - ((data_of file).begin + k.begin)) (drop ((data_of file).begin + k.begin) file))) second

  pub plain_few : (bits : Bits) (from to : ℕ) (plain : List ℕ) → plain ≡ without_bits bits (take (to - from) (drop from file)) → length plain ≤ to - from
  plain_few bits from to plain is =
      let e : length plain ≡ length (take (to - from) (drop from file)) = ap length is ∙ bits_length bits (take (to - from) (drop from file)) in
      let size : length (take (to - from) (drop from file)) ≡ min (to - from) (length (drop from file)) = length-take (to - from) (drop from file) in
      omega arith

  pub mended_is : (place : Option Place) → is_stream file ≡ false → place_of (bits_in file).bits (plain_in file) ≡ place → mended_of file ≡ option_map (mending_at file) place
  unfolding mended_of
  mended_is place refused is =
      if_false (is_stream file) None (option_map (mending_at file) (place_of (bits_in file).bits (plain_in file))) refused
      ∙ ap (λ (o : Option Place). option_map (mending_at file) o) is

  pub place_is : (coded : Coded) (plain : List ℕ) (found place : Option Place) → coded ≡ bits_in file → plain ≡ plain_in file → found ≡ place_of coded.bits plain → found ≡ place →
      place_of (bits_in file).bits (plain_in file) ≡ place
  place_is coded plain found place second same is found_is =
      sym (is ∙ ap (λ (k : Coded). place_of k.bits plain) second ∙ ap (place_of (bits_in file).bits) same) ∙ found_is

  -- the eighth bits of a part of the file end in it
  pub within_bits : (from to end : ℕ) → end ≤ length (take (to - from) (drop from file)) → from ≤ to → from + end ≤ to
  within_bits from to end within order =
      let size : length (take (to - from) (drop from file)) ≡ min (to - from) (length (drop from file)) = length-take (to - from) (drop from file) in
      omega (arith, within)

  -- the page of a place among the bytes without eighth bits
  pub copy_is : (place : Place) (m : Mended) → mending_in m ≡ mending_at file place → place.begin ≤ place.end → place.end ≤ bits_end file - bits_begin file →
      copy_of file m ≡ bytes_in (span_of place) (plain_in file)
  copy_is place m is order within =
      let from = bits_begin file in
      let bits = (bits_in file).bits in
      let first : from + place.end - (from + place.begin) ≡ place.end - place.begin = omega arith in
      ap (λ (n : Mending). without_bits n.bits (take (n.end - n.begin) (drop n.begin file))) is
      ∙ ap (λ (k : ℕ). without_bits bits (take k (drop (from + place.begin) file))) first
      ∙ ap (λ (q : List ℕ). without_bits bits (take (place.end - place.begin) q)) (sym (drop-drop place.begin from file))
      ∙ ap (without_bits bits) (sym (slice_first (drop from file) (bits_end file - from) place.begin (place.end - place.begin) (omega arith)))
      ∙ sym (bits_slice bits (take (bits_end file - from) (drop from file)) (place.end - place.begin) place.begin)

  pub page_is : (place : Place) (m : Mended) (plain : List ℕ) → mending_in m ≡ mending_at file place → place.begin ≤ place.end → place.end ≤ bits_end file - bits_begin file →
      plain ≡ plain_in file → is_whole_page (bytes_in (span_of place) plain) ≡ true → is_whole_page (copy_of file m) ≡ true
  page_is place m plain is order within same page =
      ap is_whole_page (copy_is place m is order within ∙ ap (bytes_in (span_of place)) (sym same)) ∙ page

  pub parts_are : (place : Place) (m : Mended) → mending_in m ≡ mending_at file place → Covers 0 (length file) (parts_from 0 (borders_of file place)) →
      Covers 0 (length file) m.parts.items
  parts_are place m is covers = subst (Covers 0 (length file)) (sym (ap (λ (n : Mending). n.parts) is)) covers

  -- the parts of a file are in order
  pub borders_cover : (body : Span) (coded : Coded) (place : Place) → body ≡ body_span file → coded ≡ bits_in file → coded.begin ≤ coded.end →
      body.begin + coded.end ≤ body.end → body.end ≤ (data_of file).end → (data_of file).end ≤ length file → place.begin ≤ place.end →
      coded.begin + place.end ≤ coded.end → Covers 0 (length file) (parts_from 0 (borders_of file place))
  borders_cover body coded place first second order inside stored whole page within =
      let begin : body.begin ≡ (data_of file).begin = ap (λ (s : Span). s.begin) first in
      let end : body.end ≡ (body_span file).end = ap (λ (s : Span). s.end) first in
      let from : coded.begin ≡ (bits_in file).begin = ap (λ (k : Coded). k.begin) second in
      let to : coded.end ≡ (bits_in file).end = ap (λ (k : Coded). k.end) second in
      let last : ((data_of file).end ≤ length file) × (length file ≡ length file) = (whole, refl) in
      let record_end : (body_span file).end ≤ (data_of file).end = omega (arith, end, stored) in
      let bits_end_in : bits_end file ≤ (body_span file).end = omega (arith, begin, end, to, inside) in
      let page_end : bits_begin file + place.end ≤ bits_end file = omega (arith, from, to, within) in
      parts_cover 0 (length file) (borders_of file place)
      (omega arith, (omega arith, (omega arith, (omega arith, (page_end, (bits_end_in, (record_end, last)))))))
