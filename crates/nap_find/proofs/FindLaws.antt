use Rattle.std.proofs.Common.{Bool, List, [], ap, append_assoc, arith, drop, false, if◌then◌else◌, length, length-append, length-drop, length-take, map, min, nat_lt, refl, subst, sym, take, true, ℕ, ◌++◌, ◌+◌, ◌-◌, ◌==◌, ◌∙◌, ◌∷◌, ◌≡◌, ◌≤◌}
use Rattle.std.proofs.lemmas.Bool.{eqb-true}
use Rattle.std.proofs.lemmas.List.{append-nil, drop-append-le, drop-drop, drop-take, drop_all, nil_from_length, take-append-le, take-take, take_all}
use Rattle.nap_find.specs.Beginnings.{is_opener}
use Rattle.nap_find.specs.Laws.{ArePages, FindsArePages, FoundInPieces}
use Rattle.nap_find.specs.Readings.{is_page}
use Rattle.nap_find.specs.Rows.{Finding, block_limit, end_row, find_ended, find_at, find_on, go_on, makes_fill, lengthened, nothing_found, step, step_in_row, step_outside, with_block, with_byte}
use Rattle.nap_find.specs.Verdicts.{Span, block_of}
use Rattle.nap_find.specs.declared.{find.Asked.Asked, find.Find.Find}
use Rattle.nap_find.proofs.BlockLaws.{AreSpans, IsBlock, block_is}

-- Finds are pages, in order and apart.

-- the first bytes from a place on don't change where more follow
slice_more : (bytes more : List ℕ) (begin n : ℕ) → begin + n ≤ length bytes → take n (drop begin (bytes ++ more)) ≡ take n (drop begin bytes)
slice_more bytes more begin n few =
    let size : length (drop begin bytes) ≡ length bytes - begin = length-drop begin bytes in
    let one : begin ≤ length bytes = omega arith in
    let two : n ≤ length (drop begin bytes) = omega arith in
    ap (take n) (drop-append-le begin bytes more one) ∙ take-append-le n (drop begin bytes) more two

-- a part of the first n bytes
slice_first : (bytes : List ℕ) (n a k : ℕ) → a + k ≤ n → take k (drop a (take n bytes)) ≡ take k (drop a bytes)
slice_first bytes n a k few =
    let e : n ≡ a + (n - a) = omega arith in
    ap (λ (m : ℕ). take k (drop a (take m bytes))) e ∙ ap (take k) (drop-take a (n - a) bytes) ∙ take-take k (n - a) (drop a bytes) (omega arith)

module _ (asked : Asked) where
  to_least : (bytes : List ℕ) (from to : ℕ) (fs : List Find) → ArePages asked bytes from to fs → from ≤ to
  to_least bytes from to [] h = h
  to_least bytes from to (f ∷ fs) h = let rest : f.end ≤ to = to_least bytes f.end to fs h.3 in omega (arith, h.0, h.1)

  -- where more bytes follow
  pages_more : (bytes more : List ℕ) (from to : ℕ) (fs : List Find) → to ≤ length bytes → ArePages asked bytes from to fs → ArePages asked (bytes ++ more) from to fs
  pages_more bytes more from to [] few h = h
  pages_more bytes more from to (f ∷ fs) few h =
      let rest : f.end ≤ to = to_least bytes f.end to fs h.3 in (
        h.0,
        h.1,
        ap (is_page asked) (slice_more bytes more f.begin (f.end - f.begin) (omega (arith, h.1))) ∙ h.2,
        pages_more bytes more f.end to fs few h.3,
      )

  pages_to : (bytes : List ℕ) (from to most : ℕ) (fs : List Find) → to ≤ most → ArePages asked bytes from to fs → ArePages asked bytes from most fs
  pages_to bytes from to most [] less h = omega arith
  pages_to bytes from to most (f ∷ fs) less h = (h.0, h.1, h.2, pages_to bytes f.end to most fs less h.3)

  pages_join : (bytes : List ℕ) (from mid to : ℕ) (fs gs : List Find) → ArePages asked bytes from mid fs → ArePages asked bytes mid to gs → ArePages asked bytes from to (fs ++ gs)
  pages_join bytes from mid to [] gs h i = down from mid to gs h i
    where
      down : (from mid to : ℕ) (gs : List Find) → from ≤ mid → ArePages asked bytes mid to gs → ArePages asked bytes from to gs
      down from mid to [] less i = omega arith
      down from mid to (g ∷ gs) less i = (omega (arith, i.0), i.1, i.2, i.3)
  pages_join bytes from mid to (f ∷ fs) gs h i = (h.0, h.1, h.2, pages_join bytes f.end mid to fs gs h.3 i)

  spans_least : (row : List ℕ) (from to : ℕ) (ss : List Span) → AreSpans asked row from to ss → from ≤ to
  spans_least row from to [] h = h
  spans_least row from to (s ∷ ss) h = let rest : s.to ≤ to = spans_least row s.to to ss h.3 in omega (arith, h.0, h.1)

  -- the pages of the first n bytes of a row, as finds in all bytes
  spans_found : (bytes : List ℕ) (place n from to : ℕ) (ss : List Span) → to ≤ n → AreSpans asked (take n (drop place bytes)) from to ss →
      ArePages asked bytes (place + from) (place + to) (map (find_at place) ss)
  spans_found bytes place n from to [] few h = omega (arith, h)
  spans_found bytes place n from to (s ∷ ss) few h =
      let rest : s.to ≤ to = spans_least (take n (drop place bytes)) s.to to ss h.3 in
      let size : place + s.to - (place + s.from) ≡ s.to - s.from = omega (arith, h.1) in (
        omega (arith, h.0),
        omega (arith, h.1),
        ap (λ (k : ℕ). is_page asked (take k (drop (place + s.from) bytes))) size
            ∙ ap (λ (xs : List ℕ). is_page asked (take (s.to - s.from) xs)) (sym (drop-drop s.from place bytes))
            ∙ ap (is_page asked) (sym (slice_first (drop place bytes) n s.from (s.to - s.from) (omega (arith, h.1))))
            ∙ h.2,
        spans_found bytes place n s.to to ss few h.3,
      )

  -- What is known of bytes: the open row is at their end, and the finds before it are pages.
  pub record Stands (bytes : List ℕ) (f : Finding) : Type 0 where
    pub place : f.place ≤ length bytes
    pub row : drop f.place bytes ≡ f.row
    pub finds : ArePages asked bytes 0 f.place f.finds

  -- the finds with those of a block of the first n bytes of the open row
  block_found : (bytes : List ℕ) (f : Finding) (more : Bool) (n : ℕ) → Stands bytes f → n ≤ length f.row →
      ArePages asked bytes 0 (f.place + (block_of asked more (take n f.row)).decided) (with_block f (block_of asked more (take n f.row))).finds
  block_found bytes f more n stands few =
      let block = block_of asked more (take n f.row) in
      let is : IsBlock asked (take n f.row) 0 block = block_is asked more (take n f.row) in
      let size : length (take n f.row) ≡ min n (length f.row) = length-take n f.row in
      let spans : AreSpans asked (take n (drop f.place bytes)) 0 block.decided block.pages =
      subst (λ (xs : List ℕ). AreSpans asked (take n xs) 0 block.decided block.pages) (sym stands.row) is.spans in
      let found = spans_found bytes f.place n 0 block.decided block.pages (omega (arith, is.decided)) spans in
      let here : f.place + 0 ≡ f.place = omega arith in
      pages_join bytes 0 f.place (f.place + block.decided) f.finds (map (find_at f.place) block.pages) stands.finds
      (subst (λ (at : ℕ). ArePages asked bytes at (f.place + block.decided) (map (find_at f.place) block.pages)) here found)

  size_of_row : (bytes : List ℕ) (f : Finding) → Stands bytes f → length bytes ≡ f.place + length f.row
  size_of_row bytes f stands =
      let e : length f.row ≡ length bytes - f.place = ap length (sym stands.row) ∙ length-drop f.place bytes in
      omega (arith, stands.place)

  -- a row that ends at the end of the bytes, or before it
  row_ends : (bytes : List ℕ) (f : Finding) (n place : ℕ) → Stands bytes f → n ≤ length f.row → place ≡ length bytes → Stands bytes (end_row asked f (take n f.row) place)
  row_ends bytes f n place stands few is =
      let block = block_of asked false (take n f.row) in
      let size : length (take n f.row) ≡ min n (length f.row) = length-take n f.row in
      let inside : block.decided ≤ length (take n f.row) = (block_is asked false (take n f.row)).decided in
      let whole = size_of_row bytes f stands in
      record {
        place = omega arith;
        row = drop_all place bytes (omega arith);
        finds = pages_to bytes 0 (f.place + block.decided) place (with_block f block).finds (omega arith) (block_found bytes f false n stands few);
      }

  row_goes_on : (bytes : List ℕ) (f : Finding) → Stands bytes f → Stands bytes (go_on f (block_of asked true f.row))
  row_goes_on bytes f stands =
      let block = block_of asked true f.row in
      let inside : block.decided ≤ length f.row = (block_is asked true f.row).decided in
      let whole = size_of_row bytes f stands in
      let all : take (length f.row) f.row ≡ f.row = take_all (length f.row) f.row (omega arith) in
      record {
        place = omega arith;
        row = sym (drop-drop block.decided f.place bytes) ∙ ap (drop block.decided) stands.row;
        finds = subst (λ (xs : List ℕ). ArePages asked bytes 0 (f.place + (block_of asked true xs).decided) (with_block f (block_of asked true xs)).finds) all
            (block_found bytes f true (length f.row) stands (omega arith));
      }

  -- one more byte, at the end of the open row
  byte_follows : (bytes : List ℕ) (f : Finding) (b same : ℕ) → Stands bytes f → Stands (bytes ++ b ∷ []) (record f { row = f.row ++ b ∷ []; same = same })
  byte_follows bytes f b same stands =
      let size = length-append bytes (b ∷ []) in
      record {
        place = omega (arith, stands.place);
        row = drop-append-le f.place bytes (b ∷ []) stands.place ∙ ap (λ (xs : List ℕ). xs ++ b ∷ []) stands.row;
        finds = pages_more bytes (b ∷ []) 0 f.place f.finds stands.place stands.finds;
      }

  lengthened_stands : (bytes : List ℕ) (f : Finding) (b : ℕ) → Stands bytes f → Stands bytes (lengthened asked f b)
  lengthened_stands bytes f b stands =
      let whole = size_of_row bytes f stands in
      elim (makes_fill b f.same) as (λ t. Stands bytes (if t then end_row asked f (take (length f.row - f.same) f.row) (f.place + length f.row) else (if length f.row == block_limit then go_on f (block_of asked true f.row) else f))) [
        | true ↦ row_ends bytes f (length f.row - f.same) (f.place + length f.row) stands (omega arith) (sym whole)
        | false ↦ elim (length f.row == block_limit) as (λ t. Stands bytes (if t then go_on f (block_of asked true f.row) else f)) [
          | true ↦ row_goes_on bytes f stands
          | false ↦ stands
        ]
      ]

  in_row_stands : (bytes : List ℕ) (f : Finding) (b : ℕ) → Stands bytes f → Stands (bytes ++ b ∷ []) (step_in_row asked f b)
  in_row_stands bytes f b stands =
      let whole = size_of_row bytes f stands in
      let size = length-append bytes (b ∷ []) in
      let end = f.place + length f.row + 1 in
      elim (nat_lt b 128) as (λ t. Stands (bytes ++ b ∷ []) (if t then lengthened asked (with_byte f b) b else end_row asked f (take (length f.row) f.row) end)) [
        | true ↦ lengthened_stands (bytes ++ b ∷ []) (with_byte f b) b (byte_follows bytes f b (with_byte f b).same stands)
        | false ↦
            let h = row_ends bytes f (length f.row) (length bytes) stands (omega arith) refl in
            record {
              place = omega arith;
              row = drop_all end (bytes ++ b ∷ []) (omega arith);
              finds = pages_to (bytes ++ b ∷ []) 0 (length bytes) end (end_row asked f (take (length f.row) f.row) (length bytes)).finds (omega arith)
                  (pages_more bytes (b ∷ []) 0 (length bytes) (end_row asked f (take (length f.row) f.row) (length bytes)).finds (omega arith) h.finds);
            }
      ]

  outside_stands : (bytes : List ℕ) (f : Finding) (b : ℕ) → Stands bytes f → length f.row ≡ 0 → Stands (bytes ++ b ∷ []) (step_outside f b)
  outside_stands bytes f b stands none =
      let whole = size_of_row bytes f stands in
      let size = length-append bytes (b ∷ []) in
      elim (is_opener b) as (λ t. Stands (bytes ++ b ∷ []) (if t then record f { row = f.row ++ b ∷ []; same = 1 } else record f { place = f.place + 1 })) [
        | true ↦ byte_follows bytes f b 1 stands
        | false ↦ record {
          place = omega arith;
          row = drop_all (f.place + 1) (bytes ++ b ∷ []) (omega arith) ∙ sym (nil_from_length f.row none);
          finds = pages_to (bytes ++ b ∷ []) 0 f.place (f.place + 1) f.finds (omega arith) (pages_more bytes (b ∷ []) 0 f.place f.finds stands.place stands.finds);
        }
      ]

  by_row : (bytes : List ℕ) (f : Finding) (b : ℕ) → Stands bytes f → (t : Bool) → (t ≡ true → length f.row ≡ 0) → Stands (bytes ++ b ∷ []) (if t then step_outside f b else step_in_row asked f b)
  by_row bytes f b stands true none = outside_stands bytes f b stands (none refl)
  by_row bytes f b stands false none = in_row_stands bytes f b stands

  step_stands : (bytes : List ℕ) (f : Finding) (b : ℕ) → Stands bytes f → Stands (bytes ++ b ∷ []) (step asked f b)
  unfolding step
  step_stands bytes f b stands = by_row bytes f b stands (length f.row == 0) (eqb-true (length f.row) 0)

  find_on_stands : (bytes p : List ℕ) (f : Finding) → Stands bytes f → Stands (bytes ++ p) (find_on asked f p)
  unfolding find_on
  find_on_stands bytes [] f stands = subst (λ (xs : List ℕ). Stands xs f) (sym (append-nil bytes)) stands
  find_on_stands bytes (b ∷ p) f stands =
      subst (λ (xs : List ℕ). Stands xs (find_on asked (step asked f b) p)) (append_assoc bytes (b ∷ []) p) (find_on_stands (bytes ++ b ∷ []) p (step asked f b) (step_stands bytes f b stands))

pub finds_are_pages : FindsArePages
finds_are_pages asked bytes =
    let none : Stands asked [] nothing_found = record { place = omega arith; row = refl; finds = omega arith } in
    let f = find_on asked nothing_found bytes in
    let stands : Stands asked bytes f = find_on_stands asked [] bytes nothing_found none in
    let whole = size_of_row asked bytes f stands in
    let h = row_ends asked bytes f (length f.row) (f.place + length f.row) stands (omega arith) (sym whole) in
    subst (λ (to : ℕ). ArePages asked bytes 0 to (find_ended asked f).finds) (sym whole) h.finds

pub pieces_agree : FoundInPieces
unfolding find_on
pieces_agree asked f [] q = refl
pieces_agree asked f (b ∷ p) q = pieces_agree asked (step asked f b) p q
