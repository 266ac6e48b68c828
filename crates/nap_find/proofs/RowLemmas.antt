use Rattle.std.proofs.Common.{Bool, List, [], ap, append_assoc, arith, drop, false, get_or, if◌then◌else◌, length, length-append, min, nat_le, nat_lt, not, refl, subst, suc, sym, take, true, zero, ℕ, ◌&&◌, ◌++◌, ◌+◌, ◌-◌, ◌<◌, ◌==◌, ◌||◌, ◌∙◌, ◌∷◌, ◌≡◌, ◌≤◌}
use Rattle.std.proofs.lemmas.Bool.{and_parts, eq-eqb, ne_eqb}
use Rattle.std.proofs.lemmas.List.{drop-drop, drop_all, drop_more, take_rest}
use Rattle.nap_find.specs.Beginnings.{is_opener}
use Rattle.nap_find.specs.Rows.{Finding, block_limit, can_fill, end_row, find_on, go_on, is_row_byte, lengthened, makes_fill, same_with, step, step_in_row, step_outside, with_byte}
use Rattle.nap_find.specs.Verdicts.{block_of}
use Rattle.nap_find.specs.declared.find.Asked.{Asked}
use Rattle.nap_find.proofs.SearchingLemmas.{if_false, if_true}

-- Steps from byte to byte.

find_on_cons : (asked : Asked) (f : Finding) (b : ℕ) (bs : List ℕ) → find_on asked f (b ∷ bs) ≡ find_on asked (step asked f b) bs
unfolding find_on
find_on_cons asked f b bs = refl

find_on_nil : (asked : Asked) (f : Finding) → find_on asked f [] ≡ f
unfolding find_on
find_on_nil asked f = refl

-- what is known of the rest, before its first byte and after
pub next_byte : (asked : Asked) (f g : Finding) (xs : List ℕ) (i : ℕ) → i < length xs → g ≡ step asked f (get_or xs i 0) → find_on asked g (drop (i + 1) xs) ≡ find_on asked f (drop i xs)
next_byte asked f g xs i more is =
    ap (λ (h : Finding). find_on asked h (drop (i + 1) xs)) is ∙ sym (ap (find_on asked f) (drop_more xs i 0 more) ∙ find_on_cons asked f (get_or xs i 0) (drop (i + 1) xs))

pub last_byte : (asked : Asked) (f : Finding) (xs : List ℕ) (i : ℕ) → length xs ≤ i → find_on asked f (drop i xs) ≡ f
last_byte asked f xs i none = ap (find_on asked f) (drop_all i xs none) ∙ find_on_nil asked f

-- Bytes that open no row, where none is open.

outside : (f : Finding) (b : ℕ) (t : Bool) → t ≡ false → (if t then record f { row = f.row ++ b ∷ []; same = 1 } else record f { place = f.place + 1 }) ≡ record f { place = f.place + 1 }
outside f b t e = if_false t (record f { row = f.row ++ b ∷ []; same = 1 }) (record f { place = f.place + 1 }) e

step_over : (asked : Asked) (f : Finding) (b : ℕ) → length f.row ≡ 0 → is_opener b ≡ false → step asked f b ≡ record f { place = f.place + 1 }
unfolding step
step_over asked f b closed other =
    if_true (length f.row == 0) (step_outside f b) (step_in_row asked f b) (eq-eqb (length f.row) 0 closed) ∙ outside f b (is_opener b) other

at_place : (asked : Asked) (f : Finding) (xs : List ℕ) (i j : ℕ) → i ≡ j → find_on asked (record f { place = i }) xs ≡ find_on asked (record f { place = j }) xs
at_place asked f xs i j is = ap (λ (place : ℕ). find_on asked (record f { place = place }) xs) is

pub passed_bytes : (asked : Asked) (f : Finding) (xs : List ℕ) (n : ℕ) → length f.row ≡ 0 → n ≤ length xs → ((k : ℕ) → k < n → is_opener (get_or xs k 0) ≡ false) →
    find_on asked (record f { place = f.place + n }) (drop n xs) ≡ find_on asked f xs
passed_bytes asked f xs zero closed few others = at_place asked f xs (f.place + 0) f.place (omega arith)
passed_bytes asked f [] (suc n) closed few others = absurd (omega arith)
passed_bytes asked f (b ∷ bs) (suc n) closed few others =
    let g : Finding = record f { place = f.place + 1 } in
    at_place asked f (drop n bs) (f.place + suc n) (f.place + 1 + n) (omega arith)
    ∙ passed_bytes asked g bs n closed (omega arith) (λ k less. others (suc k) (omega arith))
    ∙ sym (find_on_cons asked f b bs ∙ ap (λ (h : Finding). find_on asked h bs) (step_over asked f b closed (others 0 (omega arith))))

-- Plain bytes, where a row is open.

no_fill : (z c s : Bool) (n : ℕ) → (z || c || s) ≡ false → ((z && nat_le 16 n) || (c && nat_le 8 n) || (s && nat_le 256 n)) ≡ false
no_fill true c s n is = cc
no_fill false true s n is = cc
no_fill false false true n is = cc
no_fill false false false n is = refl

plain_parts : (b : ℕ) → is_row_byte b ≡ true → (nat_lt b 128 ≡ true) × (can_fill b ≡ false)
plain_parts b is =
    let parts = and_parts (nat_lt b 128) (not (can_fill b)) is in
    (parts.0, not_true (can_fill b) parts.1)
  where
    not_true : (c : Bool) → not c ≡ true → c ≡ false
    not_true true is = cc
    not_true false is = refl

step_plain : (asked : Asked) (f : Finding) (b : ℕ) → 0 < length f.row → length f.row + 1 < block_limit → is_row_byte b ≡ true → step asked f b ≡ record f { row = f.row ++ b ∷ []; same = 0 }
unfolding step
step_plain asked f b some few plain =
    let parts = plain_parts b plain in
    let g : Finding = with_byte f b in
    let size : length (f.row ++ b ∷ []) ≡ length f.row + 1 = length-append f.row (b ∷ []) in
    let none : same_with f.row f.same b ≡ 0 = if_false (can_fill b) (if b == get_or f.row (length f.row - 1) 0 then min (f.same + 1) 256 else 1) 0 parts.1 in
    if_false (length f.row == 0) (step_outside f b) (step_in_row asked f b) (ne_eqb (length f.row) 0 (λ e. absurd (omega (arith, e))))
    ∙ if_true (nat_lt b 128) (lengthened asked g b) (end_row asked f (take (length f.row) f.row) (f.place + length f.row + 1)) parts.0
    ∙ if_false (makes_fill b g.same) (end_row asked g (take (length g.row - g.same) g.row) (g.place + length g.row)) (if length g.row == block_limit then go_on g (block_of asked true g.row) else g)
    (no_fill (b == 0x00) (b == 0x1A) (b == 0x20) g.same parts.1)
    ∙ if_false (length g.row == block_limit) (go_on g (block_of asked true g.row)) g (ne_eqb (length g.row) block_limit (λ e. absurd (omega (arith, e, size))))
    ∙ ap (λ (n : ℕ). record f { row = f.row ++ b ∷ []; same = n }) none

pub plain_bytes : (asked : Asked) (f : Finding) (xs : List ℕ) (n : ℕ) → 0 < length f.row → length f.row + suc n < block_limit → suc n ≤ length xs →
    ((k : ℕ) → k < suc n → is_row_byte (get_or xs k 0) ≡ true) → find_on asked (record f { row = f.row ++ take (suc n) xs; same = 0 }) (drop (suc n) xs) ≡ find_on asked f xs
plain_bytes asked f [] n some few within plain = absurd (omega arith)
plain_bytes asked f (b ∷ bs) zero some few within plain =
    sym (find_on_cons asked f b bs ∙ ap (λ (h : Finding). find_on asked h bs) (step_plain asked f b some (omega arith) (plain 0 (omega arith))))
plain_bytes asked f (b ∷ bs) (suc n) some few within plain =
    let g : Finding = record f { row = f.row ++ b ∷ []; same = 0 } in
    let size : length (f.row ++ b ∷ []) ≡ length f.row + 1 = length-append f.row (b ∷ []) in
    ap (λ (row : List ℕ). find_on asked (record f { row = row; same = 0 }) (drop (suc n) bs)) (sym (append_assoc f.row (b ∷ []) (take (suc n) bs)))
    ∙ plain_bytes asked g bs n (omega arith) (omega arith) (omega arith) (λ k less. plain (suc k) (omega arith))
    ∙ sym (find_on_cons asked f b bs ∙ ap (λ (h : Finding). find_on asked h bs) (step_plain asked f b some (omega arith) (plain 0 (omega arith))))

-- the row with the bytes, by their number
pub plain_more : (asked : Asked) (f : Finding) (xs row : List ℕ) (n : ℕ) → row ≡ f.row ++ take n xs → 0 < length f.row → 0 < n → length f.row + n < block_limit → n ≤ length xs →
    ((k : ℕ) → k < n → is_row_byte (get_or xs k 0) ≡ true) → find_on asked (record f { row = row; same = 0 }) (drop n xs) ≡ find_on asked f xs
plain_more asked f xs row zero is some any few within plain = absurd (omega arith)
plain_more asked f xs row (suc n) is some any few within plain =
    ap (λ (r : List ℕ). find_on asked (record f { row = r; same = 0 }) (drop (suc n) xs)) is ∙ plain_bytes asked f xs n some few within plain

-- the same of the bytes from an index on
pub passed_on : (asked a : Asked) (f g : Finding) (xs : List ℕ) (at n : ℕ) → a ≡ asked →
    find_on a g (drop n (take (length xs - at) (drop at xs))) ≡ find_on a f (take (length xs - at) (drop at xs)) → find_on asked g (drop (at + n) xs) ≡ find_on asked f (drop at xs)
passed_on asked a f g xs at n same h =
    let k = subst (λ (ys : List ℕ). find_on a g (drop n ys) ≡ find_on a f ys) (take_rest xs at) h in
    let m = subst (λ (b : Asked). find_on b g (drop n (drop at xs)) ≡ find_on b f (drop at xs)) same k in
    ap (find_on asked g) (sym (drop-drop n at xs)) ∙ m
