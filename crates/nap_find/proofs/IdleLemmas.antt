use Rattle.std.proofs.Common.{Bool, List, Option, ap, arith, drop, false, length, min, nat_lt, refl, sym, take, true, ℕ, ◌&&◌, ◌++◌, ◌+◌, ◌-◌, ◌<◌, ◌==◌, ◌∙◌, ◌≡◌, ◌≢◌, ◌≤◌, inl, inr}
use Rattle.std.proofs.lemmas.Bool.{and_parts, cases_lt, eq-eqb, le-ltb, lt-ltb, ltb-true, ne_eqb}
use Rattle.std.proofs.lemmas.List.{length-take-le, take-append-drop, take_all, take_rest}
use Rattle.nap_reader.specs.Stream.{begun}
use Rattle.nap_find.specs.Readings.{IsExtent, IsRefusedAt, IsTried, find_budget, idle_limit, is_idle, is_read, draws_shape, reads, reads_and_draws, nothing_drawn}
use Rattle.nap_find.specs.Shapes.{CountsDrawn, capped_sum, shapes_in}
use Rattle.nap_find.specs.declared.{drawn_sink.DrawnSink.DrawnSink, find.Asked.Asked, reading.Extent.Extent}
use Rattle.nap_find.proofs.ReadingLemmas.{reach_refused, reach_whole, refused_in, refused_later}

-- When bytes are idle.

and_first : (a b c : Bool) → a ≡ false → (a && b && c) ≡ false
and_first true b c h = cc
and_first false b c h = refl

and_second : (a b c : Bool) → b ≡ false → (a && b && c) ≡ false
and_second true b c h = rw h refl
and_second false b c h = refl

and_third : (a b c : Bool) → c ≡ false → (a && b && c) ≡ false
and_third true true c h = h
and_third true false c h = refl
and_third false b c h = refl

and_all : (a b c : Bool) → a ≡ true → b ≡ true → c ≡ true → (a && b && c) ≡ true
and_all a b c one two three = rw (one, two, three) refl

pub short_not_idle : (q : List ℕ) → length q ≤ idle_limit → is_idle q ≡ false
unfolding is_idle
short_not_idle q short =
    and_first (nat_lt idle_limit (length q)) (reads q idle_limit) (shapes_in (begun find_budget (take idle_limit q)).entries == 0) (le-ltb idle_limit (length q) short)

pub refused_not_idle : (q : List ℕ) → reads q idle_limit ≡ false → is_idle q ≡ false
unfolding is_idle
refused_not_idle q h =
    and_second (nat_lt idle_limit (length q)) (reads q idle_limit) (shapes_in (begun find_budget (take idle_limit q)).entries == 0) h

pub drawn_not_idle : (q : List ℕ) → shapes_in (begun find_budget (take idle_limit q)).entries ≢ 0 → is_idle q ≡ false
unfolding is_idle
drawn_not_idle q some =
    and_third (nat_lt idle_limit (length q)) (reads q idle_limit) (shapes_in (begun find_budget (take idle_limit q)).entries == 0) (ne_eqb (shapes_in (begun find_budget (take idle_limit q)).entries) 0 some)

pub undrawn_idle : (q : List ℕ) → idle_limit < length q → reads q idle_limit ≡ true → shapes_in (begun find_budget (take idle_limit q)).entries ≡ 0 → is_idle q ≡ true
unfolding is_idle
undrawn_idle q long read none =
    and_all (nat_lt idle_limit (length q)) (reads q idle_limit) (shapes_in (begun find_budget (take idle_limit q)).entries == 0) (lt-ltb idle_limit (length q) long) read (eq-eqb (shapes_in (begun find_budget (take idle_limit q)).entries) 0 none)

-- a refused byte among the first ones: it is that of all bytes, which aren't idle
pub first_refused : (q : List ℕ) (k n : ℕ) → k ≡ min (length q) idle_limit → IsRefusedAt (take k q) n → IsRefusedAt q n × (is_idle q ≡ false)
first_refused q k n count at =
    let few : k ≤ length q = omega arith in
    let size : length (take k q) ≡ k = length-take-le k q few in
    let less : n < k = omega (arith, at.within) in
    let whole = refused_in q k n few at less in (
      whole,
      elim (cases_lt idle_limit (length q)) [
        | inl long ↦ refused_not_idle q (refused_later q (n + 1) idle_limit whole.refused (omega arith))
        | inr short ↦ short_not_idle q short
      ],
    )

pub capped_zero : (n : ℕ) → capped_sum 0 n ≡ 0 → n ≡ 0
capped_zero n none = omega arith

-- What a reading answers.
module _ (asked : Asked) (q : List ℕ) where
  pub found_refused : (n : ℕ) → IsRefusedAt q n → is_idle q ≡ false → IsExtent asked q (Extent.Refused n)
  found_refused n at busy = (busy, reach_refused q n at, omega (arith, at.within))

  pub found_whole : (tried : Option Bool) → is_read q ≡ true → is_idle q ≡ false → IsTried asked q tried → IsExtent asked q (Extent.Whole tried)
  found_whole tried read busy found = (busy, reach_whole q read, found)

  module _ (k : ℕ) (count : k ≡ min (length q) idle_limit) where
    pub found_first : (n : ℕ) → IsRefusedAt (take k q) n → IsExtent asked q (Extent.Refused n)
    found_first n at = let h = first_refused q k n count at in found_refused n h.0 h.1

    pub found_short : (tried : Option Bool) → k ≡ length q → is_read (take k q) ≡ true → IsTried asked q tried → IsExtent asked q (Extent.Whole tried)
    found_short tried all read found =
        found_whole tried (ap is_read (sym (take_all k q (omega arith))) ∙ read) (short_not_idle q (omega arith)) found

    module _ (s t : DrawnSink) (none : s ≡ nothing_drawn) (long : k ≢ length q) (drawn : CountsDrawn s (begun find_budget (take k q)).entries t) where
      limit : k ≡ idle_limit
      limit = omega (arith, long)

      counts : t.shapes ≡ capped_sum 0 (shapes_in (begun find_budget (take idle_limit q)).entries)
      counts =
          drawn.shapes ∙ ap (λ (u : DrawnSink). capped_sum u.shapes (shapes_in (begun find_budget (take k q)).entries)) none
          ∙ ap (λ (n : ℕ). capped_sum 0 (shapes_in (begun find_budget (take n q)).entries)) limit

      pub found_idle : is_read (take k q) ≡ true → t.shapes ≡ 0 → is_idle q ≡ true
      found_idle read undrawn = undrawn_idle q (omega (arith, long)) (ap (reads q) (sym limit) ∙ read) (capped_zero _ (sym counts ∙ undrawn))

      pub drawn_busy : t.shapes ≢ 0 → is_idle q ≡ false
      drawn_busy some = drawn_not_idle q (λ undrawn. some (counts ∙ ap (capped_sum 0) undrawn))

pub joined : (q : List ℕ) (k : ℕ) → take k q ++ take (length q - k) (drop k q) ≡ q
joined q k = ap (λ (p : List ℕ). take k q ++ p) (take_rest q k) ∙ take-append-drop k q

-- whether a shape is drawn, by a sink's count
pub draws_some : (s t : DrawnSink) (q : List ℕ) → s ≡ nothing_drawn → CountsDrawn s (begun find_budget q).entries t → nat_lt 0 t.shapes ≡ draws_shape q
draws_some s t q none drawn =
    let n = shapes_in (begun find_budget q).entries in
    let counted : t.shapes ≡ capped_sum 0 n = drawn.shapes ∙ ap (λ (u : DrawnSink). capped_sum u.shapes n) none in
    ap (nat_lt 0) counted
    ∙ elim (cases_lt 0 n) [
      | inl some ↦ lt-ltb 0 (capped_sum 0 n) (omega arith) ∙ sym (lt-ltb 0 n some)
      | inr empty ↦ le-ltb 0 (capped_sum 0 n) (omega arith) ∙ sym (le-ltb 0 n empty)
    ]

pub unread_draws : (p : List ℕ) (least : ℕ) → reads p least ≡ false → false ≡ reads_and_draws p least
unfolding reads_and_draws
unread_draws p least unread = rw unread refl

pub later_draws : (p : List ℕ) (least : ℕ) (b : Bool) → reads p least ≡ true → draws_shape (take least p) ≡ false → b ≡ draws_shape p → b ≡ reads_and_draws p least
unfolding reads_and_draws
later_draws p least b read none some = rw (read, none) some

-- idle bytes are more than the limit
pub idle_long : (p : List ℕ) → is_idle p ≡ true → idle_limit < length p
unfolding is_idle
idle_long p idle =
    let one = and_parts (nat_lt idle_limit (length p) && reads p idle_limit) (shapes_in (begun find_budget (take idle_limit p)).entries == 0) idle in
    let two = and_parts (nat_lt idle_limit (length p)) (reads p idle_limit) one.0 in
    ltb-true idle_limit (length p) two.0
