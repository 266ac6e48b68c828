use Rattle.std.proofs.Common.{Bool, List, None, Option, Some, [], ap, arith, drop, false, if◌then◌else◌, length, length-drop, max, nat_lt, refl, suc, take, true, zero, ℕ, ◌&&◌, ◌+◌, ◌-◌, ◌<◌, ◌==◌, ◌∙◌, ◌∷◌, ◌≡◌, ◌≤◌}
use Rattle.std.specs.Prelude.{⊤}
use Rattle.nap_find.specs.Beginnings.{begins}
use Rattle.nap_find.specs.Ends.{page_end_of, most_readings, retry_from}
use Rattle.nap_find.specs.Laws.{IsPageIn}
use Rattle.nap_find.specs.Readings.{idle_limit, is_idle, is_page, reach, reads}
use Rattle.nap_find.specs.Verdicts.{Block, Span, block_at, block_by, block_of, block_within, decided_to, lacks_bytes, next_beginning, verdict, verdict_at, verdict_by_end, verdict_read}
use Rattle.nap_find.specs.declared.{find.Asked.Asked, verdict.Verdict.Verdict}
use Rattle.nap_find.proofs.EndLemmas.{IsEnd, end_of_is, first_from_least, greatest_within}
use Rattle.nap_find.proofs.IdleLemmas.{idle_long}
use Rattle.nap_find.proofs.SearchingLemmas.{last_few-most}

-- The pages of a block.

-- a verdict keeps to the bytes, and a page is one
abbrev pub IsSound : Asked → List ℕ → Verdict → Type 0
IsSound asked p (Verdict.Page e) = IsEnd asked p e
IsSound asked p (Verdict.None r) = r ≤ length p
IsSound asked p Verdict.Waits = ⊤

module _ (asked : Asked) (more : Bool) (p : List ℕ) where
  by_end_sound : (r : ℕ) → r ≤ length p → (o : Option ℕ) → ((e : ℕ) → o ≡ Some e → IsEnd asked p e) → IsSound asked p (verdict_by_end r o)
  by_end_sound r few None ends = few
  by_end_sound r few (Some e) ends = ends e refl

  at_sound : (r : ℕ) → r ≤ length p → IsSound asked p (verdict_at asked more p r)
  at_sound r few =
      elim (more && (r == length p)) as (λ b. IsSound asked p (if b then Verdict.Waits else (if nat_lt r asked.bytes then Verdict.None r else verdict_by_end r (page_end_of asked p r)))) [
        | true ↦ tt
        | false ↦ elim (nat_lt r asked.bytes) as (λ b. IsSound asked p (if b then Verdict.None r else verdict_by_end r (page_end_of asked p r))) [
          | true ↦ few
          | false ↦ by_end_sound r few (page_end_of asked p r) (end_of_is asked p r few)
        ]
      ]

  sound_by : (b : Bool) → (b ≡ true → idle_limit ≤ length p) → IsSound asked p (if b then Verdict.None idle_limit else verdict_at asked more p (reach p))
  sound_by true long = long refl
  sound_by false long = at_sound (reach p) (greatest_within (reads p) (length p))

  short_by : (b : Bool) → IsSound asked p (if b then Verdict.None 0 else verdict_read asked more p)
  short_by true = omega arith
  short_by false = sound_by (is_idle p) (λ idle. let long = idle_long p idle in omega (arith, long))

  pub verdict_sound : IsSound asked p (verdict asked more p)
  unfolding verdict
  verdict_sound = short_by (lacks_bytes more (length p) asked.bytes)

-- the pages come in order from one index to before another, none overlaps the next, and each is a page
abbrev pub AreSpans : Asked → List ℕ → ℕ → ℕ → List Span → Type 0
AreSpans asked row from to [] = from ≤ to
AreSpans asked row from to (s ∷ ss) = (from ≤ s.from) × (s.from ≤ s.to) × IsPageIn asked row s.from s.to × AreSpans asked row s.to to ss

-- The pages of what is decided from an index on.
pub record IsBlock (asked : Asked) (row : List ℕ) (at : ℕ) (block : Block) : Type 0 where
  pub spans : AreSpans asked row at block.decided block.pages
  pub decided : block.decided ≤ length row

spans_from : (asked : Asked) (row : List ℕ) (from least to : ℕ) (ss : List Span) → least ≤ from → AreSpans asked row from to ss → AreSpans asked row least to ss
spans_from asked row from least to [] less h = omega arith
spans_from asked row from least to (s ∷ ss) less h = (omega (arith, h.0), h.1, h.2, h.3)

module _ (asked : Asked) (more : Bool) (row : List ℕ) where
  by_sound : (next : ℕ → Block) → ((at : ℕ) → at ≤ length row → IsBlock asked row at (next at)) → (at from : ℕ) → at ≤ from → from < length row →
      (v : Verdict) → IsSound asked (drop from row) v → IsBlock asked row at (block_by next (drop from row) from v)
  by_sound next rest at from after inside (Verdict.Page e) sound =
      let size : length (drop from row) ≡ length row - from = length-drop from row in
      let few : from + max e 1 ≤ length row = omega (arith, sound.1) in
      let h = rest (from + max e 1) few in
      let same : from + e - from ≡ e = omega arith in
      record {
        spans = (
          after,
          omega arith,
          ap (λ (k : ℕ). is_page asked (take k (drop from row))) same ∙ sound.0,
          spans_from asked row (from + max e 1) (from + e) (next (from + max e 1)).decided (next (from + max e 1)).pages (omega arith) h.spans,
        );
        decided = h.decided;
      }
  by_sound next rest at from after inside (Verdict.None r) sound =
      let size : length (drop from row) ≡ length row - from = length-drop from row in
      let most : retry_from (drop from row) r ≤ 1 + (r - 1) = last_few-most (begins (drop from row)) (most_readings - 1) 1 (r - 1) in
      let few : from + retry_from (drop from row) r ≤ length row = omega (arith, most, sound) in
      let h = rest (from + retry_from (drop from row) r) few in
      record {
        spans = spans_from asked row (from + retry_from (drop from row) r) at (next (from + retry_from (drop from row) r)).decided (next (from + retry_from (drop from row) r)).pages (omega arith) h.spans;
        decided = h.decided;
      }
  by_sound next rest at from after inside Verdict.Waits sound = record { spans = after; decided = omega arith }

  at_block : (next : ℕ → Block) → ((at : ℕ) → at ≤ length row → IsBlock asked row at (next at)) → (at : ℕ) → at ≤ length row →
      (o : Option ℕ) → ((k : ℕ) → o ≡ Some k → (at ≤ k) × (k < length row)) → IsBlock asked row at (block_at asked more row next o)
  at_block next rest at few None found = record { spans = few; decided = omega arith }
  at_block next rest at few (Some from) found =
      let h = found from refl in
      by_sound next rest at from h.0 h.1 (verdict asked (more && nat_lt 0 from) (drop from row)) (verdict_sound asked (more && nat_lt 0 from) (drop from row))

  next_within : (at : ℕ) → at ≤ length row → (k : ℕ) → next_beginning row at ≡ Some k → (at ≤ k) × (k < length row)
  next_within at few k is =
      let h = first_from_least (begins row) at (length row - at) k is in
      (h.0, omega (arith, h.1))

  within_block : (fuel at : ℕ) → at ≤ length row → IsBlock asked row at (block_within asked more row fuel at)
  unfolding block_within
  within_block zero at few = record { spans = few; decided = omega arith }
  within_block (suc fuel) at few =
      at_block (block_within asked more row fuel) (within_block fuel) at few (next_beginning row at) (next_within at few)

  by_length : (b : Bool) → IsBlock asked row 0 (if b then decided_to (length row) else block_within asked more row (suc (length row)) 0)
  by_length true = record { spans = omega arith; decided = omega arith }
  by_length false = within_block (suc (length row)) 0 (omega arith)

  pub block_is : IsBlock asked row 0 (block_of asked more row)
  unfolding block_of
  block_is = by_length (nat_lt (length row) asked.bytes)
