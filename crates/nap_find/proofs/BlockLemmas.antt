use Rattle.std.proofs.Common.{Bool, List, None, Some, [], ap, append-nil, append_assoc, arith, drop, false, length, map, max, nat_lt, refl, subst, suc, sym, true, ℕ, ◌&&◌, ◌++◌, ◌+◌, ◌∙◌, ◌∷◌, ◌≡◌}
use Rattle.nap_find.specs.Ends.{retry_from}
use Rattle.nap_find.specs.Rows.{find_at}
use Rattle.nap_find.specs.ShapeLaws.{capped_join, capped_none}
use Rattle.nap_find.specs.Shapes.{capped_sum}
use Rattle.nap_find.specs.Verdicts.{Block, block_at, block_by, block_of, block_within, decided_to, next_beginning, passed_over, verdict, with_page, with_passed}
use Rattle.nap_find.specs.declared.{find.Asked.Asked, find.Find.Find, verdict.Verdict.Verdict}
use Rattle.nap_find.proofs.SearchingLemmas.{if_false, if_true}

-- Steps through a block.

-- The finds so far and what the rest of a block has lead to what the whole has.
pub record Goes (place : ℕ) (finds0 : List Find) (passed0 : ℕ) (whole : Block) (finds : List Find) (passed : ℕ) (block : Block) : Type 0 where
  pub pages : finds ++ map (find_at place) block.pages ≡ finds0 ++ map (find_at place) whole.pages
  pub passed_is : capped_sum passed block.passed ≡ capped_sum passed0 whole.passed
  pub decided : block.decided ≡ whole.decided

module _ (place : ℕ) (finds0 : List Find) (passed0 : ℕ) (whole : Block) where
  pub goes_whole : (block : Block) → block ≡ whole → Goes place finds0 passed0 whole finds0 passed0 block
  goes_whole block is = record {
    pages = ap (λ (b : Block). finds0 ++ map (find_at place) b.pages) is;
    passed_is = ap (λ (b : Block). capped_sum passed0 b.passed) is;
    decided = ap (λ (b : Block). b.decided) is;
  }

  pub goes_page : (finds : List Find) (passed : ℕ) (from to : ℕ) (block rest : Block) → block ≡ with_page from to rest → Goes place finds0 passed0 whole finds passed block →
      Goes place finds0 passed0 whole (finds ++ find_at place (record { from = from; to = to }) ∷ []) passed rest
  goes_page finds passed from to block rest is goes =
      let h = subst (Goes place finds0 passed0 whole finds passed) is goes in
      record {
        pages = append_assoc finds (find_at place (record { from = from; to = to }) ∷ []) (map (find_at place) rest.pages) ∙ h.pages;
        passed_is = h.passed_is;
        decided = h.decided;
      }

  pub goes_passed : (finds : List Find) (passed n more : ℕ) (block rest : Block) → block ≡ with_passed n rest → more ≡ capped_sum passed n → Goes place finds0 passed0 whole finds passed block →
      Goes place finds0 passed0 whole finds more rest
  goes_passed finds passed n more block rest is sum goes =
      let h = subst (Goes place finds0 passed0 whole finds passed) is goes in
      record {
        pages = h.pages;
        passed_is = capped_join passed n rest.passed (n + rest.passed) more (capped_sum more rest.passed) refl sum refl ∙ h.passed_is;
        decided = h.decided;
      }

  module _ (finds : List Find) (passed n : ℕ) (block : Block) (is : block ≡ decided_to n) (goes : Goes place finds0 passed0 whole finds passed block) where
    pub ended_pages : finds ≡ finds0 ++ map (find_at place) whole.pages
    ended_pages = let h = subst (Goes place finds0 passed0 whole finds passed) is goes in sym (append-nil finds) ∙ h.pages

    pub ended_passed : passed ≡ capped_sum passed0 whole.passed
    ended_passed = let h = subst (Goes place finds0 passed0 whole finds passed) is goes in capped_none passed ∙ h.passed_is

    pub ended_decided : n ≡ whole.decided
    ended_decided = let h = subst (Goes place finds0 passed0 whole finds passed) is goes in h.decided

module _ (asked : Asked) (more : Bool) (row : List ℕ) where
  pub block_begins : (fuel : ℕ) → fuel ≡ length row + 1 → nat_lt (length row) asked.bytes ≡ false → block_within asked more row fuel 0 ≡ block_of asked more row
  unfolding block_of
  block_begins fuel is long =
      let e : fuel ≡ suc (length row) = omega arith in
      ap (λ (n : ℕ). block_within asked more row n 0) e
      ∙ sym (if_false (nat_lt (length row) asked.bytes) (decided_to (length row)) (block_within asked more row (suc (length row)) 0) long)

  pub block_short : nat_lt (length row) asked.bytes ≡ true → block_of asked more row ≡ decided_to (length row)
  unfolding block_of
  block_short short = if_true (nat_lt (length row) asked.bytes) (decided_to (length row)) (block_within asked more row (suc (length row)) 0) short

  pub block_spent : (fuel at : ℕ) → fuel ≡ 0 → block_within asked more row fuel at ≡ decided_to (length row)
  unfolding block_within
  block_spent fuel at is = rw is refl

  module _ (fuel m at : ℕ) (is : fuel ≡ suc m) where
    pub block_none : next_beginning row at ≡ None → block_within asked more row fuel at ≡ decided_to (length row)
    unfolding block_within
    block_none none = rw is (ap (block_at asked more row (block_within asked more row m)) none)

    block_verdict : (from : ℕ) (v : Verdict) → next_beginning row at ≡ Some from → verdict asked (more && nat_lt 0 from) (drop from row) ≡ v →
        block_within asked more row fuel at ≡ block_by (block_within asked more row m) (drop from row) from v
    unfolding block_within
    block_verdict from v some said =
        rw is (ap (block_at asked more row (block_within asked more row m)) some ∙ ap (block_by (block_within asked more row m) (drop from row) from) said)

    pub block_page : (from e : ℕ) → next_beginning row at ≡ Some from → verdict asked (more && nat_lt 0 from) (drop from row) ≡ Verdict.Page e →
        block_within asked more row fuel at ≡ with_page from (from + e) (block_within asked more row m (from + max e 1))
    block_page from e some said = block_verdict from (Verdict.Page e) some said

    pub block_passed : (from r : ℕ) → next_beginning row at ≡ Some from → verdict asked (more && nat_lt 0 from) (drop from row) ≡ Verdict.None r →
        block_within asked more row fuel at ≡ with_passed (passed_over (drop from row) r) (block_within asked more row m (from + retry_from (drop from row) r))
    block_passed from r some said = block_verdict from (Verdict.None r) some said

    pub block_waits : (from : ℕ) → next_beginning row at ≡ Some from → verdict asked (more && nat_lt 0 from) (drop from row) ≡ Verdict.Waits →
        block_within asked more row fuel at ≡ decided_to from
    block_waits from some said = block_verdict from Verdict.Waits some said

pub goes_at : (place : ℕ) (finds0 : List Find) (passed0 : ℕ) (whole : Block) (finds finds' : List Find) (passed passed' : ℕ) (block block' : Block) →
    finds' ≡ finds → passed' ≡ passed → block' ≡ block → Goes place finds0 passed0 whole finds passed block → Goes place finds0 passed0 whole finds' passed' block'
goes_at place finds0 passed0 whole finds finds' passed passed' block block' is_finds is_passed is_block goes =
    subst (Goes place finds0 passed0 whole finds' passed') (sym is_block)
    (subst (λ (n : ℕ). Goes place finds0 passed0 whole finds' n block) (sym is_passed) (subst (λ (fs : List Find). Goes place finds0 passed0 whole fs passed block) (sym is_finds) goes))
