use Rattle.std.proofs.Common.{Bool, List, None, Option, Some, ap, arith, false, if◌then◌else◌, length, nat_le, nat_lt, not, refl, subst, suc, sym, take, true, zero, ℕ, ◌&&◌, ◌+◌, ◌-◌, ◌<◌, ◌∙◌, ◌≡◌, ◌≤◌}
use Rattle.std.proofs.lemmas.Bool.{and_parts, le-ltb, leb-true}
use Rattle.std.proofs.lemmas.List.{take_all}
use Rattle.nap_reader.specs.Stream.{means}
use Rattle.nap_find.specs.Beginnings.{begins, begins_anew, goes_on}
use Rattle.nap_find.specs.Ends.{bytes_of_next, either, end_before, end_by, end_tries, is_code_byte, is_next, last_code, next_anew, next_other, next_page, others_from, own_end, page_end_of, retry_from}
use Rattle.nap_find.specs.Readings.{accepts, draws, find_budget, is_accepted, is_page, reads_and_draws}
use Rattle.nap_find.specs.Searching.{first_down, first_from, greatest}
use Rattle.nap_find.specs.Verdicts.{verdict_at, verdict_by_end}
use Rattle.nap_find.specs.declared.{find.Asked.Asked, verdict.Verdict.Verdict}
use Rattle.nap_find.proofs.SearchingLemmas.{first_down-hit, if_false}

-- How far ends and verdicts go.

some_same : {A : Type 0} (x y : A) → Some x ≡ Some y → x ≡ y
some_same x y is = cc

first_down_within : (f : ℕ → Bool) (at n k : ℕ) → first_down f at n ≡ Some k → k ≤ at
unfolding first_down
first_down_within f at zero k is = cc
first_down_within f at (suc n) k is =
    elim (f at) as (λ b. (if b then Some at else first_down f (at - 1) n) ≡ Some k → k ≤ at) [
      | true ↦ λ e. let same : at ≡ k = some_same at k e in omega arith
      | false ↦ λ e. let h : k ≤ at - 1 = first_down_within f (at - 1) n k e in omega arith
    ] is

first_down_passes : (f : ℕ → Bool) (at n k : ℕ) → first_down f at n ≡ Some k → f k ≡ true
unfolding first_down
first_down_passes f at zero k is = cc
first_down_passes f at (suc n) k is =
    elim (f at) as (λ b. f at ≡ b → (if b then Some at else first_down f (at - 1) n) ≡ Some k → f k ≡ true) [
      | true ↦ λ hit e. subst (λ (i : ℕ). f i ≡ true) (some_same at k e) hit
      | false ↦ λ miss e. first_down_passes f (at - 1) n k e
    ] refl is

first_from_passes : (f : ℕ → Bool) (at n k : ℕ) → first_from f at n ≡ Some k → f k ≡ true
unfolding first_from
first_from_passes f at zero k is = cc
first_from_passes f at (suc n) k is =
    elim (f at) as (λ b. f at ≡ b → (if b then Some at else first_from f (at + 1) n) ≡ Some k → f k ≡ true) [
      | true ↦ λ hit e. subst (λ (i : ℕ). f i ≡ true) (some_same at k e) hit
      | false ↦ λ miss e. first_from_passes f (at + 1) n k e
    ] refl is

either_is : (P : ℕ → Type 0) (a b : Option ℕ) → ((x : ℕ) → a ≡ Some x → P x) → ((x : ℕ) → b ≡ Some x → P x) → (e : ℕ) → either a b ≡ Some e → P e
either_is P None b left right e is = right e is
either_is P (Some n) b left right e is = subst P (some_same n e is) (left n refl)

pub greatest_within : (f : ℕ → Bool) (n : ℕ) → greatest f n ≤ n
unfolding greatest
greatest_within f zero = omega arith
greatest_within f (suc n) =
    let h : greatest f n ≤ n = greatest_within f n in
    elim (f (suc n)) as (λ b. (if b then suc n else greatest f n) ≤ suc n) [ true ↦ omega arith | false ↦ omega (arith, h) ]

pub first_from_least : (f : ℕ → Bool) (at n k : ℕ) → first_from f at n ≡ Some k → (at ≤ k) × (k < at + n)
unfolding first_from
first_from_least f at zero k is = cc
first_from_least f at (suc n) k is =
    elim (f at) as (λ b. (if b then Some at else first_from f (at + 1) n) ≡ Some k → (at ≤ k) × (k < at + suc n)) [
      | true ↦ λ e. let same : at ≡ k = some_same at k e in (omega arith, omega arith)
      | false ↦ λ e. let h = first_from_least f (at + 1) n k e in (omega (arith, h.0), omega (arith, h.1))
    ] is

-- the bytes before this end are a page, and the end is among all
abbrev pub IsEnd : Asked → List ℕ → ℕ → Type 0
IsEnd asked p e = (is_page asked (take e p) ≡ true) × (e ≤ length p)

module _ (asked : Asked) (p : List ℕ) where
  before_within : (at : ℕ) → at ≤ length p → (x : ℕ) → end_before p at ≡ Some x → x ≤ length p
  before_within at few x is = let h : x ≤ at = first_down_within (accepts p) at end_tries x is in omega arith

  -- another page begins after a page
  next_is : (r at : ℕ) → is_next asked p r at ≡ true → is_page asked (take at p) ≡ true
  next_is r at h =
      let parts = and_parts (begins p at && not (goes_on p at) && reads_and_draws (bytes_of_next asked p r at) (r + asked.bytes - at)) (is_page asked (take at p)) h in
      parts.1

  module _ (r : ℕ) (few : r ≤ length p) where
    last_within : last_code p r ≤ length p
    last_within = let h : last_code p r ≤ r - 1 = greatest_within (is_code_byte p) (r - 1) in omega arith

    own_within : (x : ℕ) → own_end p r ≡ Some x → x ≤ length p
    own_within x is =
        either_is (λ (k : ℕ). k ≤ length p) (end_before p r) (end_before p (last_code p r)) (before_within r few) (before_within (last_code p r) last_within) x is

    anew_is : (e : ℕ) → next_anew asked p r ≡ Some e → IsEnd asked p e
    anew_is e is =
        let f : ℕ → Bool = λ at. begins_anew p at && is_next asked p r at in
        let h : e ≤ r - 1 = first_down_within f (r - 1) (r - retry_from p r) e is in
        let parts = and_parts (begins_anew p e) (is_next asked p r e) (first_down_passes f (r - 1) (r - retry_from p r) e is) in
        (next_is r e parts.1, omega arith)

    other_is : (e : ℕ) → next_other asked p r ≡ Some e → IsEnd asked p e
    other_is e is =
        let f : ℕ → Bool = λ at. not (begins_anew p at) && is_next asked p r at in
        let h = first_from_least f (others_from p r) (r - others_from p r) e is in
        let parts = and_parts (not (begins_anew p e)) (is_next asked p r e) (first_from_passes f (others_from p r) (r - others_from p r) e is) in
        (next_is r e parts.1, omega (arith, h.0, h.1))

    next_page_is : (e : ℕ) → next_page asked p r ≡ Some e → IsEnd asked p e
    next_page_is e is =
        elim (nat_lt (r + asked.bytes) (length p)) as (λ b. (if b then either (next_anew asked p r) (next_other asked p r) else None) ≡ Some e → IsEnd asked p e) [
          | true ↦ λ s. either_is (IsEnd asked p) (next_anew asked p r) (next_other asked p r) anew_is other_is e s
          | false ↦ λ s. cc
        ] is

    by_is : (o : Option ℕ) → ((x : ℕ) → o ≡ Some x → x ≤ length p) → (e : ℕ) → end_by asked p r o ≡ Some e → IsEnd asked p e
    by_is None within e is = next_page_is e is
    by_is (Some x) within e is =
        elim (is_page asked (take x p)) as (λ b. is_page asked (take x p) ≡ b → (if b then either (next_page asked p r) (Some x) else None) ≡ Some e → IsEnd asked p e) [
          | true ↦ λ hit s. either_is (IsEnd asked p) (next_page asked p r) (Some x) next_page_is (λ y same. subst (IsEnd asked p) (some_same x y same) (hit, within x refl)) e s
          | false ↦ λ miss s. cc
        ] refl is

    pub end_of_is : (e : ℕ) → page_end_of asked p r ≡ Some e → IsEnd asked p e
    unfolding page_end_of
    end_of_is e is = by_is (own_end p r) own_within e is

-- The verdict about bytes that are all read, and accepted.
module _ (asked : Asked) (p : List ℕ) (accepted : is_accepted p ≡ true) where
  all : take (length p) p ≡ p
  all = take_all (length p) p (omega arith)

  whole_own : own_end p (length p) ≡ Some (length p)
  whole_own =
      ap (λ (o : Option ℕ). either o (end_before p (last_code p (length p))))
      (first_down-hit (accepts p) (length p) end_tries 31 refl (ap is_accepted all ∙ accepted))

  none_next : next_page asked p (length p) ≡ None
  none_next =
      if_false (nat_lt (length p + asked.bytes) (length p)) (either (next_anew asked p (length p)) (next_other asked p (length p))) None
      (le-ltb (length p + asked.bytes) (length p) (omega arith))

  whole_end : (b : Bool) → is_page asked p ≡ b → page_end_of asked p (length p) ≡ (if b then Some (length p) else None)
  unfolding page_end_of
  whole_end b is =
      ap (end_by asked p (length p)) whole_own
      ∙ ap (λ (t : Bool). if t then either (next_page asked p (length p)) (Some (length p)) else None) (ap (is_page asked) all ∙ is)
      ∙ ap (λ (o : Option ℕ). if b then either o (Some (length p)) else None) none_next

  verdict_whole : (b : Bool) → is_page asked p ≡ b → verdict_at asked false p (length p) ≡
      (if nat_lt (length p) asked.bytes then Verdict.None (length p) else verdict_by_end (length p) (if b then Some (length p) else None))
  verdict_whole b is = ap (λ (o : Option ℕ). if nat_lt (length p) asked.bytes then Verdict.None (length p) else verdict_by_end (length p) o) (whole_end b is)

  pub verdict_of_page : (more : Bool) → more ≡ false → is_page asked p ≡ true → Verdict.Page (length p) ≡ verdict_at asked more p (length p)
  unfolding is_page
  verdict_of_page more ended is =
      let one = and_parts (nat_le asked.bytes (length p) && is_accepted p) (draws asked (means find_budget p).entries) is in
      let two = and_parts (nat_le asked.bytes (length p)) (is_accepted p) one.0 in
      let long : asked.bytes ≤ length p = leb-true asked.bytes (length p) two.0 in
      sym (ap (λ (m : Bool). verdict_at asked m p (length p)) ended ∙ verdict_whole true is
      ∙ if_false (nat_lt (length p) asked.bytes) (Verdict.None (length p)) (Verdict.Page (length p)) (le-ltb (length p) asked.bytes long))

  pub verdict_of_other : (more : Bool) → more ≡ false → is_page asked p ≡ false → Verdict.None (length p) ≡ verdict_at asked more p (length p)
  verdict_of_other more ended is =
      sym (ap (λ (m : Bool). verdict_at asked m p (length p)) ended ∙ verdict_whole false is ∙ same (nat_lt (length p) asked.bytes) (Verdict.None (length p)))
    where
      same : (t : Bool) (v : Verdict) → (if t then v else v) ≡ v
      same true v = refl
      same false v = refl
