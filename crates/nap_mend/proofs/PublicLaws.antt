use Rattle.std.proofs.Common.{Bool, List, None, Option, Some, [], ap, false, if◌then◌else◌, refl, sym, true, ℕ, ◌∙◌, ◌∷◌, ◌≡◌}
use Rattle.nap_find.specs.Rows.{finds_of}
use Rattle.nap_find.specs.declared.find.Find.{Find}
use Rattle.nap_mend.specs.Codes.{content_of, lead_of}
use Rattle.nap_mend.specs.Laws.{HeadersHaveOneFind}
use Rattle.nap_mend.specs.Pages.{asked, content_place, find_place, is_content, is_whole_page, only_of, place_by_find, place_of}
use Rattle.nap_mend.specs.Sets.{bytes_in}
use Rattle.nap_mend.specs.declared.{mended.PartKind.PartKind, page.Place.Place}

-- A page after a header is the only find.

no_header : (codes : Bool) → (if codes then PartKind.Code else PartKind.Fill) ≡ PartKind.Header → ⊥
no_header true is = cc
no_header false is = cc

-- what a place says, if there is one
abbrev said : {A : Type 0} → (Place → A) → A → Option Place → A
said f none None = none
said f none (Some place) = f place

module _ (p : List ℕ) (place : Place) where
  after_header : (b : Bool) (other : Option Place) → (if b then Some (content_place p) else other) ≡ Some place → place.before ≡ PartKind.Header → other ≡ Some place
  after_header true other is before = absurd (no_header (lead_of p).codes (ap (said (λ q. q.before) PartKind.Fill) is ∙ before))
  after_header false other is before = is

  at_find : (find : Find) (b : Bool) → (if b then Some (find_place p (record { begin = find.begin; end = find.end })) else None) ≡ Some place →
      (place.begin ≡ find.begin) × (place.end ≡ find.end)
  at_find find true is = (sym (ap (said (λ q. q.begin) 0) is), sym (ap (said (λ q. q.end) 0) is))
  at_find find false is = cc

  one_find : (finds : List Find) → place_by_find p (only_of finds) ≡ Some place →
      (find : Find) × (finds ≡ find ∷ []) × (place.begin ≡ find.begin) × (place.end ≡ find.end)
  one_find [] is = cc
  one_find (find ∷ []) is =
      let there = at_find find (is_whole_page (bytes_in (record { begin = find.begin; end = find.end }) p)) is in
      (find, refl, there.0, there.1)
  one_find (find ∷ (other ∷ finds)) is = cc

pub headers_have_one_find : HeadersHaveOneFind
unfolding place_of
headers_have_one_find bits p place is before =
    one_find p place (finds_of asked p) (after_header p place (is_content bits (bytes_in (content_of p) p)) (place_by_find p (only_of (finds_of asked p))) is before)
