use Rattle.std.proofs.Common.{List, [], ap, append_assoc, arith, drop, get_or, inl, inr, length, refl, subst, sym, ℕ, ◌++◌, ◌+◌, ◌<◌, ◌∙◌, ◌∷◌, ◌≡◌, ◌≤◌, nat_lt}
use Rattle.std.proofs.lemmas.Bool.{cases_lt, le-ltb, lt-ltb}
use Rattle.std.proofs.lemmas.List.{append-nil, drop_all, drop_more}
use Rattle.nap_mend.specs.Laws.{Covers}
use Rattle.nap_mend.specs.Mending.{part_list, parts_from}
use Rattle.nap_mend.specs.declared.{mended.Border.Border, mended.Part.Part, mended.PartKind.PartKind}
use Rattle.nap_mend.proofs.SearchLemmas.{if_false, if_true}

-- Parts by their ends.

-- one more part
pub next_part : (done : List Part) (from i : ℕ) (bs : List Border) (b d : Border) → i < length bs → b ≡ get_or bs i d →
    (done ++ part_list b.kind from b.end) ++ parts_from b.end (drop (i + 1) bs) ≡ done ++ parts_from from (drop i bs)
next_part done from i bs b d within is =
    append_assoc done (part_list b.kind from b.end) (parts_from b.end (drop (i + 1) bs))
    ∙ ap (λ (c : Border). done ++ parts_from from (c ∷ drop (i + 1) bs)) is
    ∙ ap (λ (cs : List Border). done ++ parts_from from cs) (sym (drop_more bs i d within))

pub last_part : (done : List Part) (from i : ℕ) (bs : List Border) → length bs ≤ i → done ++ parts_from from (drop i bs) ≡ done
last_part done from i bs none = ap (λ (cs : List Border). done ++ parts_from from cs) (drop_all i bs none) ∙ append-nil done

-- the ends come in order from one index to another
abbrev pub Rises : ℕ → ℕ → List Border → Type 0
Rises from to [] = from ≡ to
Rises from to (b ∷ bs) = (from ≤ b.end) × Rises b.end to bs

-- a part that may be empty before others
covers_part : (kind : PartKind) (from end to : ℕ) (ps : List Part) → from ≤ end → Covers end to ps → Covers from to (part_list kind from end ++ ps)
covers_part kind from end to ps order rest =
    elim (cases_lt from end) [
      | inl some ↦
          subst (λ (qs : List Part). Covers from to (qs ++ ps)) (sym (if_true (nat_lt from end) (record { kind = kind; begin = from; end = end } ∷ []) [] (lt-ltb from end some)))
          (refl, some, rest)
      | inr none ↦
          let same : end ≡ from = omega arith in
          subst (λ (qs : List Part). Covers from to (qs ++ ps)) (sym (if_false (nat_lt from end) (record { kind = kind; begin = from; end = end } ∷ []) [] (le-ltb from end none)))
          (subst (λ (n : ℕ). Covers n to ps) same rest)
    ]

pub parts_cover : (from to : ℕ) (bs : List Border) → Rises from to bs → Covers from to (parts_from from bs)
parts_cover from to [] rises = rises
parts_cover from to (b ∷ bs) rises = covers_part b.kind from b.end to (parts_from b.end bs) rises.0 (parts_cover b.end to bs rises.1)
