use Rattle.nap_list.proofs.{Bool, Components, List, MapColour, [], ap, append-nil, arith, cond, drop, drop-drop, drop-set-lt, drop_more, false, filter, filter_more, get_or, is_known, known_after_reset, length, length-set, length-take-le, map, refl, set, suc, sym, take, take_all, take_at, take_more_set, true, with_known_colour, ℕ, ◌++◌, ◌+◌, ◌<◌, ◌∙◌, ◌∷◌, ◌≡◌, ◌≤◌}

-- Known colours.

-- A loop that puts an item first and drops what doesn't pass, in place: what was there moves up by one.

-- of the first i items of xs, those that pass stand after the first one: k of these items are in ys, the last is apart
pub record ShiftsInPlace {X : Type 0} (p : X → Bool) (first : X) (xs ys : List X) (next : X) (k i : ℕ) : Type 0 where
  pub front : take k ys ++ next ∷ [] ≡ first ∷ filter p (take i xs)
  pub rest : drop i ys ≡ drop i xs
  pub behind : k ≤ i
  pub within : i ≤ length xs
  pub long : length ys ≡ length xs

module _ {X : Type 0} {p : X → Bool} {first : X} {xs ys : List X} {next : X} {k i : ℕ} (h : ShiftsInPlace p first xs ys next k i) where
  rest_of : drop (i + 1) ys ≡ drop (i + 1) xs
  rest_of = sym (drop-drop 1 i ys) ∙ ap (drop 1) h.rest ∙ drop-drop 1 i xs

  module _ (x : X) (less : i < length ys) (is : x ≡ get_or ys i x) where
    same_item : get_or xs i x ≡ x
    same_item =
        let here : get_or xs i x ∷ drop (i + 1) xs ≡ x ∷ drop (i + 1) ys =
        sym (drop_more xs i x (omega (arith, less, h.long))) ∙ sym h.rest ∙ drop_more ys i x less ∙ ap (λ y. y ∷ drop (i + 1) ys) (sym is) in
        cc

    one_more : (passes : Bool) → p x ≡ passes → filter p (take (i + 1) xs) ≡ filter p (take i xs) ++ cond passes (x ∷ []) []
    one_more passes test = rw (filter_more p xs i x (omega (arith, less, h.long)), same_item, test)

    -- an item that doesn't pass
    pub shift_no : p x ≡ false → ShiftsInPlace p first xs ys next k (i + 1)
    shift_no fails = record {
      front = rw (one_more false fails, append-nil) h.front;
      rest = rest_of;
      behind = omega (arith, h.behind);
      within = omega (arith, less, h.long);
      long = h.long;
    }

    -- an item that passes
    pub shift_yes : p x ≡ true → ShiftsInPlace p first xs (set ys k next) x (k + 1) (i + 1)
    shift_yes passes = record {
      front = rw (take_more_set ys k next (omega (arith, less, h.behind)), h.front, one_more true passes);
      rest = drop-set-lt (i + 1) ys k next (omega (arith, h.behind)) ∙ rest_of;
      behind = omega (arith, h.behind);
      within = omega (arith, less, h.long);
      long = length-set ys k next ∙ h.long;
    }

  -- where the last one has no place
  pub shifted_all : (n : ℕ) → length xs ≤ i → k ≡ suc n → take k ys ≡ first ∷ take n (filter p xs)
  shifted_all n all full =
      sym (take_at (take k ys) (next ∷ []) (suc n) (length-take-le k ys (omega (arith, h.behind, h.long, h.within)) ∙ full))
      ∙ ap (take (suc n)) (h.front ∙ ap (λ l. first ∷ filter p l) (take_all i xs all))

-- Colours of the map, computed by the definitions.

abbrev red : Components
red = record { g = 0; r = 49152; b = 0 }

abbrev blue : Components
blue = record { g = 0; r = 0; b = 49152 }

abbrev pair : ℕ → Components → MapColour
pair addr grb = record { addr = addr; grb = grb }

-- one colour at each of these addresses
abbrev reds : List ℕ → List MapColour
reds addrs = map (λ addr. pair addr red) addrs

another_address_comes_before : with_known_colour 2 red (reds (1 ∷ [])) ≡ reds (2 ∷ 1 ∷ [])
another_address_comes_before = refl

another_colour_takes_the_place : with_known_colour 1 blue (reds (2 ∷ 1 ∷ [])) ≡ pair 1 blue ∷ pair 2 red ∷ []
another_colour_takes_the_place = refl

the_seventeenth_goes : with_known_colour 17 red (reds (16 ∷ 15 ∷ 14 ∷ 13 ∷ 12 ∷ 11 ∷ 10 ∷ 9 ∷ 8 ∷ 7 ∷ 6 ∷ 5 ∷ 4 ∷ 3 ∷ 2 ∷ 1 ∷ [])) ≡
    reds (17 ∷ 16 ∷ 15 ∷ 14 ∷ 13 ∷ 12 ∷ 11 ∷ 10 ∷ 9 ∷ 8 ∷ 7 ∷ 6 ∷ 5 ∷ 4 ∷ 3 ∷ 2 ∷ [])
the_seventeenth_goes = refl

an_older_one_makes_space : with_known_colour 1 blue (reds (16 ∷ 15 ∷ 14 ∷ 13 ∷ 12 ∷ 11 ∷ 10 ∷ 9 ∷ 8 ∷ 7 ∷ 6 ∷ 5 ∷ 4 ∷ 3 ∷ 2 ∷ 1 ∷ [])) ≡
    pair 1 blue ∷ reds (16 ∷ 15 ∷ 14 ∷ 13 ∷ 12 ∷ 11 ∷ 10 ∷ 9 ∷ 8 ∷ 7 ∷ 6 ∷ 5 ∷ 4 ∷ 3 ∷ 2 ∷ [])
an_older_one_makes_space = refl

a_colour_is_known : is_known 1 red (reds (2 ∷ 1 ∷ [])) ≡ true
a_colour_is_known = refl

another_colour_is_not : is_known 1 blue (reds (2 ∷ 1 ∷ [])) ≡ false
another_colour_is_not = refl

a_reset_of_the_lengths_keeps_them : known_after_reset 1 (reds (2 ∷ 1 ∷ [])) ≡ reds (2 ∷ 1 ∷ [])
a_reset_of_the_lengths_keeps_them = refl

a_reset_of_colours_leaves_none : known_after_reset 2 (reds (2 ∷ 1 ∷ [])) ≡ []
a_reset_of_colours_leaves_none = refl
