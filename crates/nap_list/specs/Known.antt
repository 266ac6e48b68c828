use Rattle.std.specs.Prelude.{Bool, List, [], filter, if◌then◌else◌, nat_eq, not, take, ℕ, ◌%◌, ◌/◌, ◌==◌, ◌∷◌}
use Rattle.nap_list.specs.{Names.Components, Names.eq_of_both, Names.list_any, Names.on, declared.known.MapColour.MapColour}

-- The known colours of the colour map, the last set first.

-- whether two colours are equal
abbrev pub same_parts : Components → Components → Bool
same_parts = eq_of_both (on (λ c. c.g) nat_eq) (eq_of_both (on (λ c. c.r) nat_eq) (on (λ c. c.b) nat_eq))

-- whether two colours are equal and at the same address
abbrev pub same_colour_at : MapColour → MapColour → Bool
same_colour_at = eq_of_both (on (λ c. c.addr) nat_eq) (on (λ c. c.grb) same_parts)

-- whether this colour is known at this address
abbrev pub is_known : ℕ → Components → List MapColour → Bool
is_known a grb known = list_any (λ c. same_colour_at c (record { addr = a; grb = grb })) known

-- the known colours at other addresses
abbrev pub without_address : ℕ → List MapColour → List MapColour
without_address a known = filter (λ c. not (c.addr == a)) known

-- the colour code in the first word of RESET
abbrev pub colour_code : ℕ → ℕ
colour_code first = first / 2 % 4

-- the known colours after RESET: none if it chooses colours
abbrev pub known_after_reset : ℕ → List MapColour → List MapColour
known_after_reset first known = if colour_code first == 0 then known else []

-- the known colours after a colour was set: it comes first, an older one of its address is removed, and at most 15
-- others stay
abbrev pub with_known_colour : ℕ → Components → List MapColour → List MapColour
with_known_colour a grb known = record { addr = a; grb = grb } ∷ take 15 (without_address a known)
