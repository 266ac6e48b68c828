-- What the proofs of this crate name of its specs, of other crates and of std.
pub use Rattle.arrayvec.specs.ArrayVec.{array_vec_len}
pub use Rattle.nap_values.specs.Coarse.{IsInside, coarse_part, coarse_point, coarse_words, is_clear, with_high}
pub use Rattle.nap_values.specs.{Colours.Components, PackedCoordinates.HoldsWords, Spellings.colour_word, Spellings.operand_bytes, Spellings.words_of, TwosComplement.bits_of, TwosComplement.signed_of}
pub use Rattle.nap_values.specs.Coordinates.{Coordinates, Displacement, IsInSquare, point_with}
unfoldable pub use Rattle.nap_values.specs.{Coordinates.displaced_point, Coordinates.displacement_to, Coordinates.point_at, Digits.digits_of, Digits.value_of, Operands.colour_of, Operands.multi_of, Operands.single_of, PackedColours.b_in, PackedColours.g_in, PackedColours.packed_colour, PackedColours.r_in}
pub use Rattle.nap_values.specs.Laws.{AddressesSpellOnce, ColoursSpellOnce, DisplacementsAreUnique, DisplacementsLeadThere, IsOnlySpelling, IsOperandByte, IsWord, MissingWordsAreZero, MovesSpellOnce, PointsAreInside, PointsSpellOnce, ValuesAreInRange}
pub use Rattle.nap_values.specs.Operands.{b_digit, g_digit, operand_words, r_digit, x_digit, y_digit}
unfoldable pub use Rattle.nap_values.specs.PackedCoordinates.{packed_coordinates, words_in, x_in, y_in}
unfoldable pub use Rattle.nap_values.specs.Spellings.{addr_bytes, grb_bytes, move_bytes, point_bytes, words_of_pairs, words_of_triples}
pub use Rattle.std.proofs.Common.{All, Bool, List, None, Some, [], add-mul, add-one, ap, append-nil, append_assoc, ap₂, arith, bit_and, bit_or, cond, div-one, drop, drop-cons, false, get_or, is_some, length, length-append, length-set, map, mod-eq_of_lt, mul-le-mul_left, mul-lt-mul_of_pos_right, mul_assoc, mul_right_comm, nat_eq, nat_lt, negsuc, pos, pow-suc, pow_pos, refl, replicate, rules, set, slice_index, subst, suc, sym, take, true, zero, zero-add, zero-mul, ℕ, ℤ, ◌%◌, ◌&&◌, ◌*◌, ◌++◌, ◌+ℤ◌, ◌+◌, ◌-ℤ◌, ◌-◌, ◌/◌, ◌<ℤ◌, ◌<◌, ◌^◌, ◌∙◌, ◌∷◌, ◌≡◌, ◌≤ℤ◌, ◌≤◌}
pub use Rattle.std.proofs.{Math.ListN.drop_of_length-le, lemmas.Bool.Decides.nat_tests, lemmas.Grind.get_or_default_zero, lemmas.Int.ints, lemmas.List.Folds.map_fixed, lemmas.Simd.map-map}
pub use Rattle.std.proofs.Math.Nat.{mod-lt, mul-div_cancel, mul-le-mul_right, mul-mod_left, mul-zero, one-le-pow, pow-le-pow_right, pow-succ', pow-zero}
pub use Rattle.std.proofs.lemmas.List.{get_or_read, length-map, length-replicate, length-take, length-take-le, map-append, map-set, set_at, take-map, take_all, take_more}
pub use Rattle.std.proofs.lemmas.List.Elements.{All-append, All-cons, All-head, All-map, All-nil, All-replicate, All-tail}
pub use Rattle.std.proofs.lemmas.Nat.{and_block, and_le_r, and_mask, and_shr, div-add-mod', div-mul-add, div_below, le_bytes_8, mod-mul-add, mod_below, mul-add-lt, or_block, or_comm, or_lt, or_mod, pow-add, shl_whole}
pub use Rattle.std.proofs.lemmas.Nat.Bits.{bit_at-zero, bit_at_and, bit_at_or, same_from_bits}
pub use Rattle.std.specs.Int.{bit_at, byte_at, bytes_high_first, from_be_bytes, from_le_bytes, swap_bytes, to_be_bytes, to_le_bytes, w32, w64}
pub use Rattle.std.specs.Int.Bits.{and_zero_r, or_zero_r}
