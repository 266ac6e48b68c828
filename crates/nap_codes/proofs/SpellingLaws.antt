-- Fronts and spellings agree, and the parameters of codes are in range.
use Rattle.nap_codes.proofs.{Argument, BadArgument, BadEscape, Bool, Code, CodeFault, CodeSet, CodeSets, Control, Designation, Escape, Front, G0, G1, IfSome, IsGraphic, Left, List, Mask, More, None, Opcode, Option, Out, PositionRow, Row, ShiftAlone, SingleShift2, SingleShift3, Some, SpacedDesignation, Spells, Whole, [], after_control0, ap, append-nil, append_assoc, argument_front, argument_of, arith, bad_byte, column_front, complete, cond, control0_front, control0_rows, control1_front, control1_rows, control_of, designated_front, designation, designation_front, eqb, eqb-true, escape_front, false, final_front, front, get_or, gl_front, inl, inr, is_graphic, last_byte, le-leb, leb, left_out_opcode, length, length-append, length-take-le, lt-ltb, ltb, mask_rows, more_front, nat_tests, ne_eqb, non_pdi_code, number_rows, one_byte_later, opcode_front, opcode_rows, option_map, pdi_front, position_front, refl, refused, row_of, sequence_front, set_at, set_rows, shifted_front, single_shift_front, subst, suc, sym, take, take-append_seam, take_all, true, unfinished, with_argument, with_set, ℕ, ◌&&◌, ◌++◌, ◌<◌, ◌∙◌, ◌∷◌, ◌≡◌, ◌≢◌, ◌≤◌, ◌⊎◌}
use Rattle.nap_codes.specs.Laws as laws
use Rattle.nap_codes.specs.SpellingLaws.{CodeIsSpelled, IsBadByte, RefusedIsSpelled, UnfinishedIsPrefix}
use Rattle.nap_codes.proofs.TableLemmas.{IsIntermediate, IsLongControl, control0_missing, control_of-argument_of, escape, graphic_range, graphic_test, intermediate_range, is_shift, long_control, no_control1, no_opcode, no_plain_code, no_shift_after, no_space, opcode_missing, opcode_range, option_pair-rows, position, row_found, row_missing, shift2, shift3, shift_in_row, shift_out_row, shifts_alone, space}
use Rattle.nap_codes.proofs.FrontLemmas.{code_length, earlier, front-Steady, front_from_taken, front_of_half, gl_begins, last, pdi_begins, refused_index, refused_stays, refused_taken, size, unfinished_before}
use Rattle.nap_codes.specs.Spelling as spelling
use spelling.{IsProperPrefix, IsSpelling, SpellsRefused, accepted, bad_byte_fault, escape_fault, escaped_fault, left_out_control0, place_fault, refusal}

-- The front of a list agrees with the spellings.

count_range : (byte : ℕ) → leb 0x40 byte && ltb byte 0x80 ≡ true → (0x40 ≤ byte) × (byte < 0x80)
count_range byte e = grind (arith, nat_tests)

intermediate_test : (byte : ℕ) → leb 0x28 byte && leb byte 0x2F ≡ true → IsIntermediate byte
intermediate_test byte e = grind (arith, nat_tests)

eighth_bit : (byte : ℕ) → 0x20 ≤ byte → is_graphic byte ≡ false → leb 0x80 byte ≡ true
eighth_bit byte least e = grind (arith, nat_tests)

-- Each byte from 28 to 2F names a register.
has_number : (intermediate : ℕ) → IsIntermediate intermediate → (number : ℕ) × (row_of number_rows intermediate ≡ Some number)
unfolding row_of number_rows
has_number intermediate range = at (row_of number_rows intermediate) refl
  where
    at : (found : Option ℕ) → row_of number_rows intermediate ≡ found → (number : ℕ) × (found ≡ Some number)
    at (Some number) e = (number, refl)
    at None e = absurd (omega (arith, row_missing number_rows 0x28 8 intermediate (assumption) e range.0, range.1))

no_control_place : (intermediate : ℕ) (bytes : List ℕ) → intermediate ≤ 0x2F → place_fault (0x1B ∷ intermediate ∷ bytes) ≡ BadEscape
unfolding place_fault escaped_fault escape_fault
no_control_place intermediate bytes to = rw (no_control1 intermediate (omega arith)) refl

primary_row : row_of set_rows 0x42 ≡ Some CodeSet.Primary
unfolding row_of set_rows
primary_row = refl

bell_row : row_of control0_rows 0x07 ≡ Some (Whole Code.Bell)
unfolding row_of control0_rows
bell_row = refl

no_locking_row : (row_of control1_rows 0x6E ≡ None) × (row_of control1_rows 0x6F ≡ None)
unfolding row_of control1_rows
no_locking_row = (refl, refl)

module _ (sets : CodeSets) where
  -- The front of the bytes after those read agrees with the spellings.
  data Answers (read xs : List ℕ) : Front → Type 0 where
    unfinished_at : (byte : ℕ) (more : List ℕ) → IsSpelling sets (read ++ (xs ++ byte ∷ more)) → Answers read xs unfinished
    complete_at : {code : Code} {n : ℕ} {after : CodeSets} → Spells sets (read ++ take n xs) code after → Answers read xs (complete code n after)
    refused_at : {fault : CodeFault} {i : ℕ} → SpellsRefused sets (read ++ take (suc i) xs) fault → Answers read xs (refused fault i)
    stray_at : {fault : CodeFault} {i : ℕ} → fault ≡ bad_byte_fault (read ++ take i xs) (get_or xs i 0) → Answers read xs (refused fault i)

  Answers-cond : {read xs : List ℕ} (b : Bool) {x y : Front} → (b ≡ true → Answers read xs x) → (b ≡ false → Answers read xs y) →
      Answers read xs (cond b x y)
  Answers-cond true f g = f refl
  Answers-cond false f g = g refl

  -- agreement, if one more byte was read
  one_byte_later-Answers : {read xs : List ℕ} {x : ℕ} {r : Front} → Answers (read ++ x ∷ []) xs r → Answers read (x ∷ xs) (one_byte_later r)
  unfolding one_byte_later
  one_byte_later-Answers {read} {xs} {x} (unfinished_at byte more s) =
      unfinished_at byte more (subst (IsSpelling sets) (append_assoc read (x ∷ []) (xs ++ byte ∷ more)) s)
  one_byte_later-Answers {read} {xs} {x} (complete_at {code} {n} {after} s) =
      complete_at (subst (λ bytes. Spells sets bytes code after) (append_assoc read (x ∷ []) (take n xs)) s)
  one_byte_later-Answers {read} {xs} {x} (refused_at {fault} {i} s) =
      refused_at (subst (λ bytes. SpellsRefused sets bytes fault) (append_assoc read (x ∷ []) (take (suc i) xs)) s)
  one_byte_later-Answers {read} {xs} {x} (stray_at {fault} {i} e) =
      stray_at (e ∙ ap (λ bytes. bad_byte_fault bytes (get_or xs i 0)) (append_assoc read (x ∷ []) (take i xs)))

  -- agreement at a byte that continues no spelling
  bad_byte-Answers : {read bytes : List ℕ} {fault : CodeFault} {byte : ℕ} → place_fault read ≡ fault → Answers read (byte ∷ bytes) (bad_byte fault byte)
  unfolding bad_byte bad_byte_fault
  bad_byte-Answers {read} e = stray_at (rw (append-nil read, e) refl)

  -- agreement at the last byte of a spelling that passes a test
  passed : {read bytes : List ℕ} {fault : CodeFault} {byte : ℕ} {code : Code} (b : Bool) →
      place_fault read ≡ fault → (b ≡ true → Spells sets (read ++ byte ∷ []) code sets) →
      Answers read (byte ∷ bytes) (last_byte sets fault byte (cond b (Some code) None))
  unfolding last_byte
  passed true e spells = complete_at (spells refl)
  passed false e spells = bad_byte-Answers e

  -- agreement after SS2 or SS3
  module _ (opening : ℕ) (set : CodeSet)
      (spells : (byte : ℕ) (code : Code) → IsGraphic byte → non_pdi_code set byte ≡ Some code → Spells sets (opening ∷ byte ∷ []) code sets)
      (refuses : (byte : ℕ) → IsGraphic byte → set ≡ CodeSet.Pdi → SpellsRefused sets (opening ∷ byte ∷ []) CodeFault.ShiftedCode)
      (place : place_fault (opening ∷ []) ≡ ShiftAlone) where
    some_shifted : {byte : ℕ} (found : Option Code) → IsGraphic byte → non_pdi_code set byte ≡ found → IsSpelling sets (opening ∷ byte ∷ [])
    some_shifted (Some code) range e = accepted (spells _ code range e)
    some_shifted None range e = refusal (refuses _ range (no_plain_code _ e))

    shifted_found : {byte : ℕ} {bytes : List ℕ} (found : Option Code) → IsGraphic byte → non_pdi_code set byte ≡ found →
        Answers (opening ∷ []) (byte ∷ bytes) (shifted_front sets found)
    unfolding shifted_front
    shifted_found (Some code) range e = complete_at (spells _ code range e)
    shifted_found None range e = refused_at (refuses _ range (no_plain_code _ e))

    single_shift-Answers : (bytes : List ℕ) → Answers (opening ∷ []) bytes (single_shift_front sets set bytes)
    unfolding single_shift_front
    single_shift-Answers [] = unfinished_at 0x20 [] (some_shifted _ space refl)
    single_shift-Answers (byte ∷ bytes) =
        Answers-cond (is_graphic byte) (λ e. shifted_found _ (graphic_range byte e) refl) (λ _. bad_byte-Answers place)

  -- agreement at the position of APS
  column-Answers : {row : ℕ} (bytes : List ℕ) → IsGraphic row → Answers (0x1C ∷ row ∷ []) bytes (column_front sets row bytes)
  unfolding column_front place_fault
  column-Answers [] range = unfinished_at 0x20 [] (accepted (spelling.position range space))
  column-Answers (byte ∷ bytes) range = passed (is_graphic byte) refl (λ e. spelling.position range (graphic_range byte e))

  position-Answers : (bytes : List ℕ) → Answers (0x1C ∷ []) bytes (position_front sets bytes)
  unfolding position_front place_fault
  position-Answers [] = unfinished_at 0x20 (0x20 ∷ []) (accepted (spelling.position space space))
  position-Answers (byte ∷ bytes) =
      Answers-cond (is_graphic byte) (λ e. one_byte_later-Answers (column-Answers bytes (graphic_range byte e))) (λ _. bad_byte-Answers refl)

  -- agreement at the argument of a control
  mask_found : {byte : ℕ} {bytes : List ℕ} (found : Option Mask) → row_of mask_rows byte ≡ found →
      Answers (0x1B ∷ 0x44 ∷ []) (byte ∷ bytes) (last_byte sets BadArgument byte (option_map Code.DefMask found))
  unfolding last_byte place_fault escaped_fault escape_fault row_of control1_rows
  mask_found (Some mask) e = complete_at (spelling.def_texture e)
  mask_found None e = bad_byte-Answers refl

  argument-Answers : (argument : Argument) (bytes : List ℕ) → Answers (0x1B ∷ control_of argument ∷ []) bytes (argument_front sets argument bytes)
  unfolding argument_front with_argument place_fault escaped_fault escape_fault row_of control1_rows mask_rows
  argument-Answers Argument.Macro [] = unfinished_at 0x20 [] (accepted (spelling.def_macro space))
  argument-Answers Argument.Macro (byte ∷ bytes) = passed (is_graphic byte) refl (λ e. spelling.def_macro (graphic_range byte e))
  argument-Answers Argument.ShownMacro [] = unfinished_at 0x20 [] (accepted (spelling.defp_macro space))
  argument-Answers Argument.ShownMacro (byte ∷ bytes) = passed (is_graphic byte) refl (λ e. spelling.defp_macro (graphic_range byte e))
  argument-Answers Argument.Glyph [] = unfinished_at 0x20 [] (accepted (spelling.def_drcs space))
  argument-Answers Argument.Glyph (byte ∷ bytes) = passed (is_graphic byte) refl (λ e. spelling.def_drcs (graphic_range byte e))
  argument-Answers Argument.Mask [] = unfinished_at 0x41 [] (accepted (spelling.def_texture refl))
  argument-Answers Argument.Mask (byte ∷ bytes) = mask_found _ refl
  argument-Answers Argument.Count [] = unfinished_at 0x40 [] (accepted (spelling.repeat (omega arith) (omega arith)))
  argument-Answers Argument.Count (byte ∷ bytes) =
      passed (leb 0x40 byte && ltb byte 0x80) refl (λ e. let range = count_range byte e in spelling.repeat range.0 range.1)

  designated_found : {read bytes : List ℕ} (intermediate byte : ℕ) (found : Option (ℕ × CodeSet)) → place_fault read ≡ BadEscape →
      ((number : ℕ) (set : CodeSet) → row_of number_rows intermediate ≡ Some number → row_of set_rows byte ≡ Some set →
      Spells sets (read ++ byte ∷ []) (Code.Designated number set) (with_set sets number set)) →
      designation intermediate byte ≡ found → Answers read (byte ∷ bytes) (designated_front sets byte found)
  unfolding designated_front designation
  designated_found intermediate byte (Some named) place spells e = let rows = option_pair-rows _ _ named e in complete_at (spells _ _ rows.0 rows.1)
  designated_found intermediate byte None place spells e = bad_byte-Answers place

  final-Answers : (intermediate : ℕ) (bytes : List ℕ) → IsIntermediate intermediate →
      Answers (0x1B ∷ intermediate ∷ 0x20 ∷ []) bytes (final_front sets intermediate bytes)
  unfolding final_front
  final-Answers intermediate [] range = unfinished_at 0x42 [] (accepted (spelling.spaced_designation (has_number intermediate range).1 primary_row))
  final-Answers intermediate (byte ∷ bytes) range =
      designated_found intermediate byte _ (no_control_place intermediate _ range.1) (λ _ _. spelling.spaced_designation) refl

  designation-Answers : (intermediate : ℕ) (bytes : List ℕ) → IsIntermediate intermediate →
      Answers (0x1B ∷ intermediate ∷ []) bytes (designation_front sets intermediate bytes)
  unfolding designation_front final_front
  designation-Answers intermediate [] range = unfinished_at 0x42 [] (accepted (spelling.designation (has_number intermediate range).1 primary_row))
  designation-Answers intermediate (byte ∷ bytes) range =
      Answers-cond (eqb byte 0x20) (λ e. one_byte_later-Answers (rw (eqb-true byte 0x20 e) (final-Answers intermediate bytes range)))
      (λ _. designated_found intermediate byte _ (no_control_place intermediate _ range.1) (λ _ _. spelling.designation) refl)

  -- agreement after ESC
  sequence-Answers : (byte : ℕ) (bytes : List ℕ) → Answers (0x1B ∷ []) (byte ∷ bytes) (sequence_front sets byte bytes)
  unfolding sequence_front place_fault escaped_fault
  sequence-Answers byte bytes =
      Answers-cond (eqb byte 0x6E) (λ e. complete_at (rw (eqb-true byte 0x6E e) spelling.locking_shift2)) (λ _.
      Answers-cond (eqb byte 0x6F) (λ e. complete_at (rw (eqb-true byte 0x6F e) spelling.locking_shift3)) (λ _.
      Answers-cond (leb 0x28 byte && leb byte 0x2F) (λ e. one_byte_later-Answers (designation-Answers byte bytes (intermediate_test byte e)))
      (λ _. bad_byte-Answers refl)))

  control1-Answers : (byte : ℕ) (bytes : List ℕ) (found : Option Row) → row_of control1_rows byte ≡ found →
      Answers (0x1B ∷ []) (byte ∷ bytes) (control1_front sets byte bytes found)
  unfolding control1_front
  control1-Answers byte bytes (Some (Whole code)) e = complete_at (spelling.control1 e)
  control1-Answers byte bytes (Some (Out name)) e = refused_at (spelling.left_out_control1 e)
  control1-Answers byte bytes (Some More) e =
      one_byte_later-Answers
      (subst (λ k. Answers (0x1B ∷ k ∷ []) bytes (argument_front sets (argument_of byte) bytes)) (control_of-argument_of byte e) (argument-Answers _ bytes))
  control1-Answers byte bytes None e = sequence-Answers byte bytes

  escape-Answers : (bytes : List ℕ) → Answers (0x1B ∷ []) bytes (escape_front sets bytes)
  unfolding escape_front row_of control1_rows
  escape-Answers [] = unfinished_at 0x45 [] (accepted (spelling.control1 refl))
  escape-Answers (byte ∷ bytes) = control1-Answers byte bytes _ refl

  -- agreement after a control of the C0 set that has further bytes
  more-Answers : {byte : ℕ} (bytes : List ℕ) → IsLongControl byte → Answers (byte ∷ []) bytes (more_front sets byte bytes)
  unfolding more_front place_fault
  more-Answers bytes shift2 = single_shift-Answers 0x19 sets.g2 (λ _ _. spelling.single_shift2) (λ _. spelling.shifted2) refl bytes
  more-Answers bytes escape = escape-Answers bytes
  more-Answers bytes position = position-Answers bytes
  more-Answers bytes shift3 = single_shift-Answers 0x1D sets.g3 (λ _ _. spelling.single_shift3) (λ _. spelling.shifted3) refl bytes

  -- agreement at a code of the set in GL
  left_out_found : {byte : ℕ} {bytes : List ℕ} {op : Opcode} (found : Option Left) → set_at sets sets.gl ≡ CodeSet.Pdi →
      row_of opcode_rows byte ≡ Some op → left_out_opcode op ≡ found → Answers [] (byte ∷ bytes) (opcode_front sets op found)
  unfolding opcode_front
  left_out_found None pdi row e = complete_at (spelling.opcode pdi row e)
  left_out_found (Some name) pdi row e = refused_at (spelling.left_out_of_pdi pdi row e)

  pdi_found : {byte : ℕ} {bytes : List ℕ} (found : Option Opcode) → set_at sets sets.gl ≡ CodeSet.Pdi → IsGraphic byte →
      row_of opcode_rows byte ≡ found → Answers [] (byte ∷ bytes) (pdi_front sets byte found)
  unfolding pdi_front
  pdi_found (Some op) pdi range e = left_out_found _ pdi e refl
  pdi_found None pdi range e = complete_at (spelling.operand pdi (opcode_missing _ e range.0) range.1)

  gl_found : {byte : ℕ} {bytes : List ℕ} (found : Option Code) → IsGraphic byte → non_pdi_code (set_at sets sets.gl) byte ≡ found →
      Answers [] (byte ∷ bytes) (gl_front sets byte found)
  unfolding gl_front
  gl_found (Some code) range e = complete_at (spelling.in_gl range e)
  gl_found None range e = pdi_found _ (no_plain_code _ e) range refl

  -- agreement at a control of the C0 set without further bytes
  control0_complete : (byte : ℕ) (code : Code) → row_of control0_rows byte ≡ Some (Whole code) → Spells sets (byte ∷ []) code (after_control0 sets byte)
  unfolding after_control0
  control0_complete byte code row = at (eqb byte 0x0E) (eqb byte 0x0F) refl refl
    where
      at : (a b : Bool) → eqb byte 0x0E ≡ a → eqb byte 0x0F ≡ b →
          Spells sets (byte ∷ []) code (cond a (record sets { gl = G1 }) (cond b (record sets { gl = G0 }) sets))
      at true b e f = let is = eqb-true byte 0x0E e in rw (is, is_shift shift_out_row is row) spelling.shift_out
      at false true e f = let is = eqb-true byte 0x0F f in rw (is, is_shift shift_in_row is row) spelling.shift_in
      at false false e f = spelling.control0 row (λ is. let shifts = shifts_alone byte (row ∙ ap (λ c. Some (Whole c)) is) in cc)

  control0-Answers : (byte : ℕ) (bytes : List ℕ) (found : Option Row) → row_of control0_rows byte ≡ found →
      Answers [] (byte ∷ bytes) (control0_front sets byte bytes found)
  unfolding control0_front bad_byte_fault
  control0-Answers byte bytes (Some (Whole code)) e = complete_at (control0_complete byte code e)
  control0-Answers byte bytes (Some (Out name)) e = refused_at (left_out_control0 e)
  control0-Answers byte bytes (Some More) e = one_byte_later-Answers (more-Answers bytes (long_control byte e))
  control0-Answers byte bytes None e =
      Answers-cond (is_graphic byte) (λ g. gl_found _ (graphic_range byte g) refl)
      (λ g. stray_at (rw (eighth_bit byte (control0_missing byte e) g) refl))

  -- The front of a list agrees with the spellings.
  front-Answers : (xs : List ℕ) → Answers [] xs (front sets xs)
  unfolding front
  front-Answers [] = unfinished_at 0x07 [] (accepted (spelling.control0 bell_row (λ e. cc)))
  front-Answers (byte ∷ bytes) = control0-Answers byte bytes _ refl

  Answers-complete : {xs : List ℕ} {code : Code} {n : ℕ} {after : CodeSets} → Answers [] xs (complete code n after) → Spells sets (take n xs) code after
  Answers-complete (complete_at s) = s

  Answers-unfinished : {xs : List ℕ} → Answers [] xs unfinished → IsProperPrefix sets xs
  Answers-unfinished (unfinished_at byte more s) = (byte, more, s)

  Answers-refused : {xs : List ℕ} {fault : CodeFault} {i : ℕ} → Answers [] xs (refused fault i) →
      SpellsRefused sets (take (suc i) xs) fault ⊎ (fault ≡ bad_byte_fault (take i xs) (get_or xs i 0))
  Answers-refused (refused_at s) = inl s
  Answers-refused (stray_at e) = inr e

  -- The front of the bytes of a spelling is its code or its fault.
  spelled : {xs : List ℕ} {code : Code} {after : CodeSets} → Spells sets xs code after → front sets xs ≡ complete code (length xs) after
  unfolding front control0_front after_control0 one_byte_later escape_front control1_front sequence_front argument_front with_argument last_byte column_front designation_front final_front designation designated_front single_shift_front shifted_front gl_front pdi_front opcode_front
  spelled (spelling.control0 {byte} {code} row differs) = rw row (ap (complete code 1) (no_shift_after sets byte code row differs))
  spelled spelling.shift_out = rw shift_out_row refl
  spelled spelling.shift_in = rw shift_in_row refl
  spelled spelling.locking_shift2 = rw (front_of_half sets Escape (0x6E ∷ []) tt, no_locking_row.0) refl
  spelled spelling.locking_shift3 = rw (front_of_half sets Escape (0x6F ∷ []) tt, no_locking_row.1) refl
  spelled (spelling.position {row} {column} r c) = rw (front_of_half sets (PositionRow row) (column ∷ []) r, graphic_test column c) refl
  spelled (spelling.control1 {byte} row) = rw (front_of_half sets Escape (byte ∷ []) tt, row) refl
  spelled (spelling.def_macro {name} range) = rw (front_of_half sets (Control Argument.Macro) (name ∷ []) tt, graphic_test name range) refl
  spelled (spelling.defp_macro {name} range) = rw (front_of_half sets (Control Argument.ShownMacro) (name ∷ []) tt, graphic_test name range) refl
  spelled (spelling.def_drcs {byte} range) = rw (front_of_half sets (Control Argument.Glyph) (byte ∷ []) tt, graphic_test byte range) refl
  spelled (spelling.def_texture {byte} row) = rw (front_of_half sets (Control Argument.Mask) (byte ∷ []) tt, row) refl
  spelled (spelling.repeat {byte} least below) =
      rw (front_of_half sets (Control Argument.Count) (byte ∷ []) tt, le-leb 0x40 byte least, lt-ltb byte 0x80 below) refl
  spelled (spelling.designation {intermediate} {final} {number} {set} n s) =
      rw (front_of_half sets (Designation intermediate) (final ∷ []) (intermediate_range n), ne_eqb final 0x20 (no_space s), n, s) refl
  spelled (spelling.spaced_designation {intermediate} {final} n s) =
      rw (front_of_half sets (SpacedDesignation intermediate) (final ∷ []) (intermediate_range n), n, s) refl
  spelled (spelling.in_gl {byte} range e) = rw (gl_begins sets byte range, e) refl
  spelled (spelling.opcode {byte} pdi row e) = rw (pdi_begins sets byte (opcode_range row) pdi, row, e) refl
  spelled (spelling.operand {byte} pdi least below) = rw (pdi_begins sets byte (omega arith, below) pdi, no_opcode byte least) refl
  spelled (spelling.single_shift2 {byte} range e) = rw (front_of_half sets SingleShift2 (byte ∷ []) tt, graphic_test byte range, e) refl
  spelled (spelling.single_shift3 {byte} range e) = rw (front_of_half sets SingleShift3 (byte ∷ []) tt, graphic_test byte range, e) refl

  -- A refused spelling is refused at its last byte.
  spelled_refused : {xs : List ℕ} {fault : CodeFault} → SpellsRefused sets xs fault → (i : ℕ) × (length xs ≡ suc i) × (front sets xs ≡ refused fault i)
  unfolding front control0_front one_byte_later escape_front control1_front single_shift_front shifted_front non_pdi_code pdi_front opcode_front
  spelled_refused (left_out_control0 row) = (0, refl, rw row refl)
  spelled_refused (spelling.left_out_control1 {byte} row) = (1, refl, rw (front_of_half sets Escape (byte ∷ []) tt, row) refl)
  spelled_refused (spelling.left_out_of_pdi {byte} pdi row e) = (0, refl, rw (pdi_begins sets byte (opcode_range row) pdi, row, e) refl)
  spelled_refused (spelling.shifted2 {byte} range pdi) = (1, refl, rw (front_of_half sets SingleShift2 (byte ∷ []) tt, graphic_test byte range, pdi) refl)
  spelled_refused (spelling.shifted3 {byte} range pdi) = (1, refl, rw (front_of_half sets SingleShift3 (byte ∷ []) tt, graphic_test byte range, pdi) refl)

  -- Fronts, by the spellings.
  code_is_spelled_to : (xs : List ℕ) {code : Code} {n : ℕ} {after : CodeSets} → front sets xs ≡ complete code n after → Spells sets (take n xs) code after
  code_is_spelled_to xs e = Answers-complete (rw e at (front-Answers xs))

  -- the number of bytes before the last ones of a spelling
  spelling_size : {xs : List ℕ} → IsSpelling sets xs → size (front sets xs) ≡ length xs
  spelling_size (accepted s) = ap size (spelled s)
  spelling_size (refusal s) = let r = spelled_refused s in ap size r.2 ∙ sym r.1

  unfinished_in : (xs : List ℕ) (byte : ℕ) (more : List ℕ) → IsSpelling sets (xs ++ byte ∷ more) → front sets xs ≡ unfinished
  unfinished_in xs byte more s =
      subst (λ ys. front sets ys ≡ unfinished) (take-append_seam xs (byte ∷ more))
      (earlier (front-Steady sets) _ (length xs) (omega (arith, spelling_size s, length-append xs (byte ∷ more))))

pub code_is_spelled : CodeIsSpelled
code_is_spelled sets xs code n after = (
  λ e. ((code_length sets xs code n after e).1, code_is_spelled_to sets xs e),
  λ s. front_from_taken sets n xs (spelled sets s.1 ∙ ap (λ m. complete code m after) (length-take-le n xs s.0)) (λ e. cc),
)

pub unfinished_is_prefix : UnfinishedIsPrefix
unfinished_is_prefix sets xs = (λ e. Answers-unfinished sets (rw e at (front-Answers sets xs)), λ s. unfinished_in sets xs s.0 s.1 s.2)

-- whether a fault is that of a byte that continues no spelling
is_stray : CodeFault → Bool
is_stray (CodeFault.LeftOut name) = false
is_stray CodeFault.ShiftedCode = false
is_stray _ = true

bad_byte_fault-is_stray : (before : List ℕ) (byte : ℕ) → is_stray (bad_byte_fault before byte) ≡ true
unfolding bad_byte_fault place_fault escaped_fault escape_fault is_stray
bad_byte_fault-is_stray before byte = grind (arith, nat_tests)

SpellsRefused-no_stray : {sets : CodeSets} {xs : List ℕ} {fault : CodeFault} → SpellsRefused sets xs fault → is_stray fault ≡ false
unfolding is_stray
SpellsRefused-no_stray (left_out_control0 row) = refl
SpellsRefused-no_stray _ = refl

module _ (sets : CodeSets) (xs : List ℕ) (fault : CodeFault) (i : ℕ) where
  -- the bytes up to the refused one
  abbrev upto : List ℕ
  upto = take (suc i) xs

  -- If a byte is refused as one that continues no spelling, none continues with it.
  no_spelling_continues : front sets xs ≡ refused fault i → is_stray fault ≡ true → (more : List ℕ) → IsSpelling sets (upto ++ more) → ⊥
  no_spelling_continues e stray more s = at s (refused_stays sets upto more fault i (refused_taken sets xs fault i e))
    where
      at : {bytes : List ℕ} → IsSpelling sets bytes → front sets bytes ≡ refused fault i → ⊥
      at (accepted s) e = let is = spelled sets s in cc
      at (refusal {fault = fault'} s) e =
          let is = spelled_refused sets s in
          let none = SpellsRefused-no_stray s in
          let same : fault' ≡ fault = cc in
          cc

  refused_is_spelled_to : front sets xs ≡ refused fault i → SpellsRefused sets upto fault ⊎ (fault ≡ bad_byte_fault (take i xs) (get_or xs i 0)) →
      SpellsRefused sets upto fault ⊎ IsBadByte sets xs i fault
  refused_is_spelled_to e (inl s) = inl s
  refused_is_spelled_to e (inr is) =
      inr (record {
        begins = (unfinished_is_prefix sets (take i xs)).0 (unfinished_before sets xs fault i i e (omega arith));
        continues_none = λ s. no_spelling_continues e (ap is_stray is ∙ bad_byte_fault-is_stray (take i xs) (get_or xs i 0)) s.0 s.1;
        fault_is = is;
      })

  module _ (within : i < length xs) where
    long : length upto ≡ suc i
    long = length-take-le (suc i) xs (omega arith)

    spelled_to_last : SpellsRefused sets upto fault → front sets xs ≡ refused fault i
    spelled_to_last s =
        let r = spelled_refused sets s in
        let same : r.0 ≡ i = omega (arith, long, r.1) in
        front_from_taken sets (suc i) xs (r.2 ∙ ap (refused fault) same) (λ e. cc)

    -- the front of the bytes up to one that continues no spelling
    module _ (stray : IsBadByte sets xs i fault) where
      no_spelling : IsSpelling sets upto → ⊥
      no_spelling s = stray.continues_none ([], subst (IsSpelling sets) (sym (append-nil upto)) s)

      last_of : {r : Front} → front sets upto ≡ r → r ≢ unfinished → i < size r
      last_of e some = rw e at (last (front-Steady sets) xs i ((unfinished_is_prefix sets (take i xs)).1 stray.begins) (rw e some))

      at_refused : (f : CodeFault) → SpellsRefused sets upto f ⊎ (f ≡ bad_byte_fault (take i xs) (get_or xs i 0)) → f ≡ fault
      at_refused f (inl s) = absurd (no_spelling (refusal s))
      at_refused f (inr is) = is ∙ sym stray.fault_is

      stray_refused : (r : Front) → front sets upto ≡ r → front sets xs ≡ refused fault i
      stray_refused unfinished e =
          let begins = (unfinished_is_prefix sets upto).0 e in
          absurd (stray.continues_none (begins.0 ∷ begins.1, begins.2))
      stray_refused (complete code n after) e =
          let late : i < n = last_of e (λ none. cc) in
          let all : take n upto ≡ upto = take_all n upto (omega (arith, late, long)) in
          absurd (no_spelling (subst (IsSpelling sets) all (accepted (code_is_spelled_to sets upto e))))
      stray_refused (refused f j) e =
          let late : i < suc j = last_of e (λ none. cc) in
          let same : j ≡ i = omega (arith, late, refused_index sets upto f j e, long) in
          let there : front sets xs ≡ refused f i = front_from_taken sets (suc i) xs (e ∙ ap (refused f) same) (λ none. cc) in
          there ∙ ap (λ g. refused g i) (at_refused f (Answers-refused sets (rw there at (front-Answers sets xs))))

    refused_is_spelled_from : SpellsRefused sets upto fault ⊎ IsBadByte sets xs i fault → front sets xs ≡ refused fault i
    refused_is_spelled_from (inl s) = spelled_to_last s
    refused_is_spelled_from (inr stray) = stray_refused stray _ refl

pub refused_is_spelled : RefusedIsSpelled
refused_is_spelled sets xs fault i = (
  λ e. (refused_index sets xs fault i e, refused_is_spelled_to sets xs fault i e (Answers-refused sets (rw e at (front-Answers sets xs)))),
  λ s. refused_is_spelled_from sets xs fault i s.0 s.1,
)

-- The parameters of a code are in range.

-- whether a code is of the PDI set
abbrev is_pdi : Code → Bool
is_pdi (Code.Op op) = true
is_pdi (Code.Operand word) = true
is_pdi _ = false

-- the range of a code's parameters, for a code that isn't of the PDI set
abbrev IsPlain : Code → Type 0
IsPlain code = laws.IsCodeInRange code × (is_pdi code ≡ false)

-- The codes of the tables of controls have no parameters.
abbrev PlainRow : ℕ → Row → Type 0
PlainRow byte (Whole code) = IsPlain code
PlainRow byte _ = Unit {0}

control0_is_plain : (byte : ℕ) {code : Code} → row_of control0_rows byte ≡ Some (Whole code) → IsPlain code
unfolding control0_rows
control0_is_plain _ e = row_found PlainRow control0_rows (assumption) e

control1_is_plain : (byte : ℕ) {code : Code} → row_of control1_rows byte ≡ Some (Whole code) → IsPlain code
unfolding control1_rows
control1_is_plain _ e = row_found PlainRow control1_rows (assumption) e

number_below : (intermediate : ℕ) {number : ℕ} → row_of number_rows intermediate ≡ Some number → number < 4
unfolding number_rows
number_below _ e = row_found (λ _ n. n < 4) number_rows (omega arith) e

plain_code_is_plain : (set : CodeSet) (byte : ℕ) → IsGraphic byte → IfSome (non_pdi_code set byte) IsPlain
unfolding non_pdi_code
plain_code_is_plain CodeSet.Pdi byte range = tt
plain_code_is_plain _ byte range = (range, refl)

module _ (sets : CodeSets) where
  -- The parameters of a code that is spelled are in range, and a code of the PDI set, which is in GL, has one byte.
  data IsSound (xs : List ℕ) (code : Code) (after : CodeSets) : Type 0 where
    plain : IsPlain code → IsSound xs code after
    pdi : laws.IsCodeInRange code → length xs ≡ 1 → after ≡ sets → set_at sets sets.gl ≡ CodeSet.Pdi → IsSound xs code after

  spelled_is_sound : {xs : List ℕ} {code : Code} {after : CodeSets} → Spells sets xs code after → IsSound xs code after
  spelled_is_sound (spelling.control0 row differs) = plain (control0_is_plain _ row)
  spelled_is_sound (spelling.position row column) = plain ((row, column), refl)
  spelled_is_sound (spelling.control1 row) = plain (control1_is_plain _ row)
  spelled_is_sound (spelling.def_macro range) = plain (range, refl)
  spelled_is_sound (spelling.defp_macro range) = plain (range, refl)
  spelled_is_sound (spelling.def_drcs range) = plain (range, refl)
  spelled_is_sound (spelling.repeat least below) = plain (omega arith, refl)
  spelled_is_sound (spelling.designation n s) = plain (number_below _ n, refl)
  spelled_is_sound (spelling.spaced_designation n s) = plain (number_below _ n, refl)
  spelled_is_sound (spelling.in_gl {byte} range e) = plain (rw e at (plain_code_is_plain (set_at sets sets.gl) byte range))
  spelled_is_sound (spelling.opcode gl row e) = pdi e refl refl gl
  spelled_is_sound (spelling.operand gl least below) = pdi (omega arith) refl refl gl
  spelled_is_sound (spelling.single_shift2 {byte} range e) = plain (rw e at (plain_code_is_plain sets.g2 byte range))
  spelled_is_sound (spelling.single_shift3 {byte} range e) = plain (rw e at (plain_code_is_plain sets.g3 byte range))
  spelled_is_sound _ = plain (tt, refl)

  sound_range : {xs : List ℕ} {code : Code} {after : CodeSets} → IsSound xs code after → laws.IsCodeInRange code
  sound_range (plain is) = is.0
  sound_range (pdi range one same gl) = range

  sound_one : {xs : List ℕ} {code : Code} {after : CodeSets} → IsSound xs code after → is_pdi code ≡ true →
      (length xs ≡ 1) × (after ≡ sets) × (set_at sets sets.gl ≡ CodeSet.Pdi)
  sound_one (plain is) e = let other = is.1 in cc
  sound_one (pdi range one same gl) e = (one, same, gl)

  module _ (xs : List ℕ) (code : Code) (n : ℕ) (after : CodeSets) (e : front sets xs ≡ complete code n after) where
    -- the parameters of a code at the front are in range
    front_is_sound : IsSound (take n xs) code after
    front_is_sound = spelled_is_sound (code_is_spelled_to sets xs e)

    one_byte : is_pdi code ≡ true → (n ≡ 1) × (after ≡ sets) × (set_at sets sets.gl ≡ CodeSet.Pdi)
    one_byte is =
        let one = sound_one front_is_sound is in
        (sym (length-take-le n xs (code_length sets xs code n after e).1) ∙ one.0, one.1, one.2)

pub code_ranges : laws.CodeRanges
code_ranges sets xs code n after e = sound_range sets (front_is_sound sets xs code n after e)

pub one_byte_opcode : laws.OneByteOpcode
one_byte_opcode sets xs op n after e = let one = one_byte sets xs (Code.Op op) n after e refl in (one.0, one.1)

pub one_byte_operand : laws.OneByteOperand
one_byte_operand sets xs word n after e = let one = one_byte sets xs (Code.Operand word) n after e refl in (one.0, one.1)

-- An opcode is read while the PDI set is in GL.
pub opcode_in_gl : (sets : CodeSets) (xs : List ℕ) (op : Opcode) (n : ℕ) (after : CodeSets) → front sets xs ≡ complete (Code.Op op) n after →
    set_at sets sets.gl ≡ CodeSet.Pdi
opcode_in_gl sets xs op n after e = (one_byte sets xs (Code.Op op) n after e refl).2
