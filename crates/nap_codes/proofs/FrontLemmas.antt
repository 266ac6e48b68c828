-- The fronts of lists: which bytes they depend on, and how they begin.
use Rattle.nap_codes.proofs.{Argument, Bool, Code, CodeFault, CodeSet, CodeSets, Control, Designation, Front, HalfRead, IsGraphic, IsHalfRead, Left, List, More, None, Opcode, Option, Out, PositionRow, Row, Some, SpacedDesignation, TableLemmas.IsIntermediate, TableLemmas.graphic_test, TableLemmas.no_control0, TableLemmas.no_control1, Whole, [], ap, argument_front, argument_of, arith, bad_byte, column_front, complete, cond, control0_front, control0_rows, control1_front, control1_rows, designated_front, designation, designation_front, drop, eqb, escape_front, false, final_front, front, gl_front, half_read_bytes, is_graphic, last_byte, le-leb, leb, length, length-take, lt_of_not-le, more_front, ne_eqb, non_pdi_code, one_byte_later, opcode_front, opcode_rows, pdi_front, position_front, refl, refused, rest_front, row_of, sequence_front, set_at, shifted_front, single_shift_front, subst, suc, sym, take, take-append-drop, take-take, true, unfinished, with_argument, zero, ℕ, ◌&&◌, ◌++◌, ◌+◌, ◌<◌, ◌∙◌, ◌∷◌, ◌≡◌, ◌≢◌, ◌≤◌}
use Rattle.nap_codes.specs.Laws as laws

-- Functions from lists to fronts that depend only on the bytes of their answer.

-- the number of bytes of an answer: those of the code, or those up to the refused one
abbrev pub size : Front → ℕ
size unfinished = 0
size (complete code n after) = n
size (refused fault i) = suc i

pub record Steady (f : List ℕ → Front) : Type 0 where
  pub stays : (xs ys : List ℕ) → f xs ≢ unfinished → f (xs ++ ys) ≡ f xs
  pub within : (xs : List ℕ) → size (f xs) ≤ length xs
  pub taken : (xs : List ℕ) → f xs ≢ unfinished → f (take (size (f xs)) xs) ≡ f xs

-- what a function of the bytes after a first byte may do: that byte decides, or the bytes after it do
pub data Opens : (List ℕ → Front) → Type 0 where
  ends : {code : Code} {after : CodeSets} → Opens (λ _. complete code 1 after)
  fails : {fault : CodeFault} → Opens (λ _. refused fault 0)
  continues : {f : List ℕ → Front} → Steady f → Opens (λ xs. one_byte_later (f xs))

Opens-cond : (b : Bool) {f g : List ℕ → Front} → Opens f → Opens g → Opens (λ xs. cond b (f xs) (g xs))
Opens-cond true p q = p
Opens-cond false p q = q

-- an answer one byte further has one byte more
further_most : (r : Front) → size (one_byte_later r) ≤ suc (size r)
unfolding one_byte_later
further_most unfinished = omega arith
further_most _ = omega arith

further_size : (r : Front) → r ≢ unfinished → size (one_byte_later r) ≡ suc (size r)
unfolding one_byte_later
further_size unfinished some = absurd (some refl)
further_size _ some = refl

not_further : {r : Front} → one_byte_later r ≢ unfinished → r ≢ unfinished
unfolding one_byte_later
not_further some none = some (ap one_byte_later none)

-- the properties of a function that decides by a first byte or by the bytes after it
opened_stays : {f : List ℕ → Front} → Opens f → (xs ys : List ℕ) → f xs ≢ unfinished → f (xs ++ ys) ≡ f xs
opened_stays (continues steady) xs ys some = ap one_byte_later (steady.stays xs ys (not_further some))
opened_stays _ xs ys some = refl

opened_within : {f : List ℕ → Front} → Opens f → (xs : List ℕ) → size (f xs) ≤ suc (length xs)
opened_within (continues {f} steady) xs = omega (arith, further_most (f xs), steady.within xs)
opened_within _ xs = omega arith

opened_taken : {f : List ℕ → Front} → Opens f → (xs : List ℕ) → f xs ≢ unfinished →
    (m : ℕ) × (size (f xs) ≡ suc m) × (f (take m xs) ≡ f xs)
opened_taken (continues {f} steady) xs some =
    let inner = not_further some in
    (size (f xs), further_size (f xs) inner, ap one_byte_later (steady.taken xs inner))
opened_taken _ _ _ = (0, refl, refl)

module _ (f : List ℕ → Front) (empty : f [] ≡ unfinished) (opens : (x : ℕ) → Opens (λ xs. f (x ∷ xs))) where
  steady_stays : (xs ys : List ℕ) → f xs ≢ unfinished → f (xs ++ ys) ≡ f xs
  steady_stays [] ys some = absurd (some empty)
  steady_stays (x ∷ xs) ys some = opened_stays (opens x) xs ys some

  steady_within : (xs : List ℕ) → size (f xs) ≤ length xs
  steady_within [] = rw empty (omega arith)
  steady_within (x ∷ xs) = opened_within (opens x) xs

  steady_taken : (xs : List ℕ) → f xs ≢ unfinished → f (take (size (f xs)) xs) ≡ f xs
  steady_taken [] some = absurd (some empty)
  steady_taken (x ∷ xs) some =
      let r = opened_taken (opens x) xs some in
      subst (λ k. f (take k (x ∷ xs)) ≡ f (x ∷ xs)) (sym r.1) r.2

  -- A function is steady if it is steady from its first byte on.
  opens-Steady : Steady f
  opens-Steady = record { stays = steady_stays; within = steady_within; taken = steady_taken }

decided : (r : Front) → (r ≢ unfinished → ⊥) → r ≡ unfinished
decided unfinished none = refl
decided _ none = absurd (none (λ e. cc))

module _ {f : List ℕ → Front} (steady : Steady f) where
  -- An answer to a prefix is the answer to the list.
  from_taken : (k : ℕ) (xs : List ℕ) → f (take k xs) ≢ unfinished → f xs ≡ f (take k xs)
  from_taken k xs some =
      subst (λ ys. f ys ≡ f (take k xs)) (take-append-drop k xs) (steady.stays (take k xs) (drop k xs) some)

  -- A prefix that is shorter than the answer has no answer.
  pub earlier : (xs : List ℕ) (k : ℕ) → k < size (f xs) → f (take k xs) ≡ unfinished
  earlier xs k less =
      decided (f (take k xs)) (λ some. omega (arith, less, ap size (from_taken k xs some), steady.within (take k xs), length-take k xs))

  -- If bytes have no answer, fewer have none.
  begins : (xs : List ℕ) (n i : ℕ) → n ≤ i → f (take i xs) ≡ unfinished → f (take n xs) ≡ unfinished
  begins xs n i less none =
      decided (f (take n xs)) (λ some.
      let there = subst (λ ys. f ys ≢ unfinished) (sym (take-take n i xs less)) some in
      there (sym (from_taken n (take i xs) there) ∙ none))

  -- The byte after unanswered bytes is the last of the answer if the bytes with it have an answer.
  pub last : (xs : List ℕ) (i : ℕ) → f (take i xs) ≡ unfinished → f (take (suc i) xs) ≢ unfinished → i < size (f (take (suc i) xs))
  last xs i none some =
      let n = size (f (take (suc i) xs)) in
      lt_of_not-le (λ early.
      some (sym (steady.taken (take (suc i) xs) some) ∙ ap f (take-take n (suc i) xs (omega arith)) ∙ begins xs n i early none))

-- The front of a list depends only on the bytes of its code or refusal.

bad_byte-Opens : (fault : CodeFault) (byte : ℕ) → Opens (λ _. bad_byte fault byte)
unfolding bad_byte
bad_byte-Opens _ _ = fails

module _ (sets : CodeSets) where
  last_byte-Opens : (fault : CodeFault) (byte : ℕ) (found : Option Code) → Opens (λ _. last_byte sets fault byte found)
  unfolding last_byte
  last_byte-Opens _ _ (Some code) = ends
  last_byte-Opens fault byte None = bad_byte-Opens fault byte

  opcode_front-Opens : (op : Opcode) (left : Option Left) → Opens (λ _. opcode_front sets op left)
  unfolding opcode_front
  opcode_front-Opens _ None = ends
  opcode_front-Opens _ (Some name) = fails

  pdi_front-Opens : (byte : ℕ) (found : Option Opcode) → Opens (λ _. pdi_front sets byte found)
  unfolding pdi_front
  pdi_front-Opens _ (Some op) = opcode_front-Opens op _
  pdi_front-Opens _ None = ends

  gl_front-Opens : (byte : ℕ) (found : Option Code) → Opens (λ _. gl_front sets byte found)
  unfolding gl_front
  gl_front-Opens _ (Some code) = ends
  gl_front-Opens byte None = pdi_front-Opens byte _

  shifted_front-Opens : (found : Option Code) → Opens (λ _. shifted_front sets found)
  unfolding shifted_front
  shifted_front-Opens (Some code) = ends
  shifted_front-Opens None = fails

  single_shift_front-Steady : (set : CodeSet) → Steady (single_shift_front sets set)
  unfolding single_shift_front
  single_shift_front-Steady set =
      opens-Steady _ refl (λ byte.
      Opens-cond (is_graphic byte) (shifted_front-Opens (non_pdi_code set byte)) (bad_byte-Opens _ byte))

  column_front-Steady : (row : ℕ) → Steady (column_front sets row)
  unfolding column_front
  column_front-Steady row = opens-Steady _ refl (λ byte. last_byte-Opens _ byte _)

  position_front-Steady : Steady (position_front sets)
  unfolding position_front
  position_front-Steady =
      opens-Steady _ refl (λ byte.
      Opens-cond (is_graphic byte) (continues (column_front-Steady byte)) (bad_byte-Opens _ byte))

  argument_front-Steady : (argument : Argument) → Steady (argument_front sets argument)
  unfolding argument_front
  argument_front-Steady argument = opens-Steady _ refl (λ byte. last_byte-Opens _ byte (with_argument argument byte))

  designated_front-Opens : (byte : ℕ) (found : Option (ℕ × CodeSet)) → Opens (λ _. designated_front sets byte found)
  unfolding designated_front
  designated_front-Opens _ (Some named) = ends
  designated_front-Opens byte None = bad_byte-Opens _ byte

  final_front-Opens : (intermediate byte : ℕ) → Opens (λ bytes. final_front sets intermediate (byte ∷ bytes))
  unfolding final_front
  final_front-Opens intermediate byte = designated_front-Opens byte _

  final_front-Steady : (intermediate : ℕ) → Steady (final_front sets intermediate)
  unfolding final_front
  final_front-Steady intermediate = opens-Steady _ refl (final_front-Opens _)

  designation_front-Steady : (intermediate : ℕ) → Steady (designation_front sets intermediate)
  unfolding designation_front
  designation_front-Steady intermediate =
      opens-Steady _ refl (λ byte.
      Opens-cond (eqb byte 0x20) (continues (final_front-Steady _)) (final_front-Opens _ byte))

  sequence_front-Opens : (byte : ℕ) → Opens (sequence_front sets byte)
  unfolding sequence_front
  sequence_front-Opens byte =
      Opens-cond (eqb byte 0x6E) ends (
      Opens-cond (eqb byte 0x6F) ends (
      Opens-cond (leb 0x28 byte && leb byte 0x2F) (continues (designation_front-Steady byte)) (bad_byte-Opens _ byte)))

  control1_front-Opens : (byte : ℕ) (found : Option Row) → Opens (λ bytes. control1_front sets byte bytes found)
  unfolding control1_front
  control1_front-Opens _ (Some (Whole code)) = ends
  control1_front-Opens _ (Some (Out name)) = fails
  control1_front-Opens byte (Some More) = continues (argument_front-Steady _)
  control1_front-Opens byte None = sequence_front-Opens byte

  escape_front-Steady : Steady (escape_front sets)
  unfolding escape_front
  escape_front-Steady = opens-Steady _ refl (λ byte. control1_front-Opens byte _)

  more_front-Steady : (byte : ℕ) → Steady (more_front sets byte)
  unfolding more_front
  more_front-Steady byte =
      Steady-cond (eqb byte 0x1B) escape_front-Steady (
      Steady-cond (eqb byte 0x1C) position_front-Steady (
      Steady-cond (eqb byte 0x19) (single_shift_front-Steady sets.g2) (single_shift_front-Steady sets.g3)))
    where
      Steady-cond : (b : Bool) {f g : List ℕ → Front} → Steady f → Steady g → Steady (λ xs. cond b (f xs) (g xs))
      Steady-cond true p q = p
      Steady-cond false p q = q

  control0_front-Opens : (byte : ℕ) (found : Option Row) → Opens (λ bytes. control0_front sets byte bytes found)
  unfolding control0_front
  control0_front-Opens _ (Some (Whole code)) = ends
  control0_front-Opens _ (Some (Out name)) = fails
  control0_front-Opens byte (Some More) = continues (more_front-Steady byte)
  control0_front-Opens byte None =
      Opens-cond (is_graphic byte) (gl_front-Opens byte (non_pdi_code (set_at sets sets.gl) byte)) fails

  -- the front of a list depends only on the bytes of its code or refusal
  pub front-Steady : Steady (front sets)
  unfolding front
  front-Steady = opens-Steady _ refl (λ byte. control0_front-Opens byte _)

-- The public laws of fronts.

pub code_stays : laws.CodeStays
code_stays sets xs ys _ n _ e = (front-Steady sets).stays xs ys (λ none. cc) ∙ e

pub refused_stays : laws.RefusedStays
refused_stays sets xs ys _ i e = (front-Steady sets).stays xs ys (λ none. cc) ∙ e

pub code_taken : laws.CodeByItsBytes
code_taken sets xs _ n _ e = ap (λ r. front sets (take (size r) xs)) (sym e) ∙ (front-Steady sets).taken xs (λ none. cc) ∙ e

pub refused_taken : laws.RefusedByItsBytes
refused_taken sets xs _ i e = ap (λ r. front sets (take (size r) xs)) (sym e) ∙ (front-Steady sets).taken xs (λ none. cc) ∙ e

some_bytes : (sets : CodeSets) (xs : List ℕ) (m : ℕ) → front sets (take m xs) ≢ unfinished → 1 ≤ m
unfolding front
some_bytes sets xs zero some = absurd (some refl)
some_bytes sets xs (suc m) some = omega arith

pub code_length : laws.CodeLength
code_length sets xs code n after e = (
  some_bytes sets xs n (λ none. let taken = code_taken sets xs code n after e in cc),
  omega (arith, ap size e, (front-Steady sets).within xs),
)

pub refused_index : laws.RefusedIndex
refused_index sets xs fault i e = omega (arith, ap size e, (front-Steady sets).within xs)

pub earlier_unfinished : laws.EarlierUnfinished
earlier_unfinished sets xs _ n _ k e less = earlier (front-Steady sets) xs k (omega (arith, ap size e))

pub unfinished_before : laws.UnfinishedBefore
unfinished_before sets xs _ i k e less = earlier (front-Steady sets) xs k (omega (arith, ap size e))

-- The front of a prefix, if it is a code or a refusal, is the front of the list.
pub front_from_taken : (sets : CodeSets) (k : ℕ) (xs : List ℕ) {r : Front} → front sets (take k xs) ≡ r → r ≢ unfinished → front sets xs ≡ r
front_from_taken sets k xs e some = from_taken (front-Steady sets) k xs (rw e some) ∙ e

-- The front of a list, by the front of the bytes after its first ones.

-- a front, a number of bytes further
abbrev pub further : ℕ → Front → Front
further zero r = r
further (suc n) r = one_byte_later (further n r)

pub further-unfinished : (n : ℕ) → further n unfinished ≡ unfinished
unfolding one_byte_later
further-unfinished zero = refl
further-unfinished (suc n) = ap one_byte_later (further-unfinished n)

pub further-complete : (n : ℕ) (code : Code) (m : ℕ) (after : CodeSets) → further n (complete code m after) ≡ complete code (n + m) after
unfolding one_byte_later
further-complete zero code m after = ap (λ k. complete code k after) (omega arith)
further-complete (suc n) code m after =
    ap one_byte_later (further-complete n code m after) ∙ ap (λ k. complete code k after) (omega arith)

pub further-refused : (n : ℕ) (fault : CodeFault) (i : ℕ) → further n (refused fault i) ≡ refused fault (n + i)
unfolding one_byte_later
further-refused zero fault i = ap (refused fault) (omega arith)
further-refused (suc n) fault i = ap one_byte_later (further-refused n fault i) ∙ ap (refused fault) (omega arith)

designation_begins : (sets : CodeSets) (intermediate : ℕ) (bytes : List ℕ) → IsIntermediate intermediate →
    escape_front sets (intermediate ∷ bytes) ≡ one_byte_later (designation_front sets intermediate bytes)
unfolding escape_front control1_front sequence_front
designation_begins sets intermediate bytes range =
    rw (no_control1 intermediate (omega arith), ne_eqb intermediate 0x6E (λ e. omega arith), ne_eqb intermediate 0x6F (λ e. omega arith), le-leb 0x28 intermediate range.0, le-leb intermediate 0x2F range.1)
    refl

-- the front of an incomplete code followed by these bytes
pub front_of_half : (sets : CodeSets) (half : HalfRead) (bytes : List ℕ) → IsHalfRead half →
    front sets (half_read_bytes half ++ bytes) ≡ further (length (half_read_bytes half)) (rest_front sets half bytes)
unfolding front row_of control0_rows control0_front more_front escape_front control1_rows control1_front argument_of designation_front position_front
front_of_half _ (Control Argument.Macro) _ _ = refl
front_of_half _ (Control Argument.ShownMacro) _ _ = refl
front_of_half _ (Control Argument.Glyph) _ _ = refl
front_of_half _ (Control Argument.Mask) _ _ = refl
front_of_half _ (Control Argument.Count) _ _ = refl
front_of_half sets (Designation intermediate) bytes is = ap one_byte_later (designation_begins sets _ bytes is)
front_of_half sets (SpacedDesignation intermediate) bytes is = ap one_byte_later (designation_begins sets _ (0x20 ∷ bytes) is)
front_of_half _ (PositionRow row) _ is = rw (graphic_test row is) refl
front_of_half _ _ _ _ = refl

-- the front at a code of the set in GL
pub gl_begins : (sets : CodeSets) (byte : ℕ) → IsGraphic byte →
    front sets (byte ∷ []) ≡ gl_front sets byte (non_pdi_code (set_at sets sets.gl) byte)
unfolding front control0_front
gl_begins _ byte range = rw (no_control0 byte range.0, graphic_test byte range) refl

pub pdi_begins : (sets : CodeSets) (byte : ℕ) → IsGraphic byte → set_at sets sets.gl ≡ CodeSet.Pdi →
    front sets (byte ∷ []) ≡ pdi_front sets byte (row_of opcode_rows byte)
unfolding gl_front non_pdi_code
pdi_begins sets byte range pdi =
    gl_begins sets byte range ∙ ap (λ set. gl_front sets byte (non_pdi_code set byte)) pdi
