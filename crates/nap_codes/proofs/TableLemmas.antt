-- The tables of codes: what their rows say, which bytes they have, and the controls of the C0 set.
use Rattle.nap_codes.proofs.{Bool, Code, CodeSet, CodeSets, G0, G1, IsGraphic, LexerState, List, More, None, Opcode, Option, Row, Some, Step, Steps, TextStep, Whole, [], after_control0, ap, argument_of, arith, complete, cond, control0_front, control0_rows, control1_rows, control_of, eqb, eqb-false, eqb-true, escape_front, false, front, inl, inr, is_graphic, is_some, le-leb, lt-ltb, more_front, ne_eqb, non_pdi_code, number_rows, one_byte_later, opcode_rows, option_pair, refl, row_of, set_rows, subst, suc, sym, text_step_of_row, true, unfinished, zero, ℕ, ◌+◌, ◌<◌, ◌||◌, ◌∷◌, ◌≡◌, ◌≢◌, ◌≤◌, ◌⊎◌}
use Rattle.nap_codes.specs.Laws as laws

-- What the rows of a table have in common, and which bytes have a row.

-- a statement about each row
abbrev pub EachRow : {Entry : Type 0} → (ℕ → Entry → Type 0) → List (ℕ × Entry) → Type 0
EachRow P [] = Unit {0}
EachRow P (row ∷ rows) = P row.0 row.1 × EachRow P rows

-- A statement about each row is true of the row that is found.
pub row_found : {Entry : Type 0} (P : ℕ → Entry → Type 0) (rows : List (ℕ × Entry)) {byte : ℕ} {found : Entry} → EachRow P rows →
    row_of rows byte ≡ Some found → P byte found
unfolding row_of
row_found P [] _ e = let bad : ⊥ = cc in absurd bad
row_found {Entry} P (row ∷ rows) {byte} {found} each e = at _ refl e (row_found P rows each.1)
  where
    at : (b : Bool) → eqb byte row.0 ≡ b → cond b (Some row.1) (row_of rows byte) ≡ Some found → (row_of rows byte ≡ Some found → P byte found) →
        P byte found
    at true is e ih =
        let entry : row.1 ≡ found = cc in
        subst (λ k. P k found) (sym (eqb-true byte row.0 is)) (subst (P row.0) entry each.0)
    at false is e ih = ih e

-- A byte has no row if a statement is true of the byte of each row and not of this byte.
no_row : {Entry : Type 0} (P : ℕ → Type 0) (rows : List (ℕ × Entry)) {byte : ℕ} → EachRow (λ key _. P key) rows → (P byte → ⊥) →
    row_of rows byte ≡ None
unfolding row_of
no_row P [] _ _ = refl
no_row {Entry} P (row ∷ rows) {byte} each none = at _ refl (no_row P rows each.1 none)
  where
    at : (b : Bool) → eqb byte row.0 ≡ b → row_of rows byte ≡ None → cond b (Some row.1) (row_of rows byte) ≡ None
    at true is ih = absurd (none (subst P (sym (eqb-true byte row.0 is)) each.0))
    at false is ih = ih

-- Each of n bytes from one on has a row.
abbrev pub Covers : {Entry : Type 0} → List (ℕ × Entry) → ℕ → ℕ → Type 0
Covers rows from zero = Unit {0}
Covers rows from (suc n) = (is_some (row_of rows (from + n)) ≡ true) × Covers rows from n

-- A byte without a row is none of those that the rows cover.
pub row_missing : {Entry : Type 0} (rows : List (ℕ × Entry)) (from n byte : ℕ) → Covers rows from n → row_of rows byte ≡ None → from ≤ byte →
    from + n ≤ byte
row_missing _ _ zero _ _ e least = omega arith
row_missing rows from (suc n) byte covered e least = at _ refl (row_missing rows from n byte covered.1 e least)
  where
    at : (b : Bool) → eqb byte (from + n) ≡ b → from + n ≤ byte → from + suc n ≤ byte
    at true is more = let same : byte ≡ from + n = eqb-true byte (from + n) is in let bad : ⊥ = cc (covered.0) in absurd bad
    at false is more = omega (arith, more, eqb-false byte (from + n) is)

-- Which bytes the tables of codes have, and what their rows say.

pub graphic_range : (byte : ℕ) → is_graphic byte ≡ true → IsGraphic byte
graphic_range _ e = grind (arith)

pub graphic_test : (byte : ℕ) → IsGraphic byte → is_graphic byte ≡ true
graphic_test byte range = rw (le-leb 0x20 byte range.0, lt-ltb byte 0x80 range.1) refl

-- the first graphic byte
pub space : IsGraphic 0x20
space = (omega arith, omega arith)

-- A byte that is no control of the C0 set is 20 or above.
pub control0_missing : (byte : ℕ) → row_of control0_rows byte ≡ None → 0x20 ≤ byte
unfolding row_of control0_rows
control0_missing byte e = row_missing control0_rows 0 32 byte (assumption) e (omega arith)

-- A byte from 20 on that is no opcode is 40 or above.
pub opcode_missing : (byte : ℕ) → row_of opcode_rows byte ≡ None → 0x20 ≤ byte → 0x40 ≤ byte
unfolding row_of opcode_rows
opcode_missing byte e least = row_missing opcode_rows 0x20 32 byte (assumption) e least

-- A byte from 20 on is no control of the C0 set.
pub no_control0 : (byte : ℕ) → 0x20 ≤ byte → row_of control0_rows byte ≡ None
unfolding control0_rows
no_control0 byte least = no_row (λ key. key < 0x20) control0_rows (omega arith) (λ below. omega arith)

-- A control of the C0 set is below 20.
control0_below : (byte : ℕ) (row : Row) → row_of control0_rows byte ≡ Some row → byte < 0x20
unfolding control0_rows
control0_below byte row is = row_found (λ key _. key < 0x20) control0_rows (omega arith) is

-- No control of the C1 set is below 40.
pub no_control1 : (byte : ℕ) → byte < 0x40 → row_of control1_rows byte ≡ None
unfolding control1_rows
no_control1 byte below = no_row (λ key. 0x40 ≤ key) control1_rows (omega arith) (λ above. omega arith)

-- A byte from 40 on is no opcode.
pub no_opcode : (byte : ℕ) → 0x40 ≤ byte → row_of opcode_rows byte ≡ None
unfolding opcode_rows
no_opcode byte least = no_row (λ key. key < 0x40) opcode_rows (omega arith) (λ below. omega arith)

pub opcode_range : {byte : ℕ} {op : Opcode} → row_of opcode_rows byte ≡ Some op → IsGraphic byte
unfolding opcode_rows
opcode_range e = row_found (λ key _. IsGraphic key) opcode_rows (omega arith) e

-- a byte that names a register
abbrev pub IsIntermediate : ℕ → Type 0
IsIntermediate byte = (0x28 ≤ byte) × (byte ≤ 0x2F)

pub intermediate_range : {intermediate number : ℕ} → row_of number_rows intermediate ≡ Some number → IsIntermediate intermediate
unfolding number_rows
intermediate_range e = row_found (λ key _. IsIntermediate key) number_rows (omega arith) e

pub no_space : {byte : ℕ} {set : CodeSet} → row_of set_rows byte ≡ Some set → byte ≢ 0x20
unfolding set_rows
no_space e = row_found (λ key _. key ≢ 0x20) set_rows (omega arith) e

-- the controls of the C0 set with further bytes
pub data IsLongControl : ℕ → Type 0 where
  shift2 : IsLongControl 0x19
  escape : IsLongControl 0x1B
  position : IsLongControl 0x1C
  shift3 : IsLongControl 0x1D

abbrev LongRow : ℕ → Row → Type 0
LongRow byte More = IsLongControl byte
LongRow byte _ = Unit {0}

pub long_control : (byte : ℕ) → row_of control0_rows byte ≡ Some More → IsLongControl byte
unfolding control0_rows
long_control byte e = row_found LongRow control0_rows (assumption (shift2, escape, position, shift3)) e

-- the format effectors of the C0 set without further bytes
abbrev MovesAlone : ℕ → Row → Type 0
MovesAlone byte (Whole (Code.Step step)) = laws.FormatEffector byte step
MovesAlone byte _ = Unit {0}

effector_known : (byte : ℕ) (step : TextStep) → row_of control0_rows byte ≡ Some (Whole (Code.Step step)) → laws.FormatEffector byte step
unfolding control0_rows
effector_known byte step e = row_found MovesAlone control0_rows (assumption (laws.backward, laws.forward, laws.down, laws.up, laws.return, laws.home)) e

-- the locking shifts of the C0 set: SO and SI
abbrev ShiftsAlone : ℕ → Row → Type 0
ShiftsAlone byte (Whole Code.Shifted) = eqb byte 0x0E || eqb byte 0x0F ≡ true
ShiftsAlone byte _ = Unit {0}

pub shifts_alone : (byte : ℕ) → row_of control0_rows byte ≡ Some (Whole Code.Shifted) → eqb byte 0x0E || eqb byte 0x0F ≡ true
unfolding control0_rows
shifts_alone byte e = row_found ShiftsAlone control0_rows (assumption) e

pub shift_out_row : row_of control0_rows 0x0E ≡ Some (Whole Code.Shifted)
unfolding row_of control0_rows
shift_out_row = refl

pub shift_in_row : row_of control0_rows 0x0F ≡ Some (Whole Code.Shifted)
unfolding row_of control0_rows
shift_in_row = refl

-- A control of the C1 set with an argument is the one that takes this argument.
abbrev HasArgument : ℕ → Row → Type 0
HasArgument byte More = control_of (argument_of byte) ≡ byte
HasArgument byte _ = Unit {0}

pub control_of-argument_of : (byte : ℕ) → row_of control1_rows byte ≡ Some More → control_of (argument_of byte) ≡ byte
unfolding control1_rows argument_of
control_of-argument_of byte e = row_found HasArgument control1_rows (assumption) e

-- Only the PDI set has neither characters nor macro calls.
pub no_plain_code : {set : CodeSet} (byte : ℕ) → non_pdi_code set byte ≡ None → set ≡ CodeSet.Pdi
unfolding non_pdi_code
no_plain_code _ e = grind arith

-- the register and the set that a designation names
pub option_pair-rows : (number : Option ℕ) (set : Option CodeSet) (named : ℕ × CodeSet) → option_pair number set ≡ Some named →
    (number ≡ Some named.0) × (set ≡ Some named.1)
option_pair-rows (Some n) (Some s) named e =
    let is : (n, s) ≡ named = cc in
    (ap (λ pair. Some pair.0) is, ap (λ pair. Some pair.1) is)
option_pair-rows (Some n) None _ e = cc
option_pair-rows None _ _ e = cc

-- Controls of the C0 set that are complete codes.

-- the code of a byte that shifts is a locking shift
pub is_shift : {byte known : ℕ} {code : Code} → row_of control0_rows known ≡ Some (Whole Code.Shifted) → byte ≡ known →
    row_of control0_rows byte ≡ Some (Whole code) → code ≡ Code.Shifted
is_shift shifts is row = cc

-- A control that is no shift doesn't change the code sets.
pub no_shift_after : (sets : CodeSets) (byte : ℕ) (code : Code) → row_of control0_rows byte ≡ Some (Whole code) → code ≢ Code.Shifted →
    after_control0 sets byte ≡ sets
unfolding after_control0
no_shift_after _ byte _ row differs =
    rw (ne_eqb byte 0x0E (λ is. differs (is_shift shift_out_row is row)), ne_eqb byte 0x0F (λ is. differs (is_shift shift_in_row is row))) refl

-- a format effector is at the front, and doesn't change the code sets
pub format_effector_alone : (sets : CodeSets) (byte : ℕ) (step : TextStep) → row_of control0_rows byte ≡ Some (Whole (Code.Step step)) →
    front sets (byte ∷ []) ≡ complete (Code.Step step) 1 sets
unfolding front control0_front
format_effector_alone sets byte step row = rw (row, no_shift_after sets byte (Code.Step step) row (λ is. cc)) refl

-- the row of a format effector
effector_row : (row : Option Row) (step : TextStep) → text_step_of_row row ≡ Some step → row ≡ Some (Whole (Code.Step step))
effector_row (Some (Whole (Code.Step move))) step is = let same : move ≡ step = cc in rw same refl
effector_row None _ is = let bad : ⊥ = cc in absurd bad
effector_row _ _ is = let bad : ⊥ = cc in absurd bad

pub format_effector_front : laws.FormatEffectorFront
format_effector_front byte step is =
    let row = effector_row _ step is in
    (control0_below byte _ row, λ sets. format_effector_alone sets byte step row)

pub format_effector_known : laws.FormatEffectorKnown
format_effector_known byte step is = effector_known byte step (effector_row _ step is)

-- SO and SI are at the front as shifts
shift_front : (sets : CodeSets) (byte : ℕ) → (byte ≡ 0x0E) ⊎ (byte ≡ 0x0F) → front sets (byte ∷ []) ≡ complete Code.Shifted 1 (after_control0 sets byte)
unfolding front control0_front
shift_front _ _ (inl is) = rw (is, shift_out_row) refl
shift_front _ _ (inr is) = rw (is, shift_in_row) refl

-- SO and SI are steps of the lexer
pub shift_out_steps : (old new : LexerState) (byte : ℕ) → old.half ≡ [] → byte ≡ 0x0E → new ≡ record { sets = record old.sets { gl = G1 }; half = [] } →
    Steps old byte (Step.Code Code.Shifted) new
unfolding after_control0
shift_out_steps old _ _ rests is same = rw (rests, is, shift_front old.sets 0x0E (inl refl)) (refl, refl, same)

pub shift_in_steps : (old new : LexerState) (byte : ℕ) → old.half ≡ [] → byte ≡ 0x0F → new ≡ record { sets = record old.sets { gl = G0 }; half = [] } →
    Steps old byte (Step.Code Code.Shifted) new
unfolding after_control0
shift_in_steps old _ _ rests is same = rw (rests, is, shift_front old.sets 0x0F (inr refl)) (refl, refl, same)

-- ESC is the beginning of a code
escape_front-alone : (sets : CodeSets) → front sets (0x1B ∷ []) ≡ unfinished
unfolding front control0_front more_front escape_front one_byte_later row_of control0_rows
escape_front-alone _ = refl

pub escape_steps : (old new : LexerState) → old.half ≡ [] → new ≡ record { sets = old.sets; half = 0x1B ∷ [] } → Steps old 0x1B Step.More new
escape_steps old _ rests same = rw (rests, escape_front-alone old.sets) (refl, same)

-- BEL is a complete code, and changes no code set
pub bell_front : (sets : CodeSets) (byte : ℕ) → byte ≡ 0x07 → front sets (byte ∷ []) ≡ complete Code.Bell 1 sets
unfolding front control0_front row_of control0_rows after_control0
bell_front _ _ is = rw is refl
