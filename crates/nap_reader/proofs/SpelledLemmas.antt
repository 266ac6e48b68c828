use Rattle.nap_reader.proofs.Common.{AllCharacters, AreCharacters, BodyFront, Bool, CharSet, Code, CodeSets, Fault, IsGraphic, IsMade, Kind, LexerState, List, Opcode, Option, Some, Spells, Step, Steps, [], after_control0, arith, at_escape, body_front, code_is_spelled, code_ranges, cond, control0_rows, control1_rows, ended, eqb, eqb-true, false, is_fill, kind_of, length, length-take-le, ne_eqb, one_byte_longer, opcode_rows, refl, refused, row_of, stores, suc, take, true, unfinished, ℕ, ⊤, ◌++◌, ◌+◌, ◌-◌, ◌<◌, ◌∷◌, ◌≡◌, ◌≤◌}
use Rattle.nap_codes.specs.Tables.{fills}
use Rattle.nap_reader.specs.Names.{IsCharacter}
use Rattle.nap_codes.specs.declared.control.Row.{Row}
use Rattle.nap_codes.specs.declared.control.Row.TheVariants.{Whole}
use Rattle.nap_codes.specs.Front as codes

-- Codes, by their spellings.

-- a statement about each row of a table is true of the row that is found
abbrev EachRow : {Entry : Type 0} → (ℕ → Entry → Type 0) → List (ℕ × Entry) → Type 0
EachRow P [] = ⊤
EachRow P (row ∷ rows) = P row.0 row.1 × EachRow P rows

row_found : {Entry : Type 0} (P : ℕ → Entry → Type 0) (rows : List (ℕ × Entry)) (byte : ℕ) (found : Entry) → EachRow P rows → row_of rows byte ≡ Some found → P byte found
unfolding row_of
row_found P [] byte found each e = let bad : ⊥ = cc in absurd bad
row_found {Entry} P (row ∷ rows) byte found each e = at (eqb byte row.0) refl e (row_found P rows byte found each.1)
  where
    at : (here : Bool) → eqb byte row.0 ≡ here → cond here (Some row.1) (row_of rows byte) ≡ Some found → (row_of rows byte ≡ Some found → P byte found) → P byte found
    at true is e later =
        let same : row.1 ≡ found = cc in
        rw (eqb-true byte row.0 is, ← same) each.0
    at false is e later = later e

opcode_row : (byte : ℕ) (op : Opcode) → row_of opcode_rows byte ≡ Some op → IsGraphic byte
unfolding opcode_rows
opcode_row byte op row = row_found (λ key _. IsGraphic key) opcode_rows byte op (omega arith) row

opcode_graphic : (sets : CodeSets) (b : ℕ) (op : Opcode) (after : CodeSets) → Spells sets (b ∷ []) (Code.Op op) after → IsGraphic b
unfolding row_of control0_rows codes.non_pdi_code
opcode_graphic sets b op after spelled = grind (arith, opcode_row)

-- the bytes from 20 to 7F aren't characters where one of them is an opcode
pub opcode_alone : (sets : CodeSets) (b : ℕ) (op : Opcode) → codes.front sets (b ∷ []) ≡ codes.complete (Code.Op op) 1 sets → (set : CharSet) → AllCharacters sets set → ⊥
opcode_alone sets b op is set all = cc (all b (opcode_graphic sets b op sets ((code_is_spelled sets (b ∷ []) (Code.Op op) 1 sets).0 is).1))

-- a definition of a macro has more than one byte
definition_long : (sets : CodeSets) (bytes : List ℕ) (name : ℕ) (show : Bool) (after : CodeSets) → Spells sets bytes (Code.DefMacro name show) after → 2 ≤ length bytes
unfolding row_of control0_rows control1_rows codes.non_pdi_code
definition_long sets bytes name show after spelled = grind arith

pub definition_length : (sets : CodeSets) (bytes : List ℕ) (name : ℕ) (show : Bool) (n : ℕ) (after : CodeSets) → codes.front sets bytes ≡ codes.complete (Code.DefMacro name show) n after → 2 ≤ n
definition_length sets bytes name show n after e =
    let spelled = (code_is_spelled sets bytes (Code.DefMacro name show) n after).0 e in
    omega (arith, definition_long sets (take n bytes) name show after spelled.1, length-take-le n bytes spelled.0)

-- The effect of ESC on the lexer.

-- no bytes are an unfinished code, and so is ESC
pub nothing_yet : (sets : CodeSets) → codes.front sets [] ≡ codes.unfinished
unfolding codes.front
nothing_yet sets = refl

pub escape_unfinished : (sets : CodeSets) → codes.front sets (27 ∷ []) ≡ codes.unfinished
unfolding codes.front codes.control0_front row_of control0_rows codes.one_byte_later codes.more_front codes.escape_front
escape_unfinished sets = refl

pub escape_steps : (old : LexerState) (step : Step) (new : LexerState) → old.half ≡ [] → Steps old 27 step new → new ≡ record { sets = old.sets; half = 27 ∷ [] }
escape_steps old step new none h = let k = rw (none, escape_unfinished old.sets) at h in k.1

-- each byte from 20 to 7F is a character of this set, so no code is half read
pub are_characters : {lexer : LexerState} {set : CharSet} → ((b : ℕ) → IsGraphic b → IsCharacter lexer b set) → AreCharacters lexer set
are_characters chars = record { rested = (chars 0x20 (omega arith, omega arith)).0; chars = λ b graphic. (chars b graphic).1 }

-- The controls without effect.

fill_row : (row : Option Row) → fills row ≡ true → row ≡ Some (Whole Code.Fill)
fill_row row h = grind arith

shift_rows : (row_of control0_rows 0x0E ≡ Some (Whole Code.Shifted)) × (row_of control0_rows 0x0F ≡ Some (Whole Code.Shifted))
unfolding row_of control0_rows
shift_rows = (refl, refl)

-- they change no code set
fill_after : (sets : CodeSets) (byte : ℕ) → row_of control0_rows byte ≡ Some (Whole Code.Fill) → after_control0 sets byte ≡ sets
unfolding after_control0
fill_after sets byte row = grind (arith, shift_rows, ne_eqb)

pub fill_front : (sets : CodeSets) (byte : ℕ) → is_fill byte ≡ true → codes.front sets (byte ∷ []) ≡ codes.complete Code.Fill 1 sets
unfolding codes.front codes.control0_front
fill_front sets byte is = let row = fill_row (row_of control0_rows byte) is in rw (row, fill_after sets byte row) refl

-- The state of a body that is known is unchanged by further bytes.

-- the second state is known of n bytes and of others after them, if the first is known of the n bytes
pub data Settled (n : ℕ) : BodyFront → BodyFront → Type 0 where
  waits : {f : BodyFront} → Settled n unfinished f
  refuses : {fault : Fault} {i : ℕ} → i < n → Settled n (refused fault i) (refused fault i)
  ends : {k : ℕ} → k + 2 ≤ n → Settled n (ended k) (ended k)

Settled-cond : {n : ℕ} (b : Bool) {f g f' g' : BodyFront} → Settled n f f' → Settled n g g' → Settled n (cond b f g) (cond b f' g')
Settled-cond b x y = grind (arith, waits, refuses, ends)

one_byte_later-Settled : {n : ℕ} {f f' : BodyFront} → Settled n f f' → Settled (suc n) (one_byte_longer f) (one_byte_longer f')
one_byte_later-Settled x = grind (arith, waits, refuses, ends)

stores-Settled : {n : ℕ} (space : ℕ) {f f' : BodyFront} → Settled n f f' → Settled (suc n) (stores space f) (stores space f')
stores-Settled space k = Settled-cond (eqb space 0) (refuses (omega arith)) (one_byte_later-Settled k)

at_escape-Settled : (space : ℕ) (bytes more : List ℕ) {f f' : BodyFront} → Settled (length bytes) f f' →
    Settled (suc (length bytes)) (at_escape space bytes f) (at_escape space (bytes ++ more) f')
at_escape-Settled space bytes more k = grind (arith, waits, refuses, ends)

pub body_front-Settled : (space : ℕ) (bytes more : List ℕ) → Settled (length bytes) (body_front space bytes) (body_front space (bytes ++ more))
unfolding body_front
body_front-Settled space [] more = waits
body_front-Settled space (byte ∷ bytes) more = let further = body_front-Settled (space - 1) bytes more in search (arith, Settled-cond, at_escape-Settled, stores-Settled, refuses)

-- The codes that act have parameters in range.

-- a code that acts has parameters in range, and so has the name of a macro
abbrev pub KindMade : Kind → Type 0
KindMade (Kind.acts c) = IsMade c
KindMade (Kind.calls name) = IsGraphic name
KindMade (Kind.binds name show) = IsGraphic name
KindMade _ = ⊤

-- so has the code at a front
pub front_made : (sets : CodeSets) (xs : List ℕ) (c : Code) (n : ℕ) (after : CodeSets) → codes.front sets xs ≡ codes.complete c n after → IsMade c
front_made sets xs c n after e = grind (arith, code_ranges)

pub front_kind_made : (sets : CodeSets) (xs : List ℕ) (c : Code) (n : ℕ) (after : CodeSets) → codes.front sets xs ≡ codes.complete c n after → KindMade (kind_of c)
front_kind_made sets xs c n after e = let range = code_ranges sets xs c n after e in grind arith

-- the code that defines a macro
pub binds_code : (c : Code) (name : ℕ) (show : Bool) → kind_of c ≡ Kind.binds name show → c ≡ Code.DefMacro name show
binds_code c name show e = grind arith

-- a code that acts is itself what acts
pub acts_itself : (c acting : Code) → kind_of c ≡ Kind.acts acting → kind_of c ≡ Kind.acts c
acts_itself c acting e = grind arith
