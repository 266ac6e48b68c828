use Rattle.std.specs.Prelude.{All, List, None, Some, [], false, length, slice_index, take, ℕ, ⊤, ◌++◌, ◌+◌, ◌<◌, ◌∷◌, ◌≡◌, ◌≢◌, ◌≤◌, ◌⊎◌}
use Rattle.nap_reader.specs.{Names.AllInRange, Names.IsOperandByte, Names.Legal, ReaderAnswers.StopsBy}
use Rattle.nap_reader.specs.Shared.{Code, CodeSets, Opcode, code_rule, stream, memory, rule, Entry, Ghosts, run_limit, Refusal, between, cause_of, BreaksFrom, BreaksInRun, BreaksWithin, LacksWithin, pause, continue, outcome_by_front, Placed, Machine, Outcome, bytes_of, carried_words, is_operand, open_run, drawn_front, stream_front, placed_from, outcome_from, begun, means}
use Rattle.nap_codes.specs.Front as codes

-- The outcome of a list is that of its front, and then that of the list that remains.
abbrev pub FrontAfterFront : Type 0
FrontAfterFront = (m : Machine) (xs : List Placed) → outcome_from m xs ≡ outcome_by_front outcome_from m xs (stream_front m xs)

-- between two codes, the byte of an opcode, and after it operand bytes, no more than a run may have
pub record IsRun (m : Machine) (op : Opcode) (x : Placed) (operands : List Placed) : Type 0 where
  pub mode : m.mode ≡ between
  pub names : codes.front m.sets (x.byte ∷ []) ≡ codes.complete (Code.Op op) 1 m.sets
  pub carriers : All IsOperandByte (bytes_of operands)
  pub few : length operands ≤ run_limit

-- An opcode acts by its rule if the byte after its run is no operand byte.
abbrev pub RunActs : Type 0
RunActs = (m : Machine) (op : Opcode) (x : Placed) (operands : List Placed) (y : Placed) (ys : List Placed) → IsRun m op x operands → is_operand y ≡ false →
    stream_front m ((x ∷ operands) ++ y ∷ ys) ≡ drawn_front m x.place (y ∷ ys) (rule m.work op (carried_words operands))

-- An opcode waits if nothing comes after its run.
abbrev pub RunWaits : Type 0
RunWaits = (m : Machine) (op : Opcode) (x : Placed) (operands : List Placed) → IsRun m op x operands →
    stream_front m (x ∷ operands) ≡ pause (open_run op x.place (carried_words operands))

-- The code acts alone: it is neither an opcode nor an operand, and neither calls nor defines a macro.
abbrev pub IsAlone : Code → Type 0
IsAlone (Code.Op op) = ⊥
IsAlone (Code.Operand word) = ⊥
IsAlone (Code.Call name) = ⊥
IsAlone (Code.DefMacro name show) = ⊥
IsAlone _ = ⊤

-- between two codes, the bytes of a code that acts alone, the last of which is this one, and the code sets after the
-- code
pub record IsCodeAlone (m : Machine) (c : Code) (before : List Placed) (last : Placed) (after : CodeSets) : Type 0 where
  pub mode : m.mode ≡ between
  pub alone : IsAlone c
  pub names : codes.front m.sets (bytes_of before ++ last.byte ∷ []) ≡ codes.complete c (length before + 1) after

-- A code that acts alone acts by its rule, or adds nothing, whatever comes after it.
abbrev pub CodeActs : Type 0
CodeActs = (m : Machine) (c : Code) (before : List Placed) (last : Placed) (after : CodeSets) (ys : List Placed) → IsCodeAlone m c before last after →
    stream_front m (before ++ last ∷ ys) ≡ drawn_front (record m { sets = after }) last.place ys (code_rule m.work c)

-- More bytes add entries at the end only.
abbrev pub MoreBytesKeepEntries : Type 0
MoreBytesKeepEntries = (budget : ℕ) (p q : List ℕ) →
    (more : List Entry) × ((begun budget (p ++ q)).entries ≡ (begun budget p).entries ++ more)

-- More bytes after a refused stream change neither its entries nor its refusal.
abbrev pub MoreBytesKeepRefusal : Type 0
MoreBytesKeepRefusal = (budget : ℕ) (p q : List ℕ) (r : Refusal) → (begun budget p).refusal ≡ Some r →
    begun budget (p ++ q) ≡ begun budget p

-- all bytes of the pieces, one piece after another
abbrev pub joined : List (List ℕ) → List ℕ
joined [] = []
joined (piece ∷ pieces) = piece ++ joined pieces

-- the outcome of a stream after these pieces, from this place on
abbrev pub in_pieces : ℕ → Outcome → List (List ℕ) → Outcome
in_pieces n o [] = o
in_pieces n o (piece ∷ pieces) = in_pieces (n + length piece) (continue outcome_from o (placed_from n piece)) pieces

-- The outcome of a stream that comes in pieces is that of its bytes, so any two ways to cut the stream agree.
abbrev pub PiecesAgree : Type 0
PiecesAgree = (budget : ℕ) (pieces : List (List ℕ)) → in_pieces 0 (begun budget []) pieces ≡ begun budget (joined pieces)

-- An accepted stream has a legal display list.
abbrev pub AcceptedIsLegal : Type 0
AcceptedIsLegal = (budget : ℕ) (p : List ℕ) → (means budget p).refusal ≡ None → Legal (means budget p).entries

-- The values of all entries are in range, both so far and in the whole.
abbrev pub ReadValuesAreInRange : Type 0
ReadValuesAreInRange = (budget : ℕ) (p : List ℕ) → AllInRange (begun budget p).entries × AllInRange (means budget p).entries

-- The entries so far are a prefix of those of the whole stream.
abbrev pub BegunComesFirst : Type 0
BegunComesFirst = (budget : ℕ) (p : List ℕ) → (more : List Entry) × ((means budget p).entries ≡ (begun budget p).entries ++ more)

-- memory may be lacking for some of the first entries of a list
abbrev pub WantsSome : {S : Type 0} → Ghosts S → S → List Entry → Type 0
WantsSome g s list = (first : List Entry) × (rest : List Entry) × (list ≡ first ++ rest) × g.wants s first

-- Reading of the bytes p broke where it can break. The sink has all known entries, and a part of the outcome's further
-- ones. Memory was lacking to the reader itself, or to its sink for some of the first entries.
pub record BreaksAmong {S : Type 0} (g : Ghosts S) (s : S) (budget : ℕ) (p : List ℕ) (known : List Entry) (o : Outcome) (t : S) (r : Refusal) : Type 0 where
  pub place : BreaksWithin budget p r.place
  pub wants : cause_of r.fault ≡ memory → LacksWithin budget p r.place ⊎ WantsSome g s o.entries
  pub from : BreaksFrom g s known o t (cause_of r.fault)

-- A reader that broke in the last bytes that it was fed keeps the entries of the bytes before.
abbrev pub FedBreaksAmong : {S : Type 0} → Ghosts S → Type 0
FedBreaksAmong {S = S} g = (s : S) (budget : ℕ) (before last : List ℕ) (i : ℕ) (t : S) (left : ℕ) (r : Refusal) → i < length last → cause_of r.fault ≢ stream →
    StopsBy g s budget (before ++ take i last) (slice_index last i) t left r (cause_of r.fault) →
    BreaksAmong g s budget (before ++ last) (begun budget before).entries (begun budget (before ++ last)) t r

-- A reader that broke at the opcode that acts at the end keeps the entries before that opcode.
abbrev pub EndBreaksAmong : {S : Type 0} → Ghosts S → Type 0
EndBreaksAmong {S = S} g = (s : S) (budget : ℕ) (p : List ℕ) (t : S) (r : Refusal) → (begun budget p).refusal ≡ None →
    BreaksInRun g s budget p t r → BreaksAmong g s budget p (begun budget p).entries (means budget p) t r
