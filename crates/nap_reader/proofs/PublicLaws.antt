use Rattle.nap_reader.proofs.Common.{All, All-head, All-tail, Code, CodeActs, FrontAfterFront, IsAlone, IsOpenRun, IsOperandByte, IsRun, List, Machine, Opcode, Placed, RunActs, RunWaits, [], arith, bytes_of, carried_words, code_front, code_rule, drawn_front, is_operand_byte, kind_of, length, length-append, length-map, nat_tests, refl, run_length, true, walk, ℕ, ◌++◌, ◌+◌, ◌∙◌, ◌∷◌, ◌≡◌}
use Rattle.nap_reader.proofs.Base.{front_code, front_run, open_run_pauses, outcome_from-front}
pub use Rattle.nap_reader.proofs.LegalLemmas.{begun_comes_first, end_breaks_among, fed_breaks_among, accepted_is_legal, read_values_are_in_range}
pub use Rattle.nap_reader.proofs.LawLemmas.{more_bytes_keep_entries, more_bytes_keep_refusal, pieces_agree}

-- The proofs of the laws.

pub front_after_front : FrontAfterFront
front_after_front = outcome_from-front

operand_byte : (b : ℕ) → IsOperandByte b → is_operand_byte b ≡ true
operand_byte b h = grind (arith, nat_tests)

pub all_operands : (xs : List Placed) → All IsOperandByte (bytes_of xs) → run_length xs ≡ length xs
all_operands [] all = refl
all_operands (x ∷ xs) all =
    rw (operand_byte x.byte (All-head IsOperandByte x.byte (bytes_of xs) all), all_operands xs (All-tail IsOperandByte x.byte (bytes_of xs) all)) (omega arith)

is_open_run : (m : Machine) (op : Opcode) (x : Placed) (operands : List Placed) → IsRun m op x operands →
    IsOpenRun (x ∷ operands) (record { op = op; place = x.place }) (carried_words operands) m.sets
is_open_run m op x operands run = search (arith, all_operands, length-map)

pub run_acts : RunActs
run_acts m op x operands y ys run other =
    front_run m (x ∷ operands) (record { op = op; place = x.place }) (carried_words operands) y ys run.mode (is_open_run m op x operands run) other

pub run_waits : RunWaits
run_waits m op x operands run =
    open_run_pauses m (x ∷ operands) (record { op = op; place = x.place }) (carried_words operands) run.mode (is_open_run m op x operands run)

alone_front : (m : Machine) (c : Code) (place : ℕ) (ys : List Placed) → IsAlone c →
    code_front m (kind_of c) place ys ≡ drawn_front m place ys (code_rule m.work c)
unfolding walk
alone_front m c place ys alone = grind arith

pub code_acts : CodeActs
code_acts m c before last after ys is =
    let size : length before + 1 ≡ length (bytes_of before ++ last.byte ∷ []) =
    omega (arith, length-append (bytes_of before) (last.byte ∷ []), length-map before (λ (y : Placed). y.byte)) in
    front_code m before last ys is.mode refl is.names size ∙ alone_front (record m { sets = after }) c last.place ys is.alone
