use Rattle.std.specs.Prelude.{Bool, Err, List, None, Ok, Option, Result, Some, [], drop, false, if◌then◌else◌, length, map, nat_le, nat_lt, suc, take, true, zero, ℕ, ◌&&◌, ◌++◌, ◌+◌, ◌-◌, ◌∷◌}
use Rattle.nap_reader.specs.Names.{Code, CodeSets, DrawFault, Entry, Opcode, OpenDefinition, RuleResult, Work, code_rule, prefix_len, rule, run_limit, start_sets, start_work}
use Rattle.nap_codes.specs.Front as codes
use Rattle.nap_reader.specs.{declared.fault.Fault.Fault, declared.fault.Refusal.Refusal, Faults.code_fault, Faults.draw_fault, Kinds.Kind, Kinds.kind_of}
use Rattle.nap_reader.specs.Bodies as bodies
use Rattle.nap_reader.specs.Bodies.{Mode, between, in_body, no_names, body_of, bind, store_limit, body_front}
use Rattle.nap_reader.specs.Course as course

-- a byte, and its place in the input
pub record Placed : Type 0 where
  pub byte : ℕ
  pub place : ℕ

-- the bytes of an input, the first of them at this place
unfoldable pub placed_from : ℕ → List ℕ → List Placed
placed_from n [] = []
placed_from n (b ∷ bs) = record { byte = b; place = n } ∷ placed_from (suc n) bs

abbrev pub bytes_of : List Placed → List ℕ
bytes_of xs = map (λ x. x.byte) xs

-- these bytes, each of them at this place
abbrev pub all_at : ℕ → List ℕ → List Placed
all_at place bytes = map (λ b. record { byte = b; place = place }) bytes

-- the machine between two codes, or before a body: the drawing state, the code sets, the bytes that may still be
-- charged, the bodies by their names, and the number of bytes of bodies
pub record Machine : Type 0 where
  pub work : Work
  pub sets : CodeSets
  pub left : ℕ
  pub names : List (List ℕ)
  pub stored : ℕ
  pub mode : Mode

-- what a stream has begun when no complete code is left
pub data Unfinished : Type 0 where
  nothing : Unfinished
  -- the bytes of a half-read code
  half_code : List ℕ → Unfinished
  -- an opcode, its place, and the words of its run so far
  open_run : Opcode → ℕ → List ℕ → Unfinished
  -- the body of a macro
  open_body : Unfinished

abbrev pub Outcome : Type 0
Outcome = course.OutcomeOf Machine Entry Refusal Unfinished Placed

abbrev pub StreamFront : Type 0
StreamFront = course.FrontOf Machine Entry Refusal Unfinished Placed

abbrev pub refusal : Fault → ℕ → Refusal
refusal fault place = record { fault = fault; place = place }

-- Operand bytes.

abbrev pub is_operand_byte : ℕ → Bool
is_operand_byte b = nat_le 64 b && nat_lt b 128

abbrev pub is_operand : Placed → Bool
is_operand x = is_operand_byte x.byte

-- the number of operand bytes at the beginning
abbrev pub run_length : List Placed → ℕ
run_length xs = prefix_len is_operand xs

-- the words that operand bytes carry
abbrev pub carried_words : List Placed → List ℕ
carried_words xs = map (λ x. x.byte - 64) xs

-- the machine after a code has drawn, which may unbind all names
abbrev pub after_drawing : Machine → RuleResult → Machine
after_drawing m drawn = record m { work = drawn.work; names = if drawn.clears then no_names else m.names }

-- the front after the rule of an opcode, a character or a control has acted
abbrev pub drawn_front : Machine → ℕ → List Placed → Result RuleResult DrawFault → StreamFront
drawn_front m place rest (Ok drawn) = course.act drawn.entries (after_drawing m drawn) rest
drawn_front m place rest (Err fault) = course.refuse (refusal (draw_fault fault) place)

-- the front of an opcode on its whole run; a run that reaches the end of the list hasn't ended
abbrev pub closed_front : Machine → Opcode → ℕ → List Placed → List Placed → StreamFront
closed_front m op place run [] = course.pause (open_run op place (carried_words run))
closed_front m op place run (x ∷ xs) = drawn_front m place (x ∷ xs) (rule m.work op (carried_words run))

-- the front of an opcode on its run, with the bytes after the run
abbrev pub run_front : Machine → Opcode → ℕ → List Placed → List Placed → StreamFront
run_front m op place run rest =
    if nat_lt run_limit (length run) then course.refuse (refusal Fault.LongRun place)
    else closed_front m op place run rest

-- the front of an opcode, which takes the longest run of operand bytes after it
abbrev pub opened_front : Machine → Opcode → ℕ → List Placed → StreamFront
opened_front m op place xs = run_front m op place (take (run_length xs) xs) (drop (run_length xs) xs)

-- the machine after n bytes were charged
abbrev pub after_charge : Machine → ℕ → Machine
after_charge m n = record m { left = m.left - n }

-- the front if the bytes of a body come next, each at this place, provided they can be charged
abbrev pub shown_front : Machine → ℕ → List ℕ → List Placed → StreamFront
shown_front m place bytes rest =
    if nat_lt m.left (length bytes) then course.refuse (refusal Fault.Budget place)
    else course.act [] (after_charge m (length bytes)) (all_at place bytes ++ rest)

-- the front if a code of this kind ends at this place, with the bytes after the code
abbrev pub code_front : Machine → Kind → ℕ → List Placed → StreamFront
code_front m (Kind.opens op) place rest = opened_front m op place rest
code_front m Kind.strays place rest = course.refuse (refusal Fault.Stray place)
code_front m Kind.adds_nothing place rest = course.act [] m rest
code_front m (Kind.acts code) place rest = drawn_front m place rest (code_rule m.work code)
code_front m (Kind.calls name) place rest = shown_front m place (body_of m.names name) rest
code_front m (Kind.binds name show) place rest =
    drawn_front (record m { mode = in_body name show }) place rest (code_rule m.work (Code.DefMacro name show))

-- the place of the byte at this index
abbrev pub place_at : List Placed → ℕ → ℕ
place_at [] i = 0
place_at (x ∷ xs) zero = x.place
place_at (x ∷ xs) (suc i) = place_at xs i

-- the unfinished code of these bytes, if there are any
abbrev pub half_read : List ℕ → Unfinished
half_read [] = nothing
half_read (b ∷ bs) = half_code (b ∷ bs)

abbrev pub front_by : Machine → List Placed → codes.Front → StreamFront
front_by m xs codes.unfinished = course.pause (half_read (bytes_of xs))
front_by m xs (codes.refused fault i) = course.refuse (refusal (code_fault fault) (place_at xs i))
front_by m xs (codes.complete code n sets) = code_front (record m { sets = sets }) (kind_of code) (place_at xs (n - 1)) (drop n xs)

-- the machine after the name was bound to the body
abbrev pub after_body : Machine → ℕ → List ℕ → Machine
after_body m name body = record m { names = bind m.names name body; stored = m.stored + length body; mode = between }

-- The front if the body is complete: n bytes, and after them the two that end the body, which are the next code of the
-- stream. A body that is presented comes next once more, with these two, before what comes after them.
abbrev pub bound_front : Machine → ℕ → Bool → ℕ → List Placed → StreamFront
bound_front m name false n xs = course.act [] (after_body m name (take n (bytes_of xs))) (drop n xs)
bound_front m name true n xs =
    shown_front (after_body m name (take n (bytes_of xs))) (place_at xs (n + 1)) (take (n + 2) (bytes_of xs)) (drop (n + 2) xs)

abbrev pub body_front_by : Machine → ℕ → Bool → List Placed → bodies.BodyFront → StreamFront
body_front_by m name show xs bodies.unfinished = course.pause open_body
body_front_by m name show xs (bodies.refused fault i) = course.refuse (refusal fault (place_at xs i))
body_front_by m name show xs (bodies.ended n) = bound_front m name show n xs

-- the front of the list, in this mode
abbrev pub front_in : Mode → Machine → List Placed → StreamFront
front_in between m xs = front_by m xs (codes.front m.sets (bytes_of xs))
front_in (in_body name show) m xs = body_front_by m name show xs (body_front (store_limit - m.stored) (bytes_of xs))

unfoldable pub stream_front : Machine → List Placed → StreamFront
stream_front m xs = front_in m.mode m xs

-- the number of steps that the end of a body may take besides its bytes: an empty body takes no byte and is charged
-- nothing, so its end alone is a step
abbrev pub ends_of : Mode → ℕ
ends_of between = 0
ends_of (in_body name show) = 1

-- what each front lessens, together with the length of the list
abbrev pub steps_left : Machine → ℕ
steps_left m = m.left + ends_of m.mode

-- the outcome of a list, from this machine on
abbrev pub outcome_from : Machine → List Placed → Outcome
outcome_from m xs = course.outcome stream_front steps_left m xs

-- the machine at the start of a reading with this budget
abbrev pub start_machine : ℕ → Machine
start_machine budget = record { work = start_work; sets = start_sets; left = budget; names = no_names; stored = 0; mode = between }

-- the outcome of a stream so far, to which bytes may be added
abbrev pub begun : ℕ → List ℕ → Outcome
begun budget p = outcome_from (start_machine budget) (placed_from 0 p)

-- The end of a stream.

-- an outcome in which the opcode at this place acted last
abbrev pub with_drawn : Outcome → ℕ → Result RuleResult DrawFault → Outcome
with_drawn o place (Ok drawn) = record {
  entries = o.entries ++ drawn.entries;
  refusal = None;
  unfinished = Some nothing;
  machine = after_drawing o.machine drawn;
  rest = [];
}
with_drawn o place (Err fault) = record o { refusal = Some (refusal (draw_fault fault) place); unfinished = None }

abbrev pub with_run_by : Outcome → Option Unfinished → Outcome
with_run_by o (Some (open_run op place run)) = with_drawn o place (rule o.machine.work op run)
with_run_by o _ = o

-- the outcome after the open run acts
abbrev pub with_run : Outcome → Outcome
with_run o = with_run_by o o.unfinished

-- the outcome after a definition that is open at the end is refused there
abbrev pub with_definition : Outcome → ℕ → Option OpenDefinition → Outcome
with_definition o n None = o
with_definition o n (Some opened) = record o { refusal = Some (refusal Fault.Unended n) }

-- the outcome after a code or a body that is unfinished at the end is refused there
abbrev pub with_code : Outcome → ℕ → Option Unfinished → Outcome
with_code o n (Some (half_code bytes)) = record o { refusal = Some (refusal Fault.Cut n) }
with_code o n (Some open_body) = record o { refusal = Some (refusal Fault.Unended n) }
with_code o n _ = with_definition o n o.machine.work.state.definition

abbrev pub with_end : Outcome → ℕ → Option Refusal → Outcome
with_end o n (Some r) = o
with_end o n None = with_code o n o.unfinished

abbrev pub ended_by : Outcome → ℕ → Option Refusal → Outcome
ended_by o n (Some r) = o
ended_by o n None = with_end (with_run o) n (with_run o).refusal

-- the outcome of a stream that ends at this place: an open run acts, then what is unfinished is refused
abbrev pub ended : ℕ → Outcome → Outcome
ended n o = ended_by o n o.refusal

-- what a whole stream means
abbrev pub means : ℕ → List ℕ → Outcome
means budget p = ended (length p) (begun budget p)
