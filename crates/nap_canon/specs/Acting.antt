use Rattle.std.specs.Prelude.{All, List, [], length, map, suc, zero, ℕ, ◌++◌, ◌+◌, ◌∷◌, ◌≡◌, ◌≢◌}
use Rattle.nap_canon.specs.Names.{Code, Machine, Mode, Opcode, OperandLengths, Placed, StreamFront, between, bytes_of, in_body, lex_result, placed_from, start_machine, start_sets, steps_left, stream_front}
use Rattle.nap_codes.specs.Front as codes
use Rattle.nap_reader.specs.Course as course

-- an opcode, and the operand lengths under which it acts
pub record Acting : Type 0 where
  pub op : Opcode
  pub lengths : OperandLengths

-- the opcode at a front between two codes, if there is one
abbrev pub acting_at : Machine → codes.Front → List Acting
acting_at m (codes.complete (Code.Op op) n sets) = record { op = op; lengths = m.work.domain } ∷ []
acting_at m _ = []

-- the opcode at the front of a list; none acts in a body
abbrev pub acting_in : Mode → Machine → List Placed → List Acting
acting_in between m xs = acting_at m (codes.front m.sets (bytes_of xs))
acting_in (in_body name show) m xs = []

-- the acting opcodes after a front that acts, given those of every later part of the list
abbrev pub acting_after : (Machine → List Placed → List Acting) → StreamFront → List Acting
acting_after later (course.act entries m xs) = later m xs
acting_after later _ = []

-- front after front, up to a number of them
unfoldable pub acting_within : ℕ → Machine → List Placed → List Acting
acting_within zero m xs = []
acting_within (suc most) m xs = acting_in m.mode m xs ++ acting_after (acting_within most) (stream_front m xs)

-- The acting opcodes of a list, front after front, until no complete code is left. Each front that acts lessens the sum
-- of the unread bytes and of what is left to charge, with one for the end of a body, so the number of fronts is at most
-- that sum.
abbrev pub acting_from : Machine → List Placed → List Acting
acting_from m xs = acting_within (suc (length xs + steps_left m)) m xs

-- the opcodes that act in a stream, one after another: also one whose run the end of the stream ends
abbrev pub acting : ℕ → List ℕ → List Acting
acting budget p = acting_from (start_machine budget) (placed_from 0 p)

-- the opcodes among codes
abbrev pub opcodes_of : List Code → List Opcode
opcodes_of [] = []
opcodes_of (Code.Op op ∷ rest) = op ∷ opcodes_of rest
opcodes_of (_ ∷ rest) = opcodes_of rest

-- The opcode acts under operands of eight words and four words, unless it is DOMAIN or RESET.
abbrev pub ActsUnderEightAndFour : Acting → Type 0
ActsUnderEightAndFour a = a.op ≢ Opcode.Domain → a.op ≢ Opcode.Reset → a.lengths ≡ record { multi = 8; single = 4 }

-- The opcodes that act in a stream are all the opcodes of the stream, and each acts under operands of eight words and
-- four words, unless it is DOMAIN or RESET.
pub record AllActUnderEightAndFour (budget : ℕ) (p : List ℕ) : Type 0 where
  pub all : map (λ a. a.op) (acting budget p) ≡ opcodes_of (lex_result start_sets p).codes
  pub each : All ActsUnderEightAndFour (acting budget p)
