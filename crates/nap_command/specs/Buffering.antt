use Rattle.std.specs.Prelude.{Err, List, Result, length, max, ℕ, ◌*◌, ◌++◌, ◌+◌, ◌<◌, ◌≡◌, ◌≤◌}
use Rattle.nap_command.specs.{Types.Question, Types.Stop, Types.read_limit, Requests.IsRequest}

-- How much memory is kept for what is read.

-- the bytes that belong to no answered request, and how many bytes the buffer has memory for
pub record Buffered : Type 0 where
  pub bytes : List ℕ
  pub memory : ℕ

-- the least memory of a buffer: that of two reads
abbrev pub least_memory : ℕ
least_memory = 2 * read_limit

-- the memory for this many bytes and those that are missing of a page, or for these and one read
abbrev pub memory_for : ℕ → ℕ → ℕ
memory_for size missing = size + max missing read_limit

-- At a read a buffer takes the memory that it lacks, and no more. If there is none, it lacked some.
abbrev pub TakesMemory : ℕ → ℕ → ℕ → Result ℕ Stop → Type 0
TakesMemory needed old new (Err Stop.Memory) = (new ≡ old) × (least_memory ≤ old) × (old < needed)
TakesMemory needed old new _ = new ≡ max old needed

-- A buffer with more memory than before has enough of it for one read and the request that these bytes begin, and no
-- more: whatever that request is, and whatever follows them.
abbrev pub KeepsWithin : List ℕ → ℕ → ℕ → Type 0
KeepsWithin bytes old new =
    (more asked following : List ℕ) (q : Question) (budget : ℕ) (page : List ℕ) → IsRequest asked q budget page → bytes ++ more ≡ asked ++ following →
    new ≤ max old (length asked + read_limit)
