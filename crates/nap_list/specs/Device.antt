use Rattle.std.specs.Prelude.{ℕ, Bool}

-- a reader of bytes, the number of reads, and whether a read has failed
pub record ReadingFrom (R : Type 0) : Type 0 where
  pub reader : R
  pub calls : ℕ
  pub failed : Bool

-- a writer of bytes: whether a write and whether a flush has failed, whether it was flushed after its last write, and
-- the number of flushes
pub record WritingTo (W : Type 0) : Type 0 where
  pub writer : W
  pub write_failed : Bool
  pub flush_failed : Bool
  pub sent : Bool
  pub flushes : ℕ
