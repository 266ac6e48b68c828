use Rattle.std.specs.Prelude.{Bool, List, Option, length, true, ℕ, ◌+◌, ◌-◌, ◌<◌, ◌≡◌, ◌≤◌, ◌⊎◌}
use Rattle.nap_list.specs.{Names.IsAtEnd, Limits.reads_limit}
use Rattle.nap_list.specs.declared.device.Inlet as inlet

-- A series of reads, as contracts see it: the bytes left, whether a read had failed before and has failed now, and the
-- number of reads.
pub record Reading : Type 0 where
  pub left : Option (List ℕ)
  pub failed_before : Bool
  pub failed : Bool
  pub reads : ℕ

abbrev pub reading : {I : Type 0} → inlet.Ghosts I → I → I → Reading
reading i before after = record {
  left = i.left after;
  failed_before = i.failed before;
  failed = i.failed after;
  reads = i.calls after - i.calls before;
}

-- no read failed in the series
abbrev pub NoneFailed : Reading → Type 0
NoneFailed r = r.failed ≡ r.failed_before

-- a read failed, and there was at most one read more than bytes of p
pub record ReadFailed (r : Reading) (p : List ℕ) : Type 0 where
  pub failed : r.failed ≡ true
  pub some : 0 < r.reads
  pub gave : r.reads ≤ length p + 1

-- the input was read as often as allowed, no read failed, and p has at least as many bytes
pub record ReadTooOften (r : Reading) (p : List ℕ) : Type 0 where
  pub none_failed : NoneFailed r
  pub often : r.reads ≡ reads_limit
  pub gave : reads_limit ≤ length p

-- the series ended before the input did
abbrev pub IsCutOff : Reading → List ℕ → Type 0
IsCutOff r p = ReadFailed r p ⊎ ReadTooOften r p

-- The series read the bytes p, which is all of the input; no read failed, and there was at most one read more than
-- bytes.
pub record IsReadWhole (r : Reading) (p : List ℕ) : Type 0 where
  pub none_failed : NoneFailed r
  pub end : IsAtEnd r.left
  pub gave : r.reads ≤ length p + 1
