use Rattle.std.specs.Prelude.{List, Option, [], length, ℕ, ◌++◌, ◌+◌}
use Rattle.nap_reader.specs.{Names.Entry, Names.Ghosts, Collecting.IsCount}
use Rattle.std.proofs.{Common.length-append, Math.Nat.add-zero, Math.Nat.add_assoc}

-- The model of a sink that counts the entries of another sink: that sink, and the number of entries it took, if a `u64`
-- can hold it.
pub record CountedSink (S : Type 0) : Type 0 where
  pub sink : S
  pub count : Option ℕ

-- if the first count is that of some entries, the second is that of n more
pub record GrowsBy (n : ℕ) (before after : Option ℕ) : Type 0 where
  pub grows : (m : ℕ) → IsCount before m → IsCount after (m + n)

-- the other sink took these entries, and they were counted
pub record TookCounted {S : Type 0} (g : Ghosts S) (s : CountedSink S) (d : List Entry) (t : CountedSink S) : Type 0 where
  pub took : g.took s.sink d t.sink
  pub count : GrowsBy (length d) s.count t.count

-- the members of the trait of sinks for a counting sink
abbrev pub counting : {S : Type 0} → Ghosts S → Ghosts (CountedSink S)
counting g = record {
  state = λ s. g.state s.sink;
  wants = λ s d. g.wants s.sink d;
  failed = λ s. g.failed s.sink;
  took = λ s d t. TookCounted g s d t;
  broke = λ s d e t. g.broke s.sink d e t.sink;
}

-- The laws of the trait, for a counting sink.

pub took_none : {S : Type 0} (g : Ghosts S) (s : CountedSink S) → g.took s.sink [] s.sink → TookCounted g s [] s
took_none g s none = record { took = none; count = record { grows = λ m is. rw add-zero is } }

pub took_more : {S : Type 0} (g : Ghosts S) (s t u : CountedSink S) (d e : List Entry) → g.took s.sink (d ++ e) u.sink → TookCounted g s d t → TookCounted g t e u → TookCounted g s (d ++ e) u
took_more g s t u d e both first second = record {
  took = both;
  count = record { grows = λ m is. rw (length-append d e, ← add_assoc m (length d) (length e)) (second.count.grows (m + length d) (first.count.grows m is)) };
}
