use Rattle.std.specs.Prelude.{Bool, Err, List, None, Ok, Result, Some, false, length, min, true, ℕ, ◌++◌, ◌-◌, ◌<◌, ◌^◌, ◌≡◌, ◌⊎◌}
use Rattle.nap_canon.specs.Names.{Cause, Entry, IsCutOff, IsReadWhole, LacksWithin, LastRead, NoneFailed, Reading, Refusal, begun, cause_of, device, means, memory, stream}
use Rattle.nap_list.specs.declared.device.Inlet as inlet
use Rattle.nap_canon.specs.{declared.conversion.ConvertFault.ConvertFault, Streams.list_of, Streams.IsCanonicalOf, Text.text}

-- A stream is converted: the bytes p were read, and the output took q.

-- the number of bytes, saturating at 2^64 - 1
abbrev pub count_of : List ℕ → ℕ
count_of q = min (length q) (2 ^ 64 - 1)

-- the first list is a prefix of the other
abbrev pub IsPrefixOf : {A : Type 0} → List A → List A → Type 0
IsPrefixOf {A = A} prefix whole = (rest : List A) × (whole ≡ prefix ++ rest)

-- All of the stream was read, and q is its canonical stream.
pub record ConvertsWhole (budget : ℕ) (p : List ℕ) (seen : Reading) (q : List ℕ) : Type 0 where
  pub read : IsReadWhole seen p
  pub canonical : IsCanonicalOf budget q p

-- The stream is refused, and q is the text of the entries before the refusal. Bytes are left unread only if those that
-- were read show the refusal.
pub record RefusesStream (budget : ℕ) (p : List ℕ) (seen : Reading) (q : List ℕ) (r : Refusal) : Type 0 where
  pub none_failed : NoneFailed seen
  pub refused : (means budget p).refusal ≡ Some r
  pub text : q ≡ text (list_of budget p)
  pub left : IsReadWhole seen p ⊎ ((begun budget p).refusal ≡ Some r)

-- Memory ran out, where the reader itself can lack it, and q is the text of a prefix of the entries.
pub record LacksMemory (budget : ℕ) (p : List ℕ) (seen : Reading) (q : List ℕ) (r : Refusal) : Type 0 where
  pub none_failed : NoneFailed seen
  pub place : LacksWithin budget p r.place
  pub taken : List Entry
  pub prefix : IsPrefixOf taken (list_of budget p)
  pub text : q ≡ text taken

-- the stream is refused, for this cause; a failed write is no refusal
abbrev pub RefusesBy : ℕ → List ℕ → Reading → List ℕ → Refusal → Cause → Type 0
RefusesBy budget p seen q r stream = RefusesStream budget p seen q r
RefusesBy budget p seen q r memory = LacksMemory budget p seen q r
RefusesBy budget p seen q r device = ⊥

-- The input failed or was read too often, and q is the text of the entries so far.
pub record StopsReading (budget : ℕ) (p : List ℕ) (seen : Reading) (q : List ℕ) : Type 0 where
  pub cut_off : IsCutOff seen p
  pub going : (begun budget p).refusal ≡ None
  pub text : q ≡ text (begun budget p).entries

-- A write or the flush failed, and q is a prefix of the text.
pub record StopsWriting (budget : ℕ) (p : List ℕ) (seen : Reading) (q : List ℕ) : Type 0 where
  pub prefix : IsPrefixOf q (text (list_of budget p))
  pub left : IsReadWhole seen p ⊎ IsPrefixOf q (text (begun budget p).entries)

-- The answer, by whether the output has failed.
abbrev pub Converts : ℕ → List ℕ → Reading → List ℕ → Bool → Result ℕ ConvertFault → Type 0
Converts budget p seen q false (Ok n) = (n ≡ count_of q) × ConvertsWhole budget p seen q
Converts budget p seen q false (Err (ConvertFault.Refused r n)) = (n ≡ count_of q) × RefusesBy budget p seen q r (cause_of r.fault)
Converts budget p seen q false (Err (ConvertFault.Read n)) = (n ≡ count_of q) × StopsReading budget p seen q
Converts budget p seen q true (Err (ConvertFault.Write n)) = (n ≡ count_of q) × StopsWriting budget p seen q
Converts budget p seen q failed answer = ⊥

-- The last read, if there was one: the text of what the input had given before it was written. So nothing is read after
-- a failed write or a refusal.
pub record StopsAtOnce {I : Type 0} (i : inlet.Ghosts I) (budget : ℕ) (p : List ℕ) (start end : I) (q : List ℕ) : Type 0 where
  pub last : LastRead i budget p start end
  pub written : i.calls start < i.calls end → IsPrefixOf (text (begun budget last.before).entries) q
