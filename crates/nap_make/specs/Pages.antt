use Rattle.std.specs.Prelude.{All, Bool, Err, List, Ok, Result, false, length, true, ℕ, ◌≡◌, ◌≢◌, ◌≤◌, ◌⊎◌}
use Rattle.nap_make.specs.Types.{Entry, IsCutOff, IsReadWhole, ListFault, MakeFault, NoneFailed, Reading, text}
use Rattle.nap_canon.specs.Converting.{IsPrefixOf, count_of}
use Rattle.nap_make.specs.{Lists.LinesSoFar, Lists.MakesNone, Lists.ShowsNone, declared.page.PageFault.PageFault, Making.IsMadeOf}

-- A page made of lines: the bytes p were read, and the output took q.

-- All lines were read, and q is the page that they make.
pub record MakesWhole (p : List ℕ) (seen : Reading) (q : List ℕ) : Type 0 where
  pub read : IsReadWhole seen p
  pub made : IsMadeOf q p

-- The lines aren't a list's, and q is the text of those before the wrong one. Bytes are left unread only if those that
-- were read show it.
pub record RefusesLines (p : List ℕ) (seen : Reading) (q : List ℕ) (fault : MakeFault) : Type 0 where
  pub none_failed : NoneFailed seen
  pub before : List Entry
  pub why : MakesNone p before fault
  pub text_is : q ≡ text before
  pub left : IsReadWhole seen p ⊎ ShowsNone p before fault

-- a failed write isn't a fault of the lines
abbrev pub RefusesLinesBy : List ℕ → Reading → List ℕ → MakeFault → Type 0
RefusesLinesBy p seen q MakeFault.Write = ⊥
RefusesLinesBy p seen q fault = RefusesLines p seen q fault

-- The input failed or was read too often, and q is the text of the lines so far.
pub record CutsOffPage (p : List ℕ) (seen : Reading) (q : List ℕ) : Type 0 where
  pub cut_off : IsCutOff seen p
  pub entries : List Entry
  pub rest : List ℕ
  pub so_far : LinesSoFar p entries rest
  pub none : All (λ b. b ≢ 10) rest
  pub text_is : q ≡ text entries

-- No read failed, and each gave bytes.
pub record EachGave (p : List ℕ) (seen : Reading) : Type 0 where
  pub none_failed : NoneFailed seen
  pub gave : seen.reads ≤ length p

-- A write or the flush failed, and q is a prefix of the text of lines that were read. Bytes are left unread only if a
-- write failed, or the input.
pub record MakesPart (p : List ℕ) (seen : Reading) (q : List ℕ) : Type 0 where
  pub entries : List Entry
  pub rest : List ℕ
  pub so_far : LinesSoFar p entries rest
  pub prefix : IsPrefixOf q (text entries)
  pub left : IsReadWhole seen p ⊎ (IsCutOff seen p ⊎ EachGave p seen)

-- By whether a write has failed: no read after it could fail or find the end, so nothing was read after it.
abbrev pub ReadsNoMore : Bool → List ℕ → Reading → Type 0
ReadsNoMore true p seen = EachGave p seen
ReadsNoMore false p seen = Unit {0}

-- what is answered, by whether the output has failed
abbrev pub MakesPage : List ℕ → Reading → List ℕ → Bool → Result ℕ PageFault → Type 0
MakesPage p seen q false (Ok n) = (n ≡ count_of q) × MakesWhole p seen q
MakesPage p seen q false (Err (PageFault.Lines fault n)) = (n ≡ count_of q) × RefusesLinesBy p seen q fault
MakesPage p seen q false (Err (PageFault.Read n)) = (n ≡ count_of q) × CutsOffPage p seen q
MakesPage p seen q true (Err (PageFault.Write n)) = (n ≡ count_of q) × MakesPart p seen q
MakesPage p seen q failed answer = ⊥

-- the answer for lines that were read with this result, where n bytes were written
abbrev pub page_answer : ℕ → Result (Unit {0}) ListFault → Result ℕ PageFault
page_answer n (Ok done) = Ok n
page_answer n (Err (ListFault.Lines fault)) = Err (PageFault.Lines fault n)
page_answer n (Err ListFault.Read) = Err (PageFault.Read n)

-- a failed output replaces any other answer
abbrev pub ConcludesPage : ℕ → Result (Unit {0}) ListFault → Bool → Result ℕ PageFault → Type 0
ConcludesPage n made true answer = answer ≡ Err (PageFault.Write n)
ConcludesPage n made false answer = answer ≡ page_answer n made
