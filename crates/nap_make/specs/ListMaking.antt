use Rattle.std.specs.Prelude.{All, Err, IsSome, List, Ok, Result, Vec, [], false, length, true, ℕ, ◌++◌, ◌+◌, vec_capacity, ◌<◌, ◌^◌, ◌∷◌, ◌≡◌, ◌≢◌, ◌≤◌, ◌⊎◌}
use Rattle.nap_make.specs.Types.{AllFit, Entry, Fits, Ghosts, IsCutOff, IsReadWhole, LineMaker, ListFault, MakeFault, NoneFailed, Reading, lines, start, walk}
use Rattle.std.specs.declared.alloc.Global.{Global}
use Rattle.nap_make.specs.{Entries.IsProper, Entries.TellsColumn, Laws.longest_line, declared.lines.reader.LineReader.LineReader}
use Rattle.nap_make.specs.Lists.{AreLines, BeginsNoLine, ComeFirst, LinesSoFar, MakesNone, OpenedAt, ShowsNone}

-- What a sink has taken.

-- the sink took these entries, and its device hasn't failed
pub record SinkTook {S : Type 0} (g : Ghosts S) (s : S) (es : List Entry) (t : S) : Type 0 where
  pub took : g.took s es t
  pub works : g.failed t ≡ false

-- the sink took these entries, and its device failed during one more
pub record SinkBroke {S : Type 0} (g : Ghosts S) (s : S) (es : List Entry) (e : Entry) (t : S) : Type 0 where
  pub broke : g.broke s es e t
  pub failed : g.failed t ≡ true

-- what a sink took, where the lines of these entries were read or its device failed during one more
abbrev pub StopsLinesBy : {S : Type 0} → Ghosts S → S → List ℕ → List Entry → S → MakeFault → Type 0
StopsLinesBy g s p es t MakeFault.Write = (e : Entry) × ((more : List ℕ) → (rest : List ℕ) × LinesSoFar (p ++ more) (es ++ e ∷ []) rest) × SinkBroke g s es e t
StopsLinesBy g s p es t fault = ShowsNone p es fault × SinkTook g s es t

-- The maker of a list.

-- A maker put these entries into a sink that was s.
pub record MakerHasPut {S : Type 0} (g : Ghosts S) (s : S) (es : List Entry) (m : LineMaker S) : Type 0 where
  pub proper : All IsProper es
  pub fit : AllFit start es
  pub kept : SinkTook g s es m.sink
  pub state : m.state ≡ walk start es
  pub count : m.lines ≡ length es
  pub opened : IsSome (walk start es).definition → OpenedAt es m.opening

-- the entry of one more line was put, or the fault says why not
abbrev pub PutsEntry : {S : Type 0} → Ghosts S → S → List Entry → Entry → LineMaker S → Result (Unit {0}) MakeFault → Type 0
PutsEntry g s es e m (Ok done) = MakerHasPut g s (es ++ e ∷ []) m
PutsEntry g s es e m (Err (MakeFault.Misfit number)) = (number ≡ length es + 1) × (Fits (walk start es) e → ⊥) × SinkTook g s es m.sink
PutsEntry g s es e m (Err MakeFault.Memory) = SinkTook g s es m.sink
PutsEntry g s es e m (Err MakeFault.Write) = Fits (walk start es) e × SinkBroke g s es e m.sink
PutsEntry g s es e m (Err _) = ⊥

-- the fault of a last line without LF, or of one that is too long
abbrev pub IsUnendedLine : List Entry → List ℕ → MakeFault → Type 0
IsUnendedLine es bytes (MakeFault.Line number column) = (number ≡ length es + 1) × TellsColumn bytes column
IsUnendedLine es bytes MakeFault.Memory = 2 ^ 64 ≤ length es + 1
IsUnendedLine es bytes _ = ⊥

-- The reader of lines.

-- no bytes of a line are kept, or there is memory for more than a line may have
abbrev pub HasLineMemory : Vec ℕ Global → Type 0
HasLineMemory part = (part.items ≡ []) ⊎ (longest_line < vec_capacity part)

-- What holds of a reader between two pieces: its maker and its sink have one state; what it keeps of a line has no LF and
-- at most as many bytes as a line may have; and it has memory for one byte more.
pub record IsReady {S : Type 0} (g : Ghosts S) (r : LineReader S) : Type 0 where
  pub agrees : g.state r.maker.sink ≡ r.maker.state
  pub whole : All (λ b. b ≢ 10) r.part.items
  pub short : length r.part.items ≤ longest_line
  pub memory : HasLineMemory r.part

-- A reader that began with a sink s has read the bytes p.
pub record HasReadLines {S : Type 0} (g : Ghosts S) (s : S) (p : List ℕ) (r : LineReader S) : Type 0 where
  pub entries : List Entry
  pub holds : MakerHasPut g s entries r.maker
  pub parts : p ≡ lines entries ++ r.part.items

-- the bytes so far aren't the lines of a list
pub record StopsLines {S : Type 0} (g : Ghosts S) (s : S) (p : List ℕ) (t : S) (fault : MakeFault) : Type 0 where
  pub entries : List Entry
  pub first : ComeFirst p entries
  pub why : StopsLinesBy g s p entries t fault

-- bytes of a line were read after this part of it, and all have no LF; memory runs out only for the first part
abbrev pub KeepsPart : {S : Type 0} → Ghosts S → S → List Entry → List ℕ → List ℕ → LineMaker S → MakeFault → Type 0
KeepsPart g s es part bytes m (MakeFault.Line number column) = (number ≡ length es + 1) × (0 < length (part ++ bytes)) × ((more : List ℕ) → BeginsNoLine ((part ++ bytes) ++ more) × TellsColumn ((part ++ bytes) ++ more) column) × SinkTook g s es m.sink
KeepsPart g s es part bytes m MakeFault.Memory = (0 < length (part ++ bytes)) × ((part ≡ []) ⊎ (2 ^ 64 ≤ length es + 1)) × SinkTook g s es m.sink
KeepsPart g s es part bytes m _ = ⊥

-- more bytes were read, or they aren't the lines of a list
abbrev pub FeedsLines : {S : Type 0} → Ghosts S → S → List ℕ → LineReader S → Result (Unit {0}) MakeFault → Type 0
FeedsLines g s p r (Ok done) = HasReadLines g s p r
FeedsLines g s p r (Err fault) = StopsLines g s p r.maker.sink fault

-- The bytes p of an input were read: all of them; or it failed, or was read too often; or no list has these lines. No
-- read gave zero bytes before its end.
abbrev pub FeedsFrom : {S : Type 0} → Ghosts S → S → List ℕ → Reading → LineReader S → Result (Unit {0}) ListFault → Type 0
FeedsFrom g s p seen r (Ok done) = IsReadWhole seen p × HasReadLines g s p r
FeedsFrom g s p seen r (Err (ListFault.Lines fault)) = NoneFailed seen × (seen.reads ≤ length p) × StopsLines g s p r.maker.sink fault
FeedsFrom g s p seen r (Err ListFault.Read) = IsCutOff seen p × IsReady g r × HasReadLines g s p r

-- A sink that was s took the list of the lines p.
pub record MakesList {S : Type 0} (g : Ghosts S) (s : S) (p : List ℕ) (t : S) : Type 0 where
  pub entries : List Entry
  pub so_far : LinesSoFar p entries []
  pub are : AreLines p entries
  pub kept : SinkTook g s entries t

-- The lines p aren't a list's, and a sink that was s took the entries before the wrong line.
pub record MakesNoList {S : Type 0} (g : Ghosts S) (s : S) (p : List ℕ) (t : S) (fault : MakeFault) : Type 0 where
  pub entries : List Entry
  pub first : ComeFirst p entries
  pub own : fault ≢ MakeFault.Write
  pub why : MakesNone p entries fault
  pub kept : SinkTook g s entries t

-- the lines ended, with this number
abbrev pub Finishes : {S : Type 0} → Ghosts S → S → List ℕ → S → Result ℕ MakeFault → Type 0
Finishes g s p t (Ok n) = (made : MakesList g s p t) × (n ≡ length made.entries)
Finishes g s p t (Err fault) = MakesNoList g s p t fault

-- the entries of lines in memory were put into a sink that was s, with their number; or the lines aren't a list's, or
-- the sink failed
abbrev pub PutsLines : {S : Type 0} → Ghosts S → S → List ℕ → S → Result ℕ MakeFault → Type 0
PutsLines g s p t (Err MakeFault.Write) = StopsLines g s p t MakeFault.Write
PutsLines g s p t result = Finishes g s p t result

-- The input failed or was read too often. A sink that was s took the entries of the lines so far.
pub record CutsOffLines {S : Type 0} (g : Ghosts S) (s : S) (p : List ℕ) (seen : Reading) (t : S) : Type 0 where
  pub cut_off : IsCutOff seen p
  pub entries : List Entry
  pub rest : List ℕ
  pub so_far : LinesSoFar p entries rest
  pub none : All (λ b. b ≢ 10) rest
  pub kept : SinkTook g s entries t

-- The bytes p of an input were read, and the sink s became t. Bytes are left unread only if no list has the lines that
-- were read; no read gave zero bytes then.
abbrev pub Makes : {S : Type 0} → Ghosts S → S → List ℕ → Reading → S → Result (Unit {0}) ListFault → Type 0
Makes g s p seen t (Ok done) = IsReadWhole seen p × MakesList g s p t
Makes g s p seen t (Err (ListFault.Lines fault)) = (IsReadWhole seen p × MakesNoList g s p t fault) ⊎ (NoneFailed seen × (seen.reads ≤ length p) × StopsLines g s p t fault)
Makes g s p seen t (Err ListFault.Read) = CutsOffLines g s p seen t
