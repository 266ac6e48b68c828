use Rattle.std.specs.Prelude.{All, IsSome, List, None, [], length, ℕ, ◌++◌, ◌+◌, ◌<◌, ◌^◌, ◌∷◌, ◌≡◌, ◌≢◌, ◌≤◌, ◌⊎◌}
use Rattle.nap_make.specs.Types.{AllFit, AllInRange, Entry, Fits, Legal, MakeFault, line, lines, start, walk}
use Rattle.nap_make.specs.Entries.{IsProper, TellsColumn}

-- The lines of a list.

-- the bytes are the lines of this list, which is legal and in range
pub record AreLines (p : List ℕ) (es : List Entry) : Type 0 where
  pub legal : Legal es
  pub in_range : AllInRange es
  pub lines_are : p ≡ lines es

-- Lines that no list has, by the first wrong line.

-- the first lines are those of these entries, each of which fits, and the rest is these bytes
pub record LinesSoFar (p : List ℕ) (es : List Entry) (rest : List ℕ) : Type 0 where
  pub proper : All IsProper es
  pub fit : AllFit start es
  pub parts : p ≡ lines es ++ rest

-- no line of an entry with LF begins these bytes
abbrev pub BeginsNoLine : List ℕ → Type 0
BeginsNoLine rest = (e : Entry) (more : List ℕ) → IsProper e → rest ≢ line e ++ 10 ∷ more

-- After the lines of these entries, the line of this number is no entry's; what is before the column begins one.
pub record NoLineAt (p : List ℕ) (es : List Entry) (number column : ℕ) : Type 0 where
  pub rest : List ℕ
  pub so_far : LinesSoFar p es rest
  pub place : number ≡ length es + 1
  pub some : 0 < length rest
  pub none : BeginsNoLine rest
  pub begins : TellsColumn rest column

-- After the lines of these entries, the line of this number is that of an entry that doesn't fit.
pub record MisfitAt (p : List ℕ) (es : List Entry) (number : ℕ) : Type 0 where
  pub entry : Entry
  pub rest : List ℕ
  pub so_far : LinesSoFar p es (line entry ++ 10 ∷ rest)
  pub place : number ≡ length es + 1
  pub proper : IsProper entry
  pub misfit : Fits (walk start es) entry → ⊥

-- the entry of this number opens a definition that no later entry ends
pub record OpenedAt (es : List Entry) (number : ℕ) : Type 0 where
  pub before : List Entry
  pub opening : Entry
  pub inside : List Entry
  pub parts : es ≡ before ++ opening ∷ inside
  pub place : number ≡ length before + 1
  pub closed : (walk start before).definition ≡ None
  pub opens : IsSome (walk start (before ++ opening ∷ [])).definition
  pub unended : All (λ e. e ≢ Entry.DefEnd) inside

-- The bytes are the lines of as many entries, and the definition opened by one of them isn't ended.
pub record OpenAt (p : List ℕ) (es : List Entry) (number opening : ℕ) : Type 0 where
  pub so_far : LinesSoFar p es []
  pub place : number ≡ length es
  pub opened : OpenedAt es opening

-- the bytes begin with the lines of these entries
abbrev pub ComeFirst : List ℕ → List Entry → Type 0
ComeFirst p es = (rest : List ℕ) × LinesSoFar p es rest

-- After the lines of these entries comes that of one more.
pub record OneMoreAt (p : List ℕ) (es : List Entry) : Type 0 where
  pub entry : Entry
  pub rest : List ℕ
  pub so_far : LinesSoFar p es (line entry ++ 10 ∷ rest)
  pub proper : IsProper entry

-- After the lines of these entries come bytes of a line whose end isn't read.
pub record PartAt (p : List ℕ) (es : List Entry) : Type 0 where
  pub rest : List ℕ
  pub so_far : LinesSoFar p es rest
  pub some : 0 < length rest
  pub none : All (λ b. b ≢ 10) rest

-- The lines of these entries and of others come first, and the number of one more line doesn't fit into 64 bits.
pub record UncountedAt (p : List ℕ) (es : List Entry) : Type 0 where
  pub others : List Entry
  pub first : ComeFirst p (es ++ others)
  pub many : 2 ^ 64 ≤ length (es ++ others) + 1

-- where memory may run out: for one more entry, for bytes of a line that are kept, or for the number of lines
abbrev pub MayLack : List ℕ → List Entry → Type 0
MayLack p es = OneMoreAt p es ⊎ (PartAt p es ⊎ UncountedAt p es)

-- Why lines, after those of these entries, aren't a list's. A device fails at the entry of one more line.
abbrev pub MakesNone : List ℕ → List Entry → MakeFault → Type 0
MakesNone p es (MakeFault.Line number column) = NoLineAt p es number column
MakesNone p es (MakeFault.Misfit number) = MisfitAt p es number
MakesNone p es (MakeFault.Open number opening) = OpenAt p es number opening
MakesNone p es MakeFault.Memory = MayLack p es
MakesNone p es MakeFault.Write = (e : Entry) × ComeFirst p (es ++ e ∷ [])

-- lines, and whatever follows them, aren't a list's; for lack of memory the lines so far count
abbrev pub ShowsNone : List ℕ → List Entry → MakeFault → Type 0
ShowsNone p es MakeFault.Memory = MayLack p es
ShowsNone p es fault = (more : List ℕ) → MakesNone (p ++ more) es fault
