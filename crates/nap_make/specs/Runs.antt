use Rattle.std.specs.Prelude.{Err, List, Ok, Result, [], flat_map, length, ℕ, ◌++◌, ◌+◌, ◌^◌, ◌∷◌, ◌≡◌, ◌≢◌, ◌≤◌, ◌⊎◌}
use Rattle.nap_make.specs.Types.{Entry, Fits, Ghosts, Hand, LineMaker, MakeFault, after, code_text, line, lines}
use Rattle.nap_codes.specs.declared.code_set.CharSet.{CharSet}
use Rattle.nap_list.specs.{declared.attribute.Pen.TheVariants.After, declared.sink.SinkFault.SinkFault, declared.state.State.State}
use Rattle.nap_make.specs.{Entries.IsProper, ListMaking.MakerHasPut, ListMaking.SinkBroke, ListMaking.SinkTook, declared.lines.maker.CharLine.CharLine}

-- Lines that differ from the one before in their character alone.

-- The entry is a character after text; with any code between these parts they are the line of that character.
pub record HasCharLine (l : CharLine) (e : Entry) : Type 0 where
  pub hand : Hand
  pub code : ℕ
  pub entry_is : e ≡ Entry.Char l.set code hand
  pub after_text : hand.pen ≡ After
  pub parts : (c : ℕ) → line (Entry.Char l.set c hand) ≡ l.front.now ++ (code_text c ++ l.back.now)

-- the entry isn't a character after text
abbrev pub IsNoCharLine : Entry → Type 0
IsNoCharLine e = (set : CharSet) (code : ℕ) (hand : Hand) → e ≡ Entry.Char set code hand → hand.pen ≢ After

-- a line with this code, with LF
abbrev pub code_line : CharLine → ℕ → List ℕ
code_line l code = l.front.now ++ (code_text code ++ (l.back.now ++ 10 ∷ []))

abbrev pub code_lines : CharLine → List ℕ → List ℕ
code_lines l codes = flat_map (code_line l) codes

-- the state is that after a character that fit, and that has this line
pub record FollowsChar (l : CharLine) (s : State) : Type 0 where
  pub before : State
  pub entry : Entry
  pub proper : IsProper entry
  pub fits : Fits before entry
  pub state : s ≡ after before entry
  pub line_is : HasCharLine l entry

-- A maker has taken a line with these parts.
pub record FollowsLine {S : Type 0} (g : Ghosts S) (l : CharLine) (m : LineMaker S) : Type 0 where
  pub agrees : g.state m.sink ≡ m.state
  pub follows : FollowsChar l m.state

-- a maker took lines and left no more bytes than there were
pub record LeavesRest {S : Type 0} (g : Ghosts S) (m : LineMaker S) (bytes rest : List ℕ) : Type 0 where
  pub agrees : g.state m.sink ≡ m.state
  pub less : length rest ≤ length bytes

abbrev pub fault_of_sink : SinkFault → MakeFault
fault_of_sink SinkFault.Memory = MakeFault.Memory
fault_of_sink SinkFault.Write = MakeFault.Write

-- the entries were put after these; or memory ran out for one, or for their number, or the device failed during one
abbrev pub PutsEntries : {S : Type 0} → Ghosts S → S → List Entry → List Entry → LineMaker S → Result (Unit {0}) MakeFault → Type 0
PutsEntries g s es ds m (Ok done) = MakerHasPut g s (es ++ ds) m
PutsEntries g s es ds m (Err MakeFault.Memory) = ((d : List Entry) × (e : Entry) × (rest : List Entry) × (ds ≡ d ++ e ∷ rest) × SinkTook g s (es ++ d) m.sink) ⊎ ((2 ^ 64 ≤ length (es ++ ds) + 1) × SinkTook g s es m.sink)
PutsEntries g s es ds m (Err MakeFault.Write) = (d : List Entry) × (e : Entry) × (rest : List Entry) × (ds ≡ d ++ e ∷ rest) × SinkBroke g s (es ++ d) e m.sink
PutsEntries g s es ds m (Err _) = ⊥

-- The bytes were read up to the rest, and are the lines of entries that were put after these.
pub record TakesLines {S : Type 0} (g : Ghosts S) (s : S) (es : List Entry) (bytes : List ℕ) (m : LineMaker S) (rest : List ℕ) : Type 0 where
  pub more : List Entry
  pub parts : bytes ≡ lines more ++ rest
  pub holds : MakerHasPut g s (es ++ more) m
