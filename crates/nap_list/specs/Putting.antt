use Rattle.std.specs.Prelude.{ℕ, ◌≡◌, ◌<◌, ◌≤◌, ◌⊎◌, ◌++◌, Bool, true, false, List, [], ◌∷◌, length, Result, Ok, Err, IsErrOf}
use Rattle.nap_list.specs.{Types.Entry, Types.SinkFault, Types.State, declared.sink.BatchFault.BatchFault, State.walk}

-- What a sink took of a list, entry by entry or as a batch.

-- a sink as contracts see it: the members of the trait as a record
pub record SinkModel (S : Type 0) : Type 1 where
  pub state : S → State
  pub wants : S → List Entry → Type 0
  pub failed : S → Bool
  pub took : S → List Entry → S → Type 0
  pub broke : S → List Entry → Entry → S → Type 0

abbrev pub sink_model : {S : Type 0} → (S → State) → (S → List Entry → Type 0) → (S → Bool) → (S → List Entry → S → Type 0) → (S → List Entry → Entry → S → Type 0) → SinkModel S
sink_model state wants failed took broke = record { state = state; wants = wants; failed = failed; took = took; broke = broke }

-- the sink took a prefix of the list, and not the next entry
abbrev pub StopsAmid : {S : Type 0} → (S → List Entry → S → Type 0) → S → List Entry → S → Type 0
StopsAmid took s list t = (prefix : List Entry) × (next : Entry) × (rest : List Entry) × (list ≡ prefix ++ next ∷ rest) × took s prefix t

-- the sink took a prefix of the list, and its device failed during the next entry
abbrev pub BreaksAmid : {S : Type 0} → (S → List Entry → Entry → S → Type 0) → S → List Entry → S → Type 0
BreaksAmid broke s list t = (prefix : List Entry) × (next : Entry) × (rest : List Entry) × (list ≡ prefix ++ next ∷ rest) × broke s prefix next t

-- the progress of putting a list: the sink took these entries, and the rest is left
pub record Putting {S : Type 0} (h : SinkModel S) (s t : S) (whole rest : List Entry) : Type 0 where
  pub done : List Entry
  pub parts : whole ≡ done ++ rest
  pub taken : h.took s done t
  pub state : h.state t ≡ walk (h.state s) done
  pub same : h.failed t ≡ true → t ≡ s
  pub none : h.failed s ≡ true → (done ≡ []) × (t ≡ s)

-- the sink took n entries of the list, and memory ran out for the next one
pub record StopsAfter {S : Type 0} (h : SinkModel S) (s : S) (list : List Entry) (n : ℕ) (t : S) : Type 0 where
  pub prefix : List Entry
  pub next : Entry
  pub rest : List Entry
  pub parts : list ≡ prefix ++ next ∷ rest
  pub count : length prefix ≡ n
  pub taken : h.took s prefix t
  pub wants : h.wants s (prefix ++ next ∷ [])

-- the sink took n entries of the list, and its device failed during the next one
pub record BreaksAfter {S : Type 0} (broke : S → List Entry → Entry → S → Type 0) (s : S) (list : List Entry) (n : ℕ) (t : S) : Type 0 where
  pub prefix : List Entry
  pub next : Entry
  pub rest : List Entry
  pub parts : list ≡ prefix ++ next ∷ rest
  pub count : length prefix ≡ n
  pub broken : broke s prefix next t

-- where the putting of a list halts; a sink whose device had failed takes nothing
abbrev pub HaltsAfter : {S : Type 0} → SinkModel S → List Entry → S → S → ℕ → SinkFault → Type 0
HaltsAfter h list s t n SinkFault.Memory = StopsAfter h s list n t
HaltsAfter h list s t n SinkFault.Write = ((h.failed s ≡ true) × (t ≡ s) × (n ≡ 0)) ⊎ BreaksAfter h.broke s list n t

-- what the fault says about the device: with lack of memory it hasn't failed; a sink whose device had failed takes
-- nothing
pub record FaultMatchesDevice {S : Type 0} (h : SinkModel S) (s t : S) (n : ℕ) (fault : SinkFault) : Type 0 where
  pub write : fault ≡ SinkFault.Write → h.failed t ≡ true
  pub memory : fault ≡ SinkFault.Memory → h.failed t ≡ false
  pub none : h.failed s ≡ true → (fault ≡ SinkFault.Write) × (t ≡ s) × (n ≡ 0)

-- the sink took all of the list; if its device had failed, the list is empty
pub record TakesAll {S : Type 0} (h : SinkModel S) (list : List Entry) (s t : S) : Type 0 where
  pub took : h.took s list t
  pub state : h.state t ≡ walk (h.state s) list
  pub works : h.failed s ≡ false → h.failed t ≡ false
  pub none : h.failed s ≡ true → (list ≡ []) × (t ≡ s)

-- the result of putting a list: the sink took all of it, or the number of entries in the error
abbrev pub Put : {S : Type 0} → SinkModel S → List Entry → S → S → Result (Unit {0}) BatchFault → Type 0
Put h list s t (Ok _) = TakesAll h list s t
Put h list s t (Err stop) = HaltsAfter h list s t stop.taken stop.fault × FaultMatchesDevice h s t stop.taken stop.fault

-- the result for a sink that took a number of the entries of a list of that length: lack of memory unless it took all
abbrev pub UnlessAll : ℕ → ℕ → Result (Unit {0}) BatchFault → Type 0
UnlessAll taken count (Ok _) = count ≤ taken
UnlessAll taken count (Err stop) = (stop ≡ record { taken = taken; fault = SinkFault.Memory }) × (taken < count)

-- the result of putting a list, where the error doesn't have the number of entries taken
abbrev pub PutSome : {S A : Type 0} → SinkModel S → List Entry → S → S → Result A SinkFault → Type 0
PutSome h list s t (Ok _) = TakesAll h list s t
PutSome h list s t (Err fault) = (n : ℕ) × HaltsAfter h list s t n fault × FaultMatchesDevice h s t n fault

-- What a sink answers for an entry that it doesn't take.
pub record NotTaken {S : Type 0} (h : SinkModel S) (s t : S) (x : Entry) (fault : SinkFault) : Type 0 where
  pub memory : IsErrOf {T = Unit {0}} (Err fault) SinkFault.Memory → t ≡ s
  pub wants : IsErrOf {T = Unit {0}} (Err fault) SinkFault.Memory → h.wants s (x ∷ [])
  pub refuses : h.failed s ≡ true → IsErrOf {T = Unit {0}} (Err fault) SinkFault.Write
  pub write : IsErrOf {T = Unit {0}} (Err fault) SinkFault.Write → h.failed t ≡ true
  pub only_write : h.failed t ≡ true → IsErrOf {T = Unit {0}} (Err fault) SinkFault.Write
  pub broke : IsErrOf {T = Unit {0}} (Err fault) SinkFault.Write → h.failed s ≡ false → h.broke s [] x t
  pub still : IsErrOf {T = Unit {0}} (Err fault) SinkFault.Write → h.failed s ≡ true → t ≡ s

-- The laws that every sink keeps.

-- two lists taken one after the other are taken as one
abbrev pub TookMore : {S : Type 0} → SinkModel S → Type 0
TookMore {S} h = (s t u : S) (d e : List Entry) → h.took s d t → h.took t e u → h.took s (d ++ e) u

-- a failure after a list that was taken is a failure after the whole
abbrev pub TookBroke : {S : Type 0} → SinkModel S → Type 0
TookBroke {S} h = (s t u : S) (d e : List Entry) (x : Entry) → h.took s d t → h.broke t e x u → h.broke s (d ++ e) x u

-- lack of memory for entries after a list that was taken is lack of memory for the whole
abbrev pub WantsMore : {S : Type 0} → SinkModel S → Type 0
WantsMore {S} h = (s t : S) (d e f : List Entry) → h.took s d t → h.wants t e → h.wants s (d ++ (e ++ f))
