use Rattle.std.specs.Prelude.{ℕ, suc, zero, ◌+◌, List, [], ◌++◌, length, Option, Some, None}

-- The front of a machine's input: no complete code yet, with what is unfinished; a refusal; or a code that acts, with
-- its entries, the machine after it, and the input that remains.
pub data FrontOf (M E F U B : Type 0) : Type 0 where
  pause : U → FrontOf M E F U B
  refuse : F → FrontOf M E F U B
  act : List E → M → List B → FrontOf M E F U B

-- The outcome of an input: the entries; the refusal, or else what is unfinished; the machine, and the input that isn't
-- complete.
pub record OutcomeOf (M E F U B : Type 0) : Type 0 where
  pub entries : List E
  pub refusal : Option F
  pub unfinished : Option U
  pub machine : M
  pub rest : List B

-- the outcome with these entries first
abbrev pub prepend : {M E F U B : Type 0} → List E → OutcomeOf M E F U B → OutcomeOf M E F U B
prepend es o = record { entries = es ++ o.entries; refusal = o.refusal; unfinished = o.unfinished; machine = o.machine; rest = o.rest }

abbrev pub paused : {M E F U B : Type 0} → M → List B → Option U → OutcomeOf M E F U B
paused m xs u = record { entries = []; refusal = None; unfinished = u; machine = m; rest = xs }

abbrev pub refused : {M E F U B : Type 0} → M → F → OutcomeOf M E F U B
refused m f = record { entries = []; refusal = Some f; unfinished = None; machine = m; rest = [] }

-- the outcome of an input by its front, if the outcome of the input after it is known
abbrev pub outcome_by_front : {M E F U B : Type 0} → (M → List B → OutcomeOf M E F U B) → M → List B → FrontOf M E F U B → OutcomeOf M E F U B
outcome_by_front next m xs (pause u) = paused m xs (Some u)
outcome_by_front next m xs (refuse f) = refused m f
outcome_by_front next m xs (act es m' ys) = prepend es (next m' ys)

-- the outcome after at most a given number of fronts
unfoldable pub outcome_within : {M E F U B : Type 0} → (M → List B → FrontOf M E F U B) → ℕ → M → List B → OutcomeOf M E F U B
outcome_within front zero m xs = paused m xs None
outcome_within front (suc fuel) m xs = outcome_by_front (outcome_within front fuel) m xs (front m xs)

-- The outcome of all fronts, until no complete code is left. Each code that acts lessens what is unread and what the
-- machine has left, taken together, so as many fronts as these are enough.
unfoldable pub outcome : {M E F U B : Type 0} → (M → List B → FrontOf M E F U B) → (M → ℕ) → M → List B → OutcomeOf M E F U B
outcome front left m xs = outcome_within front (suc (length xs + left m)) m xs

-- the outcome of an input with more input after it, if the outcome of the first part is known
abbrev pub continue_by : {M E F U B : Type 0} → (M → List B → OutcomeOf M E F U B) → Option F → OutcomeOf M E F U B → List B → OutcomeOf M E F U B
continue_by next (Some f) o ys = o
continue_by next None o ys = prepend o.entries (next o.machine (o.rest ++ ys))

abbrev pub continue : {M E F U B : Type 0} → (M → List B → OutcomeOf M E F U B) → OutcomeOf M E F U B → List B → OutcomeOf M E F U B
continue next o ys = continue_by next o.refusal o ys
