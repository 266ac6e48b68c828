use Rattle.std.specs.Prelude.{ℕ, ◌≡◌, ◌≢◌, List, Option, Some, Result, Ok, Err, ⊤}
use Rattle.std.specs.Io.KnownBytes.{Appends}
use Rattle.naplps.specs.declared.Fault.TheVariants as faults
use Rattle.naplps.specs.declared.ConvertFault.{ConvertFault}
use Rattle.naplps.specs.declared.ConvertFault.TheVariants as fault
use Rattle.naplps.specs.Budgets.{usual_budget}
use Rattle.naplps.specs.Converting.{count_of}
use Rattle.naplps.specs.Stream.{means}
use Rattle.naplps.specs.Streams.{IsCanonicalOf, list_of}
use Rattle.naplps.specs.Text.{text}

-- a writer took these bytes, and this is their number
abbrev pub Gets : Option (List ℕ) → Option (List ℕ) → List ℕ → ℕ → Type 0
Gets before after bytes count = Appends before after bytes × (count ≡ count_of bytes)

-- what the answer says about a page that was converted from a reader to a writer
abbrev pub Converted : List ℕ → Option (List ℕ) → Option (List ℕ) → Result ℕ ConvertFault → Type 0
Converted page before after (Ok count) = (bytes : List ℕ) × IsCanonicalOf usual_budget bytes page × Gets before after bytes count
Converted page before after (Err (fault.Refused r count)) =
    r.fault ≢ faults.Memory → ((means usual_budget page).refusal ≡ Some r) × Gets before after (text (list_of usual_budget page)) count
Converted page before after (Err _) = ⊤
