use Rattle.std.specs.Prelude.{ℕ, List, ◌++◌, Option, None, Some, codes, decimal}
use Rattle.naplps.specs.declared.Entry.{Entry}
use Rattle.naplps.specs.declared.Refusal.{Refusal}
use Rattle.naplps.specs.Faults.{name_of}
use Rattle.naplps.specs.Listing.{lines}
use Rattle.naplps.specs.Stream.{Outcome}

-- the lines of the entries; or the name of the refusal, and its place
abbrev pub listing_by : List Entry → Option Refusal → List ℕ
listing_by entries None = lines entries
listing_by entries (Some r) = name_of r.fault ++ codes " at " ++ decimal r.place ++ codes "\n"

-- what is returned for a page with this meaning
abbrev pub listing : Outcome → List ℕ
listing o = listing_by o.entries o.refusal
