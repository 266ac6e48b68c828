use Rattle.std.proofs.Common.{◌≡◌, take, string_bytes}
use Rattle.naplps.specs.Listing.{lines}
use Rattle.naplps_examples.proofs.listing.list.Given as goal

abbrev pub invariant-loop-entry : goal.invariant-loop-entry
invariant-loop-entry l = string_bytes l.text ≡ lines (take l.entry-index l.entry-items)
