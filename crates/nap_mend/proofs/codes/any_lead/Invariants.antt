use Rattle.std.proofs.Common.{length, ◌-◌, ◌≡◌, ◌≤◌}
use Rattle.nap_mend.specs.Codes.{lead_within, no_lead}
use Rattle.nap_mend.proofs.codes.any_lead.Given as goal

abbrev pub invariant-loop : goal.invariant-loop
invariant-loop l = (lead_within l.bytes (length l.bytes - l.counter) l.lead ≡ lead_within l.bytes (length l.bytes) no_lead) × (l.lead.end ≤ length l.bytes)
