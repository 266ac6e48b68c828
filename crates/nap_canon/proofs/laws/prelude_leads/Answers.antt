use Rattle.nap_canon.proofs.PublicLaws.{prelude_leads}
use Rattle.nap_canon.proofs.laws.prelude_leads.Goals as goal

pub returns : goal.returns
returns c = prelude_leads
