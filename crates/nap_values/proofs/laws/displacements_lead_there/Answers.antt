use Rattle.nap_values.proofs.PublicLaws.{displacements_lead_there}
use Rattle.nap_values.proofs.laws.displacements_lead_there.Goals as goal

pub returns : goal.returns
returns c = displacements_lead_there
