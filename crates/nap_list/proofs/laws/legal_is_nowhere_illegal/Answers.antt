use Rattle.nap_list.proofs.PublicLaws.{legal_never_breaks}
use Rattle.nap_list.proofs.laws.legal_is_nowhere_illegal.Goals as goal

pub returns : goal.returns
returns c = legal_never_breaks
