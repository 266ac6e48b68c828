use Rattle.nap_list.proofs.PublicLaws.{batch_is_current}
use Rattle.nap_list.proofs.laws.batch_is_current.Goals as goal

pub returns : goal.returns
returns c = batch_is_current
