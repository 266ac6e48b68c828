use Rattle.nap_command.proofs.FrontLemmas.{begun_requests_are_none}
use Rattle.nap_command.proofs.batch.laws.begun_requests_are_none.Goals as goal

pub returns : goal.returns
returns c = begun_requests_are_none
