use Rattle.nap_command.proofs.FrontLemmas.{requests_are_cut_one_way}
use Rattle.nap_command.proofs.batch.laws.requests_are_cut_one_way.Goals as goal

pub returns : goal.returns
returns c = requests_are_cut_one_way
