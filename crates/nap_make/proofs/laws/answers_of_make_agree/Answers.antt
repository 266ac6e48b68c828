use Rattle.nap_make.proofs.AgreeLemmas.{answers_agree}
use Rattle.nap_make.proofs.laws.answers_of_make_agree.Goals as goal

pub returns : goal.returns
returns c = answers_agree
