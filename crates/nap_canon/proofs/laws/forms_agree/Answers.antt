use Rattle.nap_canon.proofs.PublicLaws.{forms_agree}
use Rattle.nap_canon.proofs.laws.forms_agree.Goals as goal

pub returns : goal.returns
returns c = forms_agree
