use Rattle.nap_list.proofs.PublicLaws.{agreeing_fits}
use Rattle.nap_list.proofs.laws.agreeing_fits.Goals as goal

pub returns : goal.returns
returns c = agreeing_fits
