use Rattle.nap_draw.proofs.PublicLaws.{code_fits}
use Rattle.nap_draw.proofs.laws.code_fits.Goals as goal

pub returns : goal.returns
returns c = code_fits
