use Rattle.nap_draw.proofs.PublicLaws.{rule_fits}
use Rattle.nap_draw.proofs.laws.rule_fits.Goals as goal

pub returns : goal.returns
returns c = rule_fits
