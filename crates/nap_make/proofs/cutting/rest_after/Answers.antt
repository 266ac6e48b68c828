use Rattle.nap_make.proofs.{Decides-eqb, strip_prefix_is}
use Rattle.nap_make.proofs.cutting.rest_after.Goals as goal

pub returns : goal.returns
returns c = strip_prefix_is Decides-eqb c.args.bytes.now c.args.prefix.now c.strip_prefix.result c.strip_prefix.ensures.cases
