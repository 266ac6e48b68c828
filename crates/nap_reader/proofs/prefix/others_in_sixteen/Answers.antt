use Rattle.nap_reader.proofs.{arith, other_mask}
use Rattle.nap_reader.proofs.prefix.others_in_sixteen.Goals as goal

pub returns : goal.returns
returns c = other_mask c.args.least 16 c.args.block c.requires (omega arith) c.fits-block.0 c.fits-block.1
