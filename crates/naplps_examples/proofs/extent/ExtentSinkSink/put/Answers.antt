use Rattle.std.proofs.Common.{arith}
use Rattle.std.proofs.lemmas.Grind.{common_steps}
use Rattle.naplps.specs.State.{walk}
use Rattle.naplps_examples.proofs.extent.ExtentSinkSink.put.Goals as goal

pub returns-clause-took : goal.returns-clause-took
unfolding walk
returns-clause-took c = grind (arith, common_steps)
