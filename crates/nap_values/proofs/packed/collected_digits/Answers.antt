use Rattle.nap_values.proofs.{SpreadLemmas.collects, SpreadLemmas.collects-below, rules}
use Rattle.nap_values.proofs.packed.collected_digits.Goals as goal

pub overflow_cast-result : goal.overflow_cast-result
overflow_cast-result c = let below = collects-below c.args.digits c.requires in search rules

pub returns : goal.returns
returns c = collects c.args.digits c.requires
