use Rattle.nap_values.proofs.{ColourLemmas.collects, SpreadLemmas.below_base, rules}
use Rattle.nap_values.proofs.colours.collected_digits.Goals as goal

pub overflow_add-quarters : goal.overflow_add-quarters
overflow_add-quarters c = let below = below_base 4 _ c.requires in search rules

pub returns : goal.returns
returns c = collects c.args.digits c.requires
